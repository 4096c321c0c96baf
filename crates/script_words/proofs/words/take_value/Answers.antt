-- A value is taken at the place of its name, where that is empty.
use Rattle.std.proofs.Common.{◌<◌, length, ◌∙◌, sym, map, option_map, arith}
use Rattle.std.proofs.lemmas.List.{map-set}
use Rattle.script_words.proofs.NamedLaws.{position-lent, value-taken, value-twice, value-unknown, place-empty, place-full}
use Rattle.script_words.proofs.words.take_value.Goals as goal

pub returns-in_default : goal.returns-in_default
returns-in_default c = λ flags ws given apart named rest.
    value-unknown (map (λ n. n.now) c.args.names.now) flags ws rest c.args.name.now c.args.value.now (sym (position-lent c.args.name.now c.args.names.now) ∙ sym c.place_of.ensures.value ∙ c.in_default.is)

pub returns-then-is_some : goal.returns-then-is_some
returns-then-is_some c = λ flags ws given apart named rest.
    let within : c.in-Some.place < length c.args.values.now = omega (arith, c.in-Some.ensures.within, c.requires) in
    let full = place-full c.args.values.now c.in-Some.place within (sym c.is_some.ensures ∙ c.if-is_some.true) in
    value-twice (map (λ n. n.now) c.args.names.now) flags ws (map (option_map (λ v. v.now)) c.args.values.now) given apart named c.args.name.now c.in-Some.place c.args.value.now full.0 rest
    (sym (position-lent c.args.name.now c.args.names.now) ∙ sym c.place_of.ensures.value ∙ c.in-Some.is) full.1

pub returns : goal.returns
returns c = λ flags ws given apart named.
    let within : c.in-Some.place < length c.args.values.now = omega (arith, c.in-Some.ensures.within, c.requires) in
    let empty = place-empty c.args.values.now c.in-Some.place within (sym c.is_some.ensures ∙ c.if-is_some.false) in
    rw (map-set (option_map (λ v. v.now)) c.args.values.now c.in-Some.place)
    (value-taken (map (λ n. n.now) c.args.names.now) flags ws (map (option_map (λ v. v.now)) c.args.values.now) given apart named c.args.name.now c.in-Some.place c.args.value.now
    (sym (position-lent c.args.name.now c.args.names.now) ∙ sym c.place_of.ensures.value ∙ c.in-Some.is) empty)
