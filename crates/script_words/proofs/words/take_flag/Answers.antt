-- A flag is taken at its place, where that is empty.
use Rattle.std.proofs.Common.{◌∙◌, sym, map}
use Rattle.script_words.proofs.NamedLaws.{position-lent, flag-taken, flag-twice, flag-unknown}
use Rattle.script_words.proofs.words.take_flag.Goals as goal

pub returns-in_default : goal.returns-in_default
returns-in_default c = λ names ws values apart named rest. flag-unknown names (map (λ n. n.now) c.args.flags.now) ws rest c.args.name.now (sym (position-lent c.args.name.now c.args.flags.now) ∙ sym c.place_of.ensures.value ∙ c.in_default.is)

pub returns-then-given-place : goal.returns-then-given-place
returns-then-given-place c = λ names ws values apart named rest.
    flag-twice names (map (λ n. n.now) c.args.flags.now) ws values c.args.given.now apart named c.args.name.now c.in-Some.place rest (sym (position-lent c.args.name.now c.args.flags.now) ∙ sym c.place_of.ensures.value ∙ c.in-Some.is) c.if-given-place.true

pub returns : goal.returns
returns c = λ names ws values apart named.
    flag-taken names (map (λ n. n.now) c.args.flags.now) ws values c.args.given.now apart named c.args.name.now c.in-Some.place (sym (position-lent c.args.name.now c.args.flags.now) ∙ sym c.place_of.ensures.value ∙ c.in-Some.is) c.if-given-place.false
