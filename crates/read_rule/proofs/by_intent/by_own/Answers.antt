use Rattle.std.proofs.Common.{◌≡◌, ◌≤◌, refl, sym, ap, ◌∙◌, arith, eq-eqb}
use Rattle.std.specs.Prelude.{is_some}
use Rattle.std.proofs.lemmas.Bool.{le-ltb}
use Rattle.mvcc_key.specs.History.{entry_at}
use Rattle.read_rule.proofs.IntentLaws.{own_answers, is_some-map}
use Rattle.read_rule.proofs.by_intent.by_own.Goals as goal

pub returns-then-is_some : goal.returns-then-is_some
returns-then-is_some c = λ r key i is some own.
    let t = c.args.txn.now in
    let other : c.epoch-other.result ≡ i.epoch = c.epoch-other.ensures ∙ ap (λ l. (l.head).epoch) is in
    let later : i.epoch ≤ t.epoch = omega (arith, c.if-own-other.false, c.epoch-own.ensures.value, other) in
    let same : t.epoch ≡ i.epoch = sym c.epoch-own.ensures.value ∙ c.if-own-other-2.true ∙ other in
    own_answers r i t (entry_at t.sequence t.ignored i.entries) own (le-ltb t.epoch i.epoch later) (eq-eqb t.epoch i.epoch same) refl
    (sym (ap is_some (c.own_value.ensures i is some)) ∙ is_some-map _ c.own_value.result ∙ sym c.is_some.ensures ∙ c.if-is_some.true)
