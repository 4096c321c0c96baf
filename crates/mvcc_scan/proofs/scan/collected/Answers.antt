-- What was collected refuses, and else the answer stands.
use Rattle.std.specs.Prelude.{None, Ok, Err, ◌≡◌, not, true, false, option_map, reverse, cond}
use Rattle.std.proofs.Common.{sym, ap, ◌∙◌}
use Rattle.mvcc_key.specs.Lists.{is_empty}
use Rattle.mvcc_key.specs.Refusal.{Conflict}
use Rattle.mvcc_key.specs.views.Seen.{time_of}
use Rattle.mvcc_scan.proofs.AnswerLaws.{collected-conflicts, collected-nothing, tests-empty}
use Rattle.mvcc_scan.proofs.WayLaws.{upwards-ascending}
use Rattle.mvcc_scan.proofs.scan.collected.Goals as goal

pub returns-then-not-is_empty : goal.returns-then-not-is_empty
returns-then-not-is_empty c = λ l t rest taken listed conflicts resume.
    let d = c.args.is_reverse in
    let none : None ≡ t.too_old = sym (ap (option_map time_of) c.in_default.is) ∙ taken.too_old in
    let some : not (is_empty t.conflicts) ≡ true = ap not (sym (tests-empty c.is_empty.result c.args.taken.conflicts c.is_empty.ensures ∙ ap is_empty taken.conflicts) ∙ c.if-not-is_empty.true) in
    collected-conflicts t.too_old t.conflicts _ none some
    ∙ ap (λ xs. Err (Conflict xs)) (sym (c.upwards.ensures ∙ ap (λ xs. cond d (reverse xs) xs) taken.conflicts ∙ upwards-ascending d t.conflicts conflicts))

pub returns : goal.returns
returns c = λ l t rest taken listed conflicts resume.
    let d = c.args.is_reverse in
    let none : None ≡ t.too_old = sym (ap (option_map time_of) c.in_default.is) ∙ taken.too_old in
    let some : not (is_empty t.conflicts) ≡ false = ap not (sym (tests-empty c.is_empty.result c.args.taken.conflicts c.is_empty.ensures ∙ ap is_empty taken.conflicts) ∙ c.if-not-is_empty.false) in
    collected-nothing t.too_old t.conflicts _ none some
    ∙ (λ j. Ok (record {
      rows = sym taken.rows j;
      intents = sym (c.upwards-2.ensures ∙ ap (λ xs. cond d (reverse xs) xs) taken.listed ∙ upwards-ascending d t.listed listed) j;
      resume = sym resume j;
    }))
