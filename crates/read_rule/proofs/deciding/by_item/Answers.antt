use Rattle.std.proofs.Common.{◌≡◌, ℕ, List, [], Some, refl, sym, ap, subst, ◌∙◌}
use Rattle.std.specs.Prelude.{unwrap_or}
use Rattle.std.proofs.lemmas.Bool.{eqb-true}
use Rattle.std.specs.Option.{option_map}
use Rattle.mvcc_key.specs.Items.{newest_at}
use Rattle.mvcc_key.specs.views.Seen.{time_of}
use Rattle.intent_meta.specs.views.Lent.{seen_item, lent_item}
use Rattle.txn_state.specs.Transaction.{read_time}
use Rattle.read_rule.specs.views.Decided.{IsFound}
use Rattle.read_rule.proofs.AnswerLaws.{empty_item, found_item, nothing_plain, some_bytes}
use Rattle.read_rule.proofs.deciding.by_item.Goals as goal

pub returns-in_default-value : goal.returns-in_default-value
returns-in_default-value c = λ r k h by seen.
    let some : Some (seen_item c.in-Some.item) ≡ option_map lent_item (newest_at (read_time r.who) k.items) = rw c.in-Some.is at seen in
    let none : unwrap_or (option_map (λ v. v.now) c.in-Some.item.value) [] ≡ [] = ap (λ o. unwrap_or (option_map (λ v. v.now) o) []) c.in_default-value.is in
    empty_item r k (seen_item c.in-Some.item) [] by some (λ body local ts is. nothing_plain body local ts (sym none ∙ is)) refl

pub returns-then-is_empty : goal.returns-then-is_empty
returns-then-is_empty c = λ r k h by seen.
    let some : Some (seen_item c.in-Some.item) ≡ option_map lent_item (newest_at (read_time r.who) k.items) = rw c.in-Some.is at seen in
    let bytes : unwrap_or (option_map (λ v. v.now) c.in-Some.item.value) [] ≡ c.in-Some-value.value.now = ap (λ o. unwrap_or (option_map (λ v. v.now) o) []) c.in-Some-value.is in
    empty_item r k (seen_item c.in-Some.item) c.plain_value.result.now by some (λ body local ts is. c.plain_value.ensures body local ts (sym bytes ∙ is))
    (eqb-true _ _ (sym c.is_empty.ensures ∙ c.if-is_empty.true))

pub returns : goal.returns
returns c = λ r k h by seen.
    let some : Some (seen_item c.in-Some.item) ≡ option_map lent_item (newest_at (read_time r.who) k.items) = rw c.in-Some.is at seen in
    let bytes : unwrap_or (option_map (λ v. v.now) c.in-Some.item.value) [] ≡ c.in-Some-value.value.now = ap (λ o. unwrap_or (option_map (λ v. v.now) o) []) c.in-Some-value.is in
    subst (λ (b : List ℕ). IsFound r k b (time_of c.in-Some.item.ts)) bytes (
    found_item r k (seen_item c.in-Some.item) c.plain_value.result.now h by some (λ body local ts is. c.plain_value.ensures body local ts (sym bytes ∙ is)) (some_bytes c.plain_value.result.now (sym c.is_empty.ensures ∙ c.if-is_empty.false)))
