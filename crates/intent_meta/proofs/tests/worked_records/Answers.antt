use Rattle.std.proofs.Common.{◌≡◌, ℕ, List, [], ◌∷◌, ◌++◌, None, refl, sym, ap, subst, ◌∙◌, arith}
use Rattle.mvcc_key.specs.History.{Entry}
use Rattle.mvcc_value.specs.Encoding.{plain_body}
use Rattle.intent_meta.specs.Rules.{IsRecordEntry, AreRecordEntries}
use Rattle.intent_meta.proofs.tests.worked_records.Goals as goal

-- the plain value abc
abbrev abc : List ℕ
abc = 0 ∷ 0 ∷ 0 ∷ 0 ∷ 3 ∷ 97 ∷ 98 ∷ 99 ∷ []

-- it may stand in a record of sequence 1
is_entry : IsRecordEntry None 1 (record { sequence = 0; value = abc })
unfolding plain_body
is_entry = record { sequence = omega arith; placed = refl; size = omega arith; value = refl }

pub new-second-requires-clause-entries : goal.new-second-requires-clause-entries
new-second-requires-clause-entries g c =
    let none : List (Entry (List ℕ)) = [] in
    let are : c.push.new.self ≡ record { sequence = 0; value = abc } ∷ [] =
    c.in_ok-push.ensures.ok ∙ ap (λ (es : List (Entry (List ℕ))). es ++ record { sequence = 0; value = c.in_ok-copy.field-0 } ∷ []) c.new-history.ensures
    ∙ ap (λ (bytes : List ℕ). none ++ record { sequence = 0; value = bytes } ∷ []) c.in_ok-copy.ensures in
    subst (AreRecordEntries None 1) (sym are) (is_entry, tt)
