-- An intent's entries, and what is lent of them: its record's history and its provisional value.
use Rattle.std.proofs.Common.{◌≡◌, ℕ, ◌<◌, List, [], ◌∷◌, ◌++◌, length, map, filter, Some, refl, ap, ◌∙◌, arith}
use Rattle.std.specs.Prelude.{option_map, nat_le, not, unwrap_or, slice_get, ◌-◌}
use Rattle.mvcc_key.specs.Lists.{last, before_last}
use Rattle.mvcc_key.specs.History.{Body, Deletion, Entry, Intent, SeqRange, is_ignored, without_ignored, entry_at}
use Rattle.mvcc_key.proofs.FilterLaws.{filter-map}
use Rattle.mvcc_value.specs.Encoding.{plain_bytes}
use Rattle.intent_meta.specs.StoredPairs.{plain_entry, provisional_body, intent_record}
use Rattle.intent_meta.specs.Entries.{entries_with}

module _ {X : Type 0} where
  -- the last element of a list that ends so, and the list before it
  pub last-append : (xs : List X) (x : X) → last (xs ++ x ∷ []) ≡ Some x
  last-append [] x = refl
  last-append (y ∷ []) x = refl
  last-append (y ∷ z ∷ xs) x = last-append (z ∷ xs) x

  pub before_last-append : (xs : List X) (x : X) → before_last (xs ++ x ∷ []) ≡ xs
  before_last-append [] x = refl
  before_last-append (y ∷ []) x = refl
  before_last-append (y ∷ z ∷ xs) x = ap (λ (l : List X). y ∷ l) (before_last-append (z ∷ xs) x)

  at_last : (x : X) (xs : List X) (n : ℕ) → n ≡ length xs → slice_get (x ∷ xs) n ≡ last (x ∷ xs)
  at_last x [] n e = ap (slice_get (x ∷ [])) e
  at_last x (y ∷ xs) n e = ap (slice_get (x ∷ y ∷ xs)) e ∙ at_last y xs (length xs) refl

  -- the last element is the one at the last place
  pub last-at : (xs : List X) → slice_get xs (length xs - 1) ≡ last xs
  last-at [] = refl
  last-at (x ∷ xs) = at_last x xs (length (x ∷ xs) - 1) (omega arith)

  -- the last of what is made of each
  pub last-map : {Y : Type 0} (f : X → Y) (xs : List X) → last (map f xs) ≡ option_map f (last xs)
  last-map f [] = refl
  last-map f (x ∷ []) = refl
  last-map f (x ∷ y ∷ xs) = last-map f (y ∷ xs)

-- the history of an intent's record and its plain provisional value are its plain entries
pub entries_with-plain : (i : Intent) → 0 < length i.entries → entries_with (intent_record i) (plain_bytes (provisional_body i)) ≡ map plain_entry i.entries
entries_with-plain i some = by i.entries some
  where
    by : (es : List (Entry Body)) → 0 < length es → map plain_entry (before_last es) ++ record { sequence = unwrap_or (option_map (λ e. e.sequence) (last es)) 0; value = plain_bytes (unwrap_or (option_map (λ e. e.value) (last es)) Deletion) } ∷ [] ≡ map plain_entry es
    by [] h = absurd (omega arith)
    by (x ∷ []) h = refl
    by (x ∷ y ∷ es) h = ap (λ (l : List (Entry (List ℕ))). plain_entry x ∷ l) (by (y ∷ es) (omega arith))

-- the plain entry that is seen at a sequence is that of the entry that is seen there
pub entry_at-plain : (sequence : ℕ) (ranges : List SeqRange) (es : List (Entry Body)) → entry_at sequence ranges (map plain_entry es) ≡ option_map plain_entry (entry_at sequence ranges es)
entry_at-plain sequence ranges es =
    ap (λ l. last (filter (λ e. nat_le e.sequence sequence) l)) (filter-map (λ e. not (is_ignored ranges e.sequence)) plain_entry es)
    ∙ ap last (filter-map (λ e. nat_le e.sequence sequence) plain_entry (without_ignored ranges es))
    ∙ last-map plain_entry (filter (λ e. nat_le e.sequence sequence) (without_ignored ranges es))
