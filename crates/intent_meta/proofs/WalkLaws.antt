-- The walk over the entries that lie in bytes.
use Rattle.std.proofs.Common.{◌≡◌, ℕ, ◌+◌, ◌^◌, ◌<◌, ◌≤◌, Bool, true, false, cond, leb, ltb, List, [], ◌∷◌, ◌++◌, length, take, drop, Option, Some, None, Ok, Err, refl, sym, ap, subst, ◌∙◌, append_assoc, append-nil, arith}
use Rattle.std.specs.Prelude.{not, map, filter, ◌&&◌, ◌||◌}
use Rattle.std.specs.List.{list_any, flat_map}
use Rattle.std.specs.Option.{option_map}
use Rattle.std.specs.Int.{w32, to_be_bytes, from_be_bytes}
use Rattle.std.proofs.lemmas.Bool.{ltb-false, and_parts, not-true}
use Rattle.std.proofs.lemmas.List.{length-drop}
use Rattle.std.proofs.lemmas.List.Elements.{filter-append}
use Rattle.mvcc_key.specs.Lists.{last}
use Rattle.mvcc_key.specs.Steps.{number_at, bytes_at}
use Rattle.mvcc_key.specs.History.{Entry, SeqRange, is_ignored, without_ignored, entry_at}
use Rattle.mvcc_key.proofs.ByteLaws.{wide32, bind_ok, unless_ok, ok_is, step, number_again, bytes_again}
use Rattle.intent_meta.specs.declared.fault.IntentFault.{IntentFault}
use Rattle.intent_meta.specs.declared.fault.IntentFault.TheVariants.{Short}
use Rattle.mvcc_key.specs.views.Seen.{range_of}
use Rattle.mvcc_key.specs.declared.span.SeqRange as Ranges
use Rattle.intent_meta.specs.Record.{entry_bytes}
use Rattle.intent_meta.specs.views.Seen.{is_ignored_by}
use Rattle.intent_meta.specs.Entries.{entry_in, IsWhole, AreBytesOf}
use Rattle.intent_meta.proofs.LentLaws.{last-append}

-- a test of mapped elements
pub list_any-map : {X Y : Type 0} (f : X → Y) (test : Y → Bool) (xs : List X) → list_any test (map f xs) ≡ list_any (λ x. test (f x)) xs
list_any-map f test [] = refl
list_any-map f test (x ∷ xs) = ap (λ (b : Bool). test (f x) || b) (list_any-map f test xs)

-- a number that is read leaves fewer bytes
number_shorter : (bytes : List ℕ) (x : ℕ × List ℕ) → number_at Short w32 bytes ≡ Ok x → length x.1 + 4 ≤ length bytes
number_shorter bytes x e =
    let g = unless_ok (ltb (length bytes) 4) Short (from_be_bytes w32 (take 4 bytes), drop 4 bytes) x e in
    let long : 4 ≤ length bytes = ltb-false _ _ g.0 in
    omega (arith, ap (λ (y : ℕ × List ℕ). length y.1) g.1, length-drop 4 bytes)

-- bytes that are read leave no more bytes
bytes_shorter : (n : ℕ) (bytes : List ℕ) (x : List ℕ × List ℕ) → bytes_at Short n bytes ≡ Ok x → length x.1 ≤ length bytes
bytes_shorter n bytes x e =
    let g = unless_ok (ltb (length bytes) n) Short (take n bytes, drop n bytes) x e in
    omega (arith, ap (λ (y : List ℕ × List ℕ). length y.1) g.1, length-drop n bytes)

-- so does an entry
pub entry-shorter : (bytes : List ℕ) (x : Entry (List ℕ) × List ℕ) → entry_in bytes ≡ Ok x → length x.1 < length bytes
entry-shorter bytes x e =
    let a = bind_ok (number_at Short w32 bytes) _ x e in
    let b = bind_ok (number_at Short w32 a.0.1) _ x a.2 in
    let c = bind_ok (bytes_at Short b.0.0 b.0.1) _ x b.2 in
    let made : Entry (List ℕ) × List ℕ = (record { sequence = a.0.0; value = c.0.0 }, c.0.1) in
    let rest : length c.0.1 ≡ length x.1 = ap (λ (y : Entry (List ℕ) × List ℕ). length y.1) (ok_is made x c.2) in
    omega (arith, number_shorter bytes a.0 a.1, number_shorter a.0.1 b.0 b.1, bytes_shorter b.0.0 b.0.1 c.0 c.1, rest)

-- an entry that was written is at the front
pub entry_in-entry_bytes : (e : Entry (List ℕ)) (rest : List ℕ) → IsWhole e → entry_in (entry_bytes e ++ rest) ≡ Ok (e, rest)
entry_in-entry_bytes e rest whole =
    let tail : List ℕ = e.value ++ rest in
    let sized : List ℕ = to_be_bytes w32 (length e.value) ++ tail in
    step _ _ _ _ (number_again Short w32 (2 ^ 32) wide32 e.sequence sized whole.sequence)
    (step _ _ _ _ (number_again Short w32 (2 ^ 32) wide32 (length e.value) tail whole.size)
    (step _ _ _ _ (bytes_again Short (length e.value) e.value rest refl) refl))

-- ---- what the walk keeps

-- a range contains the sequence
pub is_ignored-range_of : (ranges : List Ranges.SeqRange) (sequence : ℕ) → is_ignored (map range_of ranges) sequence ≡ is_ignored_by ranges sequence
is_ignored-range_of ranges sequence = list_any-map range_of (λ r. leb r.first sequence && leb sequence r.last) ranges

-- the entries that are left
pub record Left (bytes : List ℕ) (P : List (Entry (List ℕ)) → Type 0) : Type 0 where
  pub entries : List (Entry (List ℕ))
  pub are : AreBytesOf bytes entries
  pub so_far : P entries

-- the first of the entries that are left, and those behind it
pub record Split (bytes : List ℕ) (es : List (Entry (List ℕ))) (e : Entry (List ℕ)) (rest : List ℕ) : Type 0 where
  pub others : List (Entry (List ℕ))
  pub es_are : es ≡ e ∷ others
  pub are : AreBytesOf rest others

-- what is read at the front is the first of the entries
pub split : (bytes : List ℕ) (es : List (Entry (List ℕ))) (e : Entry (List ℕ)) (rest : List ℕ) → AreBytesOf bytes es → entry_in bytes ≡ Ok (e, rest) → Split bytes es e rest
split bytes [] e rest are read = let shorter = entry-shorter bytes (e, rest) read in absurd (omega (arith, ap length are.bytes_are))
split bytes (f ∷ fs) e rest are read =
    let again : entry_in bytes ≡ Ok (f, flat_map entry_bytes fs) = ap entry_in are.bytes_are ∙ entry_in-entry_bytes f (flat_map entry_bytes fs) are.whole.0 in
    let same : (f, flat_map entry_bytes fs) ≡ (e, rest) = ok_is {E = IntentFault} (f, flat_map entry_bytes fs) (e, rest) (sym again ∙ read) in
    let first : f ≡ e = ap (λ (y : Entry (List ℕ) × List ℕ). y.0) same in
    let behind : flat_map entry_bytes fs ≡ rest = ap (λ (y : Entry (List ℕ) × List ℕ). y.1) same in
    record { others = fs; es_are = ap (λ (x : Entry (List ℕ)). x ∷ fs) first; are = record { bytes_are = sym behind; whole = are.whole.1 } }

-- where no entry is read none is left
pub none_left : (bytes : List ℕ) (es : List (Entry (List ℕ))) (fault : IntentFault) → AreBytesOf bytes es → entry_in bytes ≡ Err fault → es ≡ []
none_left bytes [] fault are read = refl
none_left bytes (f ∷ fs) fault are read =
    let again : entry_in bytes ≡ Ok (f, flat_map entry_bytes fs) = ap entry_in are.bytes_are ∙ entry_in-entry_bytes f (flat_map entry_bytes fs) are.whole.0 in
    absurd cc

-- ---- the last entry that is seen

-- the value of the entry, or what was found before
abbrev pub seen_or : Option (Entry (List ℕ)) → Option (List ℕ) → Option (List ℕ)
seen_or None found = found
seen_or (Some e) found = Some e.value

-- where nothing was found before
pub seen_or-none : (e : Option (Entry (List ℕ))) → option_map (λ x. x.value) e ≡ seen_or e None
seen_or-none None = refl
seen_or-none (Some e) = refl

-- of some entries the last does not depend on what was found before
seen_or-some : (e : Entry (List ℕ)) (es : List (Entry (List ℕ))) (x y : Option (List ℕ)) → seen_or (last (e ∷ es)) x ≡ seen_or (last (e ∷ es)) y
seen_or-some e [] x y = refl
seen_or-some e (f ∷ fs) x y = seen_or-some f fs x y

-- an entry in front of others was found before them
seen_or-front : (e : Entry (List ℕ)) (es : List (Entry (List ℕ))) (found : Option (List ℕ)) → seen_or (last (e ∷ es)) found ≡ seen_or (last es) (Some e.value)
seen_or-front e [] found = refl
seen_or-front e (f ∷ fs) found = seen_or-some f fs found (Some e.value)

-- an entry that is seen is found before the others
pub entry_at-seen : (sequence : ℕ) (ranges : List SeqRange) (e : Entry (List ℕ)) (es : List (Entry (List ℕ))) (found : Option (List ℕ))
    → (leb e.sequence sequence && not (is_ignored ranges e.sequence)) ≡ true
    → seen_or (entry_at sequence ranges (e ∷ es)) found ≡ seen_or (entry_at sequence ranges es) (Some e.value)
entry_at-seen sequence ranges e es found h =
    let parts = and_parts (leb e.sequence sequence) (not (is_ignored ranges e.sequence)) h in
    ap (λ (b : Bool). seen_or (last (filter (λ x. leb x.sequence sequence) (cond b (e ∷ without_ignored ranges es) (without_ignored ranges es)))) found) parts.1
    ∙ ap (λ (b : Bool). seen_or (last (cond b (e ∷ filter (λ x. leb x.sequence sequence) (without_ignored ranges es)) (filter (λ x. leb x.sequence sequence) (without_ignored ranges es)))) found) parts.0
    ∙ seen_or-front e (filter (λ x. leb x.sequence sequence) (without_ignored ranges es)) found

-- an entry that is not seen is passed
pub entry_at-passed : (sequence : ℕ) (ranges : List SeqRange) (e : Entry (List ℕ)) (es : List (Entry (List ℕ)))
    → (leb e.sequence sequence && not (is_ignored ranges e.sequence)) ≡ false
    → entry_at sequence ranges (e ∷ es) ≡ entry_at sequence ranges es
entry_at-passed sequence ranges e es h = by (leb e.sequence sequence) (not (is_ignored ranges e.sequence)) refl h
  where
    kept : List (Entry (List ℕ))
    kept = without_ignored ranges es

    by : (a b : Bool) → leb e.sequence sequence ≡ a → (a && b) ≡ false → last (filter (λ x. leb x.sequence sequence) (cond b (e ∷ kept) kept)) ≡ last (filter (λ x. leb x.sequence sequence) kept)
    by a false p q = refl
    by false true p q = ap (λ (t : Bool). last (cond t (e ∷ filter (λ x. leb x.sequence sequence) kept) (filter (λ x. leb x.sequence sequence) kept))) p
    by true true p q = absurd cc

-- ---- the entries that are not ignored

-- an entry that is ignored is left out
pub without_ignored-ignored : (ranges : List SeqRange) (e : Entry (List ℕ)) (es : List (Entry (List ℕ))) → is_ignored ranges e.sequence ≡ true
    → without_ignored ranges (e ∷ es) ≡ without_ignored ranges es
without_ignored-ignored ranges e es h = ap (λ (b : Bool). cond (not b) (e ∷ without_ignored ranges es) (without_ignored ranges es)) h

-- an entry that is not ignored stays
pub without_ignored-stays : (ranges : List SeqRange) (e : Entry (List ℕ)) (es : List (Entry (List ℕ))) → is_ignored ranges e.sequence ≡ false
    → without_ignored ranges (e ∷ es) ≡ e ∷ without_ignored ranges es
without_ignored-stays ranges e es h = ap (λ (b : Bool). cond (not b) (e ∷ without_ignored ranges es) (without_ignored ranges es)) h

-- ---- the steps of the walk

module _ (sequence : ℕ) (ranges : List Ranges.SeqRange) (bytes : List ℕ) where
  -- what was found, and the entries that are left, show what all entries show
  abbrev pub StillSeen : List ℕ → Option (List ℕ) → Type 0
  StillSeen rest found =
      (es : List (Entry (List ℕ))) → AreBytesOf bytes es
      → Left rest (λ left. option_map (λ e. e.value) (entry_at sequence (map range_of ranges) es) ≡ seen_or (entry_at sequence (map range_of ranges) left) found)

  -- at the front nothing is found
  pub StillSeen-front : StillSeen bytes None
  StillSeen-front es are = record { entries = es; are = are; so_far = seen_or-none (entry_at sequence (map range_of ranges) es) }

  -- an entry that is seen is found
  pub StillSeen-seen : (rest behind : List ℕ) (found : Option (List ℕ)) (e : Entry (List ℕ)) → StillSeen rest found → entry_in rest ≡ Ok (e, behind)
      → (leb e.sequence sequence && not (is_ignored_by ranges e.sequence)) ≡ true → StillSeen behind (Some e.value)
  StillSeen-seen rest behind found e still read h es are =
      let left = still es are in
      let s = split rest left.entries e behind left.are read in
      let seen : (leb e.sequence sequence && not (is_ignored (map range_of ranges) e.sequence)) ≡ true =
      ap (λ (b : Bool). leb e.sequence sequence && not b) (is_ignored-range_of ranges e.sequence) ∙ h in
      record {
        entries = s.others;
        are = s.are;
        so_far = left.so_far ∙ ap (λ (xs : List (Entry (List ℕ))). seen_or (entry_at sequence (map range_of ranges) xs) found) s.es_are
            ∙ entry_at-seen sequence (map range_of ranges) e s.others found seen;
      }

  -- an entry that is not seen is passed
  pub StillSeen-passed : (rest behind : List ℕ) (found : Option (List ℕ)) (e : Entry (List ℕ)) → StillSeen rest found → entry_in rest ≡ Ok (e, behind)
      → (leb e.sequence sequence && not (is_ignored_by ranges e.sequence)) ≡ false → StillSeen behind found
  StillSeen-passed rest behind found e still read h es are =
      let left = still es are in
      let s = split rest left.entries e behind left.are read in
      let passed : (leb e.sequence sequence && not (is_ignored (map range_of ranges) e.sequence)) ≡ false =
      ap (λ (b : Bool). leb e.sequence sequence && not b) (is_ignored-range_of ranges e.sequence) ∙ h in
      record {
        entries = s.others;
        are = s.are;
        so_far = left.so_far ∙ ap (λ (xs : List (Entry (List ℕ))). seen_or (entry_at sequence (map range_of ranges) xs) found) s.es_are
            ∙ ap (λ (o : Option (Entry (List ℕ))). seen_or o found) (entry_at-passed sequence (map range_of ranges) e s.others passed);
      }

  -- where no entry is left, what was found is what all show
  pub StillSeen-end : (rest : List ℕ) (found : Option (List ℕ)) (fault : IntentFault) → StillSeen rest found → entry_in rest ≡ Err fault
      → (es : List (Entry (List ℕ))) → AreBytesOf bytes es → found ≡ option_map (λ e. e.value) (entry_at sequence (map range_of ranges) es)
  StillSeen-end rest found fault still read es are =
      let left = still es are in
      sym (left.so_far ∙ ap (λ (xs : List (Entry (List ℕ))). seen_or (entry_at sequence (map range_of ranges) xs) found) (none_left rest left.entries fault left.are read))

module _ (ranges : List Ranges.SeqRange) (bytes : List ℕ) where
  -- what was kept, and the entries that are left, are what is kept of all
  abbrev pub StillKept : List ℕ → List (Entry (List ℕ)) → Type 0
  StillKept rest kept =
      (es : List (Entry (List ℕ))) → AreBytesOf bytes es
      → Left rest (λ left. without_ignored (map range_of ranges) es ≡ kept ++ without_ignored (map range_of ranges) left)

  -- at the front nothing is kept
  pub StillKept-front : StillKept bytes []
  StillKept-front es are = record { entries = es; are = are; so_far = refl }

  -- an entry that is ignored is left out
  StillKept-ignored : (rest behind : List ℕ) (kept : List (Entry (List ℕ))) (e : Entry (List ℕ)) → StillKept rest kept → entry_in rest ≡ Ok (e, behind)
      → is_ignored_by ranges e.sequence ≡ true → StillKept behind kept
  StillKept-ignored rest behind kept e still read h es are =
      let left = still es are in
      let s = split rest left.entries e behind left.are read in
      record {
        entries = s.others;
        are = s.are;
        so_far = left.so_far ∙ ap (λ (xs : List (Entry (List ℕ))). kept ++ without_ignored (map range_of ranges) xs) s.es_are
            ∙ ap (λ (xs : List (Entry (List ℕ))). kept ++ xs) (without_ignored-ignored (map range_of ranges) e s.others (is_ignored-range_of ranges e.sequence ∙ h));
      }

  -- an entry that is not ignored is kept
  StillKept-stays : (rest behind : List ℕ) (kept : List (Entry (List ℕ))) (e : Entry (List ℕ)) → StillKept rest kept → entry_in rest ≡ Ok (e, behind)
      → is_ignored_by ranges e.sequence ≡ false → StillKept behind (kept ++ e ∷ [])
  StillKept-stays rest behind kept e still read h es are =
      let left = still es are in
      let s = split rest left.entries e behind left.are read in
      record {
        entries = s.others;
        are = s.are;
        so_far = left.so_far ∙ ap (λ (xs : List (Entry (List ℕ))). kept ++ without_ignored (map range_of ranges) xs) s.es_are
            ∙ ap (λ (xs : List (Entry (List ℕ))). kept ++ xs) (without_ignored-stays (map range_of ranges) e s.others (is_ignored-range_of ranges e.sequence ∙ h))
            ∙ sym (append_assoc kept (e ∷ []) (without_ignored (map range_of ranges) s.others));
      }

  -- one entry more
  pub StillKept-next : (rest behind : List ℕ) (kept : List (Entry (List ℕ))) (e : Entry (List ℕ)) → StillKept rest kept → entry_in rest ≡ Ok (e, behind)
      → StillKept behind (kept ++ cond (is_ignored_by ranges e.sequence) [] (e ∷ []))
  StillKept-next rest behind kept e still read = by (is_ignored_by ranges e.sequence) refl
    where
      by : (b : Bool) → is_ignored_by ranges e.sequence ≡ b → StillKept behind (kept ++ cond b [] (e ∷ []))
      by true h = subst (StillKept behind) (sym (append-nil kept)) (StillKept-ignored rest behind kept e still read h)
      by false h = StillKept-stays rest behind kept e still read h

  -- where no entry is left, what was kept is all
  pub StillKept-end : (rest : List ℕ) (kept : List (Entry (List ℕ))) (fault : IntentFault) → StillKept rest kept → entry_in rest ≡ Err fault
      → (es : List (Entry (List ℕ))) → AreBytesOf bytes es → kept ≡ without_ignored (map range_of ranges) es
  StillKept-end rest kept fault still read es are =
      let left = still es are in
      sym (left.so_far ∙ ap (λ (xs : List (Entry (List ℕ))). kept ++ without_ignored (map range_of ranges) xs) (none_left rest left.entries fault left.are read) ∙ append-nil kept)

-- ---- the provisional value behind the history

-- those of one more entry that are not ignored
without_ignored-append : (ranges : List SeqRange) (es : List (Entry (List ℕ))) (e : Entry (List ℕ)) {b : Bool} → is_ignored ranges e.sequence ≡ b
    → without_ignored ranges (es ++ e ∷ []) ≡ without_ignored ranges es ++ cond (not b) (e ∷ []) []
without_ignored-append ranges es e h =
    filter-append (λ x. not (is_ignored ranges x.sequence)) es (e ∷ [])
    ∙ ap (λ (t : Bool). without_ignored ranges es ++ cond (not t) (e ∷ []) []) h

-- an entry behind others that is seen is the last
pub entry_at-last : (sequence : ℕ) (ranges : List Ranges.SeqRange) (es : List (Entry (List ℕ))) (e : Entry (List ℕ))
    → (leb e.sequence sequence && not (is_ignored_by ranges e.sequence)) ≡ true
    → entry_at sequence (map range_of ranges) (es ++ e ∷ []) ≡ Some e
entry_at-last sequence ranges es e h =
    let parts = and_parts (leb e.sequence sequence) (not (is_ignored_by ranges e.sequence)) h in
    let stays : is_ignored (map range_of ranges) e.sequence ≡ false = is_ignored-range_of ranges e.sequence ∙ not-true _ parts.1 in
    ap (λ (xs : List (Entry (List ℕ))). last (filter (λ x. leb x.sequence sequence) xs)) (without_ignored-append (map range_of ranges) es e stays)
    ∙ ap last (filter-append (λ x. leb x.sequence sequence) (without_ignored (map range_of ranges) es) (e ∷ []))
    ∙ ap (λ (b : Bool). last (filter (λ x. leb x.sequence sequence) (without_ignored (map range_of ranges) es) ++ cond b (e ∷ []) [])) parts.0
    ∙ last-append (filter (λ x. leb x.sequence sequence) (without_ignored (map range_of ranges) es)) e

-- an entry behind others that is not seen changes nothing
pub entry_at-not_last : (sequence : ℕ) (ranges : List Ranges.SeqRange) (es : List (Entry (List ℕ))) (e : Entry (List ℕ))
    → (leb e.sequence sequence && not (is_ignored_by ranges e.sequence)) ≡ false
    → entry_at sequence (map range_of ranges) (es ++ e ∷ []) ≡ entry_at sequence (map range_of ranges) es
entry_at-not_last sequence ranges es e h = by (leb e.sequence sequence) (is_ignored_by ranges e.sequence) refl refl h
  where
    kept : List (Entry (List ℕ))
    kept = without_ignored (map range_of ranges) es

    by : (a b : Bool) → leb e.sequence sequence ≡ a → is_ignored_by ranges e.sequence ≡ b → (a && not b) ≡ false
        → entry_at sequence (map range_of ranges) (es ++ e ∷ []) ≡ entry_at sequence (map range_of ranges) es
    by a true p q r =
        ap (λ (xs : List (Entry (List ℕ))). last (filter (λ x. leb x.sequence sequence) xs)) (without_ignored-append (map range_of ranges) es e (is_ignored-range_of ranges e.sequence ∙ q) ∙ append-nil kept)
    by false false p q r =
        ap (λ (xs : List (Entry (List ℕ))). last (filter (λ x. leb x.sequence sequence) xs)) (without_ignored-append (map range_of ranges) es e (is_ignored-range_of ranges e.sequence ∙ q))
        ∙ ap last (filter-append (λ x. leb x.sequence sequence) kept (e ∷ []))
        ∙ ap (λ (b : Bool). last (filter (λ x. leb x.sequence sequence) kept ++ cond b (e ∷ []) [])) p
        ∙ ap last (append-nil (filter (λ x. leb x.sequence sequence) kept))
    by true false p q r = absurd cc

-- one more entry is kept where it is not ignored
pub kept-provisional : (ranges : List Ranges.SeqRange) (es : List (Entry (List ℕ))) (e : Entry (List ℕ))
    → without_ignored (map range_of ranges) (es ++ e ∷ []) ≡ without_ignored (map range_of ranges) es ++ cond (is_ignored_by ranges e.sequence) [] (e ∷ [])
kept-provisional ranges es e =
    without_ignored-append (map range_of ranges) es e (is_ignored-range_of ranges e.sequence)
    ∙ ap (λ (xs : List (Entry (List ℕ))). without_ignored (map range_of ranges) es ++ xs) (turned (is_ignored_by ranges e.sequence))
  where
    turned : (b : Bool) → cond (not b) (e ∷ []) [] ≡ cond b [] (e ∷ [])
    turned true = refl
    turned false = refl
