-- Counters and numbers in the order of the fields.
use Rattle.std.specs.Prelude.{◌≡◌, ℕ, ◌+◌, ◌<◌, ◌≤◌, ℤ, pos, negsuc, ◌+ℤ◌, ◌≤ℤ◌, ◌<ℤ◌, List, [], ◌∷◌, length, slice_index, slice_index_or, Bool, true, false, find, Some, None, nat_lt, ⊤}
use Rattle.std.proofs.Common.{refl, sym, ◌∙◌, ap, subst, arith, zero, suc, inl, inr, lit<, get_or, set}
use Rattle.std.proofs.lemmas.Bool.{cases_order}
use Rattle.std.proofs.lemmas.Bool.Decides.{nat_tests}
use Rattle.std.proofs.lemmas.Grind.{get_or-set_at}
use Rattle.std.proofs.lemmas.Int.{ints}
use Rattle.std.proofs.lemmas.List.{get_or-set_other}
use Rattle.mvcc_key.specs.Field.{Field, all_fields, KeyCount, KeyBytes, ValCount, ValBytes, LiveCount, LiveBytes, IntentCount, IntentBytes, IntentAge, GcBytesAge, RangeKeyCount, RangeKeyBytes, RangeValCount, RangeValBytes}
use Rattle.stat_core.specs.ComputeStats.{field, overflowing}
use Rattle.stat_core.specs.views.Counters.{count_at, number_at, moved_by, changed_number, AreCounted, IsFirstAbove}
use Rattle.stat_core.specs.Running.{field_index, sums_of}
use Rattle.stat_core.specs.Settling.{NoDebt, whole, whole_sums}
use Rattle.stat_core.specs.declared.counters.Sign.{Sign}
use Rattle.stat_core.proofs.BoundsLaws.{no_overflow-from, fields-tell}

-- each place has a field
some_field : (i : ℕ) → i < 14 → (f : Field) × (field_index f ≡ i)
some_field zero h = (KeyCount, refl)
some_field (suc zero) h = (KeyBytes, refl)
some_field (suc (suc zero)) h = (ValCount, refl)
some_field (suc (suc (suc zero))) h = (ValBytes, refl)
some_field (suc (suc (suc (suc zero)))) h = (LiveCount, refl)
some_field (suc (suc (suc (suc (suc zero))))) h = (LiveBytes, refl)
some_field (suc (suc (suc (suc (suc (suc zero)))))) h = (IntentCount, refl)
some_field (suc (suc (suc (suc (suc (suc (suc zero))))))) h = (IntentBytes, refl)
some_field (suc (suc (suc (suc (suc (suc (suc (suc zero)))))))) h = (IntentAge, refl)
some_field (suc (suc (suc (suc (suc (suc (suc (suc (suc zero))))))))) h = (GcBytesAge, refl)
some_field (suc (suc (suc (suc (suc (suc (suc (suc (suc (suc zero)))))))))) h = (RangeKeyCount, refl)
some_field (suc (suc (suc (suc (suc (suc (suc (suc (suc (suc (suc zero))))))))))) h = (RangeKeyBytes, refl)
some_field (suc (suc (suc (suc (suc (suc (suc (suc (suc (suc (suc (suc zero)))))))))))) h = (RangeValCount, refl)
some_field (suc (suc (suc (suc (suc (suc (suc (suc (suc (suc (suc (suc (suc zero))))))))))))) h = (RangeValBytes, refl)
some_field (suc (suc (suc (suc (suc (suc (suc (suc (suc (suc (suc (suc (suc (suc n)))))))))))))) h = absurd (omega arith)

-- what holds of the number of each field holds of that at each place
pub at-place : (P : ℤ → Type 0) (xs : List ℤ) (i : ℕ) → i < 14 → ((f : Field) → P (number_at xs f)) → P (slice_index_or xs i (pos 0))
at-place P xs i h all = let s = some_field i h in subst (λ k. P (slice_index_or xs k (pos 0))) s.1 (all s.0)

-- what the counter at a place becomes
abbrev pub changed_at : List ℕ → List ℤ → List ℤ → Sign → ℕ → ℤ
changed_at counts gained numbers sign i = moved_by sign (pos (slice_index counts i) +ℤ slice_index_or gained i (pos 0)) (slice_index_or numbers i (pos 0))

-- it is not negative where none is
pub changed_at-no_debt : (counts : List ℕ) (gained numbers : List ℤ) (sign : Sign) (i : ℕ) → i < 14
    → NoDebt (changed_number counts gained numbers sign) → pos 0 ≤ℤ changed_at counts gained numbers sign i
changed_at-no_debt counts gained numbers sign i h none =
    let s = some_field i h in subst (λ k. pos 0 ≤ℤ changed_at counts gained numbers sign k) s.1 (none s.0)

pub place_of-within : (f : Field) → field_index f < 14
place_of-within KeyCount = lit< tt
place_of-within KeyBytes = lit< tt
place_of-within ValCount = lit< tt
place_of-within ValBytes = lit< tt
place_of-within LiveCount = lit< tt
place_of-within LiveBytes = lit< tt
place_of-within IntentCount = lit< tt
place_of-within IntentBytes = lit< tt
place_of-within IntentAge = lit< tt
place_of-within GcBytesAge = lit< tt
place_of-within RangeKeyCount = lit< tt
place_of-within RangeKeyBytes = lit< tt
place_of-within RangeValCount = lit< tt
place_of-within RangeValBytes = lit< tt

-- the field at a place
abbrev field_at : ℕ → Field
field_at i = get_or all_fields i KeyCount

field_at-place : (f : Field) → field_at (field_index f) ≡ f
field_at-place KeyCount = refl
field_at-place KeyBytes = refl
field_at-place ValCount = refl
field_at-place ValBytes = refl
field_at-place LiveCount = refl
field_at-place LiveBytes = refl
field_at-place IntentCount = refl
field_at-place IntentBytes = refl
field_at-place IntentAge = refl
field_at-place GcBytesAge = refl
field_at-place RangeKeyCount = refl
field_at-place RangeKeyBytes = refl
field_at-place RangeValCount = refl
field_at-place RangeValBytes = refl

same_place : (f g : Field) → field_index f ≡ field_index g → f ≡ g
same_place f g e = sym (field_at-place f) ∙ ap field_at e ∙ field_at-place g

-- the fields are numbered from n on
Numbered : ℕ → List Field → Type 0
Numbered n [] = ⊤
Numbered n (f ∷ fs) = (field_index f ≡ n) × Numbered (n + 1) fs

-- the first that passes a test is found
find-first : (test : Field → Bool) (fs : List Field) (n : ℕ) (g : Field) → Numbered n fs → n ≤ field_index g → field_index g < n + length fs
    → test g ≡ true → ((f : Field) → field_index f < field_index g → test f ≡ false) → find test fs ≡ Some g
unfolding Numbered
find-first test [] n g num low high pass before = absurd (omega arith)
find-first test (f ∷ fs) n g num low high pass before =
    elim (cases_order (field_index f) (field_index g)) [
      | inl same ↦ (let e : f ≡ g = same_place f g same in let p : test f ≡ true = ap test e ∙ pass in rw p (ap (λ h. Some h) e))
      | inr other ↦ elim other [
        | inl under ↦ rw (before f under) (find-first test fs (n + 1) g num.1 (omega (arith, num.0, under)) (omega (arith, high)) pass before)
        | inr over ↦ absurd (omega (arith, num.0, over, low))
      ]
    ]

numbered : Numbered 0 all_fields
unfolding Numbered
numbered = (refl, (refl, (refl, (refl, (refl, (refl, (refl, (refl, (refl, (refl, (refl, (refl, (refl, (refl, tt))))))))))))))

-- each number of numbers as statistics
pub field-whole_sums : (numbers : Field → ℤ) (f : Field) → field f (whole_sums numbers) ≡ whole (numbers f)
field-whole_sums numbers KeyCount = refl
field-whole_sums numbers KeyBytes = refl
field-whole_sums numbers ValCount = refl
field-whole_sums numbers ValBytes = refl
field-whole_sums numbers LiveCount = refl
field-whole_sums numbers LiveBytes = refl
field-whole_sums numbers IntentCount = refl
field-whole_sums numbers IntentBytes = refl
field-whole_sums numbers IntentAge = refl
field-whole_sums numbers GcBytesAge = refl
field-whole_sums numbers RangeKeyCount = refl
field-whole_sums numbers RangeKeyBytes = refl
field-whole_sums numbers RangeValCount = refl
field-whole_sums numbers RangeValBytes = refl

pub field-sums_of : (counts : List ℕ) (f : Field) → field f (sums_of counts) ≡ count_at counts f
field-sums_of counts KeyCount = refl
field-sums_of counts KeyBytes = refl
field-sums_of counts ValCount = refl
field-sums_of counts ValBytes = refl
field-sums_of counts LiveCount = refl
field-sums_of counts LiveBytes = refl
field-sums_of counts IntentCount = refl
field-sums_of counts IntentBytes = refl
field-sums_of counts IntentAge = refl
field-sums_of counts GcBytesAge = refl
field-sums_of counts RangeKeyCount = refl
field-sums_of counts RangeKeyBytes = refl
field-sums_of counts RangeValCount = refl
field-sums_of counts RangeValBytes = refl

below : (m n : ℕ) → m < n → nat_lt m n ≡ true
below m n h = grind (arith, nat_tests)

not_below : (m n : ℕ) → n ≤ m → nat_lt m n ≡ false
not_below m n h = grind (arith, nat_tests)

over : (bound : ℕ) (z : ℤ) → pos bound <ℤ z → bound < whole z
over bound (pos n) h = omega (arith, ints, h)
over bound (negsuc n) h = absurd (omega (arith, ints, h))

under : (bound : ℕ) (z : ℤ) → z ≤ℤ pos bound → whole z ≤ bound
under bound (pos n) h = omega (arith, ints, h)
under bound (negsuc n) h = omega arith

-- where a number passes the bound first, the statistics that the numbers are overflow there
pub overflowing-first : (bound : ℕ) (numbers : Field → ℤ) (f : Field) → IsFirstAbove bound numbers f → overflowing bound (whole_sums numbers) ≡ Some f
unfolding overflowing
overflowing-first bound numbers f h =
    find-first (λ g. nat_lt bound (field g (whole_sums numbers))) all_fields 0 f numbered (omega arith) (omega (arith, place_of-within f))
    (below bound (field f (whole_sums numbers)) (subst (λ n. bound < n) (sym (field-whole_sums numbers f)) (over bound (numbers f) h.above)))
    (λ g lt. not_below bound (field g (whole_sums numbers)) (subst (λ n. n ≤ bound) (sym (field-whole_sums numbers g)) (under bound (numbers g) (h.before g lt))))

-- counters that are these numbers are the statistics that the numbers are
pub counted-sums : (bound : ℕ) (numbers : Field → ℤ) (counts : List ℕ) → AreCounted bound numbers counts → sums_of counts ≡ whole_sums numbers
counted-sums bound numbers counts h =
    fields-tell (sums_of counts) (whole_sums numbers) (λ f. field-sums_of counts f ∙ ap whole (h.same f) ∙ sym (field-whole_sums numbers f))

-- and none overflows
pub counted-fits : (bound : ℕ) (numbers : Field → ℤ) (counts : List ℕ) → AreCounted bound numbers counts → overflowing bound (sums_of counts) ≡ None
counted-fits bound numbers counts h = no_overflow-from bound (sums_of counts) (λ f. subst (λ n. n ≤ bound) (sym (field-sums_of counts f)) (h.within f))

-- one place more is written
pub place-more : (next : List ℕ) (N : ℕ → ℤ) (i v : ℕ) → i < length next → pos v ≡ N i → ((k : ℕ) → k < i → pos (get_or next k 0) ≡ N k)
    → (k : ℕ) → k < i + 1 → pos (get_or (set next i v) k 0) ≡ N k
place-more next N i v within here before k lt =
    elim (cases_order k i) [
      | inl same ↦ (let e : get_or (set next i v) k 0 ≡ v = get_or-set_at next i k v 0 same within in ap (λ n. pos n) e ∙ here ∙ ap N (sym same))
      | inr other ↦ elim other [
        | inl under ↦ ap (λ n. pos n) (get_or-set_other next i k v 0 (λ e. omega arith)) ∙ before k under
        | inr over ↦ absurd (omega arith)
      ]
    ]

pub low-more : (next : List ℕ) (i v bound : ℕ) → i < length next → v ≤ bound → ((k : ℕ) → k < i → get_or next k 0 ≤ bound)
    → (k : ℕ) → k < i + 1 → get_or (set next i v) k 0 ≤ bound
low-more next i v bound within here before k lt =
    elim (cases_order k i) [
      | inl same ↦ omega (arith, get_or-set_at next i k v 0 same within)
      | inr other ↦ elim other [
        | inl under ↦ omega (arith, get_or-set_other next i k v 0 (λ e. omega arith), before k under)
        | inr over ↦ absurd (omega arith)
      ]
    ]

-- the first place whose number passes the bound is the first field's
pub first-above : (bound : ℕ) (counts : List ℕ) (gained numbers : List ℤ) (sign : Sign) (next : List ℕ) (i : ℕ) (f : Field) → field_index f ≡ i
    → pos bound <ℤ changed_at counts gained numbers sign i
    → ((k : ℕ) → k < i → pos (get_or next k 0) ≡ changed_at counts gained numbers sign k) → ((k : ℕ) → k < i → get_or next k 0 ≤ bound)
    → IsFirstAbove bound (changed_number counts gained numbers sign) f
first-above bound counts gained numbers sign next i f here above same low = record {
  above = subst (λ k. pos bound <ℤ changed_at counts gained numbers sign k) (sym here) above;
  before = λ g lt.
      let before : field_index g < i = omega (arith, here, lt) in
      let l : get_or next (field_index g) 0 ≤ bound = low (field_index g) before in
      let up : pos (get_or next (field_index g) 0) ≤ℤ pos bound = omega (arith, ints, l) in
      subst (λ z. z ≤ℤ pos bound) (same (field_index g) before) up;
}

-- what is written at every place is written for every field
pub all-counted : (bound : ℕ) (counts : List ℕ) (gained numbers : List ℤ) (sign : Sign) (next : List ℕ) (i : ℕ) → length next ≡ 14 → 14 ≤ i
    → ((k : ℕ) → k < i → pos (get_or next k 0) ≡ changed_at counts gained numbers sign k) → ((k : ℕ) → k < i → get_or next k 0 ≤ bound)
    → AreCounted bound (changed_number counts gained numbers sign) next
all-counted bound counts gained numbers sign next i long all same low = record {
  all = long;
  same = λ f. same (field_index f) (omega (arith, place_of-within f));
  within = λ f. low (field_index f) (omega (arith, place_of-within f));
}
