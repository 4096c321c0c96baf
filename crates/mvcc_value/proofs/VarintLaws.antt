-- The shortest form of a number: how it begins, and what can stand in it.
use Rattle.std.proofs.Common.{◌≡◌, ℕ, zero, suc, ◌+◌, ◌*◌, ◌/◌, ◌%◌, ◌^◌, ◌<◌, ◌≤◌, Bool, true, false, cond, ltb, List, [], ◌∷◌, ◌++◌, length, refl, sym, ap, append_assoc, ◌∙◌, arith, inl, inr, ◌⊎◌}
use Rattle.std.specs.Prelude.{bytes_eq, ◌&&◌, ◌||◌}
use Rattle.std.proofs.lemmas.Bool.{cases_lt, lt-ltb, le-ltb, ltb-true, and_parts, and_from}
use Rattle.std.proofs.lemmas.Slice.Eq.{bytes_eq-Decides}
use Rattle.std.proofs.Math.Nat.{pow-suc}
use Rattle.mvcc_key.specs.Lists.{is_empty}
use Rattle.mvcc_value.specs.Encoding.{groups, varint, number_of, is_varint}
use Rattle.mvcc_value.proofs.ValueLaws.{number_of-varint}

-- room for more groups changes nothing
groups_more : (k n : ℕ) → n < 128 ^ suc k → groups (suc (suc k)) n ≡ groups (suc k) n
groups_more zero n lt =
    let small : n < 128 = omega arith in
    rw (lt-ltb n 128 small) refl
groups_more (suc k) n lt =
    elim (cases_lt n 128) [
      | inl small ↦ rw (lt-ltb n 128 small) refl
      | inr large ↦
          let power : 128 ^ suc (suc k) ≡ 128 ^ suc k * 128 = pow-suc 128 (suc k) in
          rw (le-ltb n 128 large) (ap (λ (xs : List ℕ). (128 + n % 128) ∷ xs) (groups_more k (n / 128) (omega arith)))
    ]

-- a number below 128 is one group
pub varint-small : (n : ℕ) → n < 128 → varint n ≡ n ∷ []
unfolding varint
varint-small n small = rw (lt-ltb n 128 small) refl

-- a larger number is its lowest group and the groups of the rest
pub varint-large : (n : ℕ) → 128 ≤ n → n < 2 ^ 64 → varint n ≡ (128 + n % 128) ∷ varint (n / 128)
unfolding varint
varint-large n large lt =
    rw (le-ltb n 128 large) (ap (λ (xs : List ℕ). (128 + n % 128) ∷ xs) (sym (groups_more 8 (n / 128) (omega arith))))

-- the lowest group, put behind other bytes
pub varint-put : (out : List ℕ) (n : ℕ) → 128 ≤ n → n < 2 ^ 64 → (out ++ (128 + n % 128) ∷ []) ++ varint (n / 128) ≡ out ++ varint n
varint-put out n large lt = append_assoc out ((128 + n % 128) ∷ []) (varint (n / 128)) ∙ ap (λ (xs : List ℕ). out ++ xs) (sym (varint-large n large lt))

-- one group more in front
pub varint-push : (group number : ℕ) → 128 ≤ group → group < 256 → 0 < number → number < 2 ^ 57 → varint (number * 128 + group % 128) ≡ group ∷ varint number
varint-push group number high byte some lt =
    let low : (number * 128 + group % 128) % 128 ≡ group % 128 = omega arith in
    let rest : (number * 128 + group % 128) / 128 ≡ number = omega arith in
    let is : 128 + group % 128 ≡ group = omega arith in
    varint-large (number * 128 + group % 128) (omega arith) (omega arith) ∙ rw (low, rest, is) refl

-- numbers with the same groups are the same
pub varint-injective : (m n : ℕ) → m < 2 ^ 64 → n < 2 ^ 64 → varint m ≡ varint n → m ≡ n
varint-injective m n m-fits n-fits e = sym (number_of-varint m m-fits) ∙ ap number_of e ∙ number_of-varint n n-fits

-- a number has 10 groups at most
pub length-varint_le : (n : ℕ) → length (varint n) ≤ 10
unfolding varint
length-varint_le n = at_most 10 n
  where
    at_most : (k n : ℕ) → length (groups k n) ≤ k
    at_most zero n = omega arith
    at_most (suc k) n = by (ltb n 128) (at_most k (n / 128))
      where
        by : (b : Bool) → length (groups k (n / 128)) ≤ k → length (cond b (n ∷ []) ((128 + n % 128) ∷ groups k (n / 128))) ≤ suc k
        by true h = omega arith
        by false h = omega arith

-- what stands behind the first groups of a number: the groups of one that is no greater
record Behind (front rest : List ℕ) (n : ℕ) : Type 0 where
  pub number : ℕ
  pub groups_are : rest ≡ varint number
  pub below : number ≤ n
  pub some : 0 < n → 0 < number
  pub large : 0 < length front → 128 ≤ n

-- a list with an element is not empty
no_more : (front : List ℕ) (b : ℕ) (rest : List ℕ) → front ++ b ∷ rest ≡ [] → ⊥
no_more [] b rest e = cc
no_more (f ∷ fs) b rest e = cc

-- behind some of the first groups stand the groups of a number
behind : (front : List ℕ) (b : ℕ) (rest : List ℕ) (n : ℕ) → n < 2 ^ 64 → front ++ b ∷ rest ≡ varint n → Behind front (b ∷ rest) n
behind [] b rest n lt e = record { number = n; groups_are = e; below = omega arith; some = λ h. h; large = λ h. absurd (omega arith) }
behind (f ∷ fs) b rest n lt e = by (cases_lt n 128) (behind fs b rest (n / 128) (omega arith))
  where
    by : (n < 128) ⊎ (128 ≤ n) → (fs ++ b ∷ rest ≡ varint (n / 128) → Behind fs (b ∷ rest) (n / 128)) → Behind (f ∷ fs) (b ∷ rest) n
    by (inl small) inner =
        let one : f ∷ (fs ++ b ∷ rest) ≡ n ∷ [] = e ∙ varint-small n small in
        absurd (no_more fs b rest cc)
    by (inr large) inner =
        let more : f ∷ (fs ++ b ∷ rest) ≡ (128 + n % 128) ∷ varint (n / 128) = e ∙ varint-large n large lt in
        let i : Behind fs (b ∷ rest) (n / 128) = inner cc in
        record { number = i.number; groups_are = i.groups_are; below = omega (arith, i.below); some = λ h. i.some (omega arith); large = λ h. large }

-- ---- bytes that are the groups of a number, or of none

-- what is known of the bytes of a number
pub is_varint-of : (bytes : List ℕ) (n : ℕ) → n < 2 ^ 64 → varint n ≡ bytes → (is_varint bytes ≡ true) × (number_of bytes ≡ n)
is_varint-of bytes n lt e =
    let number : number_of bytes ≡ n = sym (ap number_of e) ∙ number_of-varint n lt in
    let again : varint (number_of bytes) ≡ bytes = ap varint number ∙ e in (
      and_from _ _ (lt-ltb _ _ (omega arith)) ((bytes_eq-Decides (varint (number_of bytes)) bytes).1 again),
      number,
    )

-- bytes that are those of no number
pub is_varint-of_none : (bytes : List ℕ) → ((n : ℕ) → n < 2 ^ 64 → varint n ≡ bytes → ⊥) → is_varint bytes ≡ false
is_varint-of_none bytes none = by (is_varint bytes) refl
  where
    by : (b : Bool) → is_varint bytes ≡ b → b ≡ false
    by false e = refl
    by true e =
        let tests = and_parts (ltb (number_of bytes) (2 ^ 64)) (bytes_eq (varint (number_of bytes)) bytes) e in
        absurd (none (number_of bytes) (ltb-true _ _ tests.0) ((bytes_eq-Decides (varint (number_of bytes)) bytes).0 tests.1))

-- a number has a group
some_group : (n : ℕ) → n < 2 ^ 64 → varint n ≡ [] → ⊥
some_group n lt e =
    elim (cases_lt n 128) [
      | inl small ↦ let one = varint-small n small in cc
      | inr large ↦ let more = varint-large n large lt in cc
    ]

-- the empty list is that of no number
pub is_varint-nil : is_varint [] ≡ false
is_varint-nil = is_varint-of_none [] some_group

-- the last group
pub record IsLastGroup (front : List ℕ) (last : ℕ) : Type 0 where
  pub low : last < 128
  pub some : 0 < length front → 0 < last

-- the last group of a number is low, and not 0 where others stand before it
pub last-group : (front : List ℕ) (last n : ℕ) → n < 2 ^ 64 → varint n ≡ front ++ last ∷ [] → IsLastGroup front last
last-group front last n lt e = by (cases_lt b.number 128)
  where
    b : Behind front (last ∷ []) n
    b = behind front last [] n lt (sym e)

    by : (b.number < 128) ⊎ (128 ≤ b.number) → IsLastGroup front last
    by (inl small) =
        let one : last ∷ [] ≡ b.number ∷ [] = b.groups_are ∙ varint-small b.number small in
        let last-is : last ≡ b.number = cc in
        record { low = omega arith; some = λ h. let far = b.large h in let s = b.some (omega arith) in omega arith }
    by (inr large) =
        let more : last ∷ [] ≡ (128 + b.number % 128) ∷ varint (b.number / 128) = b.groups_are ∙ varint-large b.number large (omega (arith, b.below)) in
        absurd (some_group (b.number / 128) (omega (arith, b.below)) cc)

-- a group before the last ones is high, and the number behind it is not too large
pub record IsInnerGroup (group number : ℕ) : Type 0 where
  pub high : 128 ≤ group
  pub fits : number < 2 ^ 57

-- the groups before the last
pub inner-group : (front : List ℕ) (group number n : ℕ) → n < 2 ^ 64 → number < 2 ^ 64 → varint n ≡ front ++ group ∷ varint number → IsInnerGroup group number
inner-group front group number n lt fits e = by (cases_lt b.number 128)
  where
    b : Behind front (group ∷ varint number) n
    b = behind front group (varint number) n lt (sym e)

    by : (b.number < 128) ⊎ (128 ≤ b.number) → IsInnerGroup group number
    by (inl small) =
        let one : group ∷ varint number ≡ b.number ∷ [] = b.groups_are ∙ varint-small b.number small in
        absurd (some_group number fits cc)
    by (inr large) =
        let more : group ∷ varint number ≡ (128 + b.number % 128) ∷ varint (b.number / 128) = b.groups_are ∙ varint-large b.number large (omega (arith, b.below)) in
        let group-is : group ≡ 128 + b.number % 128 = cc in
        let number-is : number ≡ b.number / 128 = varint-injective number (b.number / 128) fits (omega (arith, b.below)) cc in
        record { high = omega arith; fits = omega (arith, b.below) }

-- ---- as the reading goes, from the last group on

-- a group that can be the last one behind others
abbrev is_last : List ℕ → ℕ → Bool
is_last front last = ltb last 128 && (ltb 0 last || is_empty front)

-- what the test says
pub is_last-parts : (front : List ℕ) (last : ℕ) → is_last front last ≡ true → IsLastGroup front last
is_last-parts front last e = record { low = ltb-true _ _ (and_parts (ltb last 128) (ltb 0 last || is_empty front) e).0; some = some front (and_parts (ltb last 128) (ltb 0 last || is_empty front) e).1 }
  where
    some : (front : List ℕ) → (ltb 0 last || is_empty front) ≡ true → 0 < length front → 0 < last
    some [] e h = absurd (omega arith)
    some (f ∷ fs) e h = by (ltb 0 last) refl e
      where
        by : (b : Bool) → ltb 0 last ≡ b → (b || false) ≡ true → 0 < last
        by true p e = ltb-true _ _ p
        by false p e = absurd cc

-- no number has this last group
pub is_varint-bad_last : (bytes front : List ℕ) (last : ℕ) → bytes ≡ front ++ last ∷ [] → is_last front last ≡ false → is_varint bytes ≡ false
is_varint-bad_last bytes front last parts bad = is_varint-of_none bytes (λ n lt e. against n lt (e ∙ parts))
  where
    passes : (front : List ℕ) → IsLastGroup front last → is_last front last ≡ true
    passes [] g = and_from _ _ (lt-ltb _ _ g.low) (grind arith)
    passes (f ∷ fs) g = and_from _ _ (lt-ltb _ _ g.low) (let s : 0 < last = g.some (omega arith) in rw (lt-ltb 0 last s) refl)

    against : (n : ℕ) → n < 2 ^ 64 → varint n ≡ front ++ last ∷ [] → ⊥
    against n lt e = let good : is_last front last ≡ true = passes front (last-group front last n lt e) in cc

-- no number has this group before those of the other number
pub is_varint-bad_group : (bytes all front : List ℕ) (group number : ℕ) → number < 2 ^ 64 → all ≡ front ++ group ∷ [] → all ++ varint number ≡ bytes
    → (group < 128) ⊎ (2 ^ 57 ≤ number) → is_varint bytes ≡ false
is_varint-bad_group bytes all front group number fits parts whole bad =
    is_varint-of_none bytes (λ n lt e. against n lt (e ∙ sym whole ∙ ap (λ (xs : List ℕ). xs ++ varint number) parts ∙ append_assoc front (group ∷ []) (varint number)) bad)
  where
    against : (n : ℕ) → n < 2 ^ 64 → varint n ≡ front ++ group ∷ varint number → (group < 128) ⊎ (2 ^ 57 ≤ number) → ⊥
    against n lt e (inl low) = omega (arith, (inner-group front group number n lt fits e).high)
    against n lt e (inr far) = omega (arith, (inner-group front group number n lt fits e).fits)

-- one group more is read
pub varint-more : (bytes all front : List ℕ) (group number : ℕ) → all ≡ front ++ group ∷ [] → all ++ varint number ≡ bytes
    → 128 ≤ group → group < 256 → 0 < number → number < 2 ^ 57 → front ++ varint (number * 128 + group % 128) ≡ bytes
varint-more bytes all front group number parts whole high byte some lt =
    ap (λ (xs : List ℕ). front ++ xs) (varint-push group number high byte some lt) ∙ sym (append_assoc front (group ∷ []) (varint number))
    ∙ sym (ap (λ (xs : List ℕ). xs ++ varint number) parts) ∙ whole
