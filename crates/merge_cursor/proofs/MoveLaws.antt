-- One part more of a list of parts was moved.
use Rattle.std.proofs.Common.{◌≡◌, ℕ, zero, suc, ◌+◌, ◌<◌, ◌≤◌, Bool, true, false, sum_by, count_by, List, [], ◌∷◌, ◌++◌, length, map, take, drop, set, get_or, refl, ap, ◌∙◌, arith}
use Rattle.std.specs.Prelude.{IsTrue}
use Rattle.std.proofs.lemmas.List.Sums.{sum_by_more, count_by_more_no}

module _ {X : Type 0} where
  -- the elements up to i are changed, and those behind are not
  abbrev pub changed_to : (X → X) → ℕ → List X → List X
  changed_to f i xs = map f (take i xs) ++ drop i xs

  -- one more is changed
  changed_suc : (f : X → X) (xs : List X) (i : ℕ) (d : X) → i < length xs → set (changed_to f i xs) i (f (get_or (changed_to f i xs) i d)) ≡ changed_to f (suc i) xs
  changed_suc f [] i d lt = absurd (omega arith)
  changed_suc f (x ∷ xs) zero d lt = refl
  changed_suc f (x ∷ xs) (suc i) d lt = ap (λ (ys : List X). f x ∷ ys) (changed_suc f xs i d (omega arith))

  -- it is the old one until then
  changed-at : (f : X → X) (xs : List X) (i : ℕ) (d : X) → get_or (changed_to f i xs) i d ≡ get_or xs i d
  changed-at f [] zero d = refl
  changed-at f [] (suc i) d = refl
  changed-at f (x ∷ xs) zero d = refl
  changed-at f (x ∷ xs) (suc i) d = changed-at f xs i d

  -- the element at the place is changed next
  pub changed_more : (f : X → X) (xs now : List X) (i : ℕ) (old new : X) → i < length xs → now ≡ changed_to f i xs → old ≡ get_or now i old → new ≡ f old
      → (set now i new ≡ changed_to f (i + 1) xs) × (old ≡ get_or xs i old)
  changed_more f xs now i old new lt is at made = (
    ap (λ (y : X). set now i y) made
        ∙ ap (λ (y : X). set now i (f y)) at
        ∙ ap (λ (ys : List X). set ys i (f (get_or ys i old))) is
        ∙ changed_suc f xs i old lt
        ∙ ap (λ (n : ℕ). changed_to f n xs) (let same : suc i ≡ i + 1 = omega arith in same),
    at ∙ ap (λ (ys : List X). get_or ys i old) is ∙ changed-at f xs i old,
  )

  -- one look more was taken where one was due
  pub some_more : (test : X → Bool) (xs : List X) (i : ℕ) (x : X) (start before after : ℕ) → i < length xs → x ≡ get_or xs i x
      → (0 < count_by test (take i xs) → start < before) → start ≤ before → before ≤ after → (IsTrue (test x) → before < after)
      → 0 < count_by test (take (i + 1) xs) → start < after
  some_more test xs i x start before after lt at so_far later after_it due = by (test x) refl
    where
      by : (b : Bool) → test x ≡ b → (h : 0 < count_by test (take (i + 1) xs)) → start < after
      by true is h = (let more = due is in omega arith)
      by false is h =
          let same : count_by test (take (i + 1) xs) ≡ count_by test (take i xs) = count_by_more_no test xs i x lt (rw (← at) is) in
          let more = so_far (rw (← same) h) in
          omega arith

  -- the looks so far, and those of one part more
  pub looks_more : (f : X → ℕ) (xs : List X) (i : ℕ) (x : X) (start before after : ℕ) → i < length xs → x ≡ get_or xs i x
      → before ≤ start + sum_by f (take i xs) → after ≤ before + f x → after ≤ start + sum_by f (take (i + 1) xs)
  looks_more f xs i x start before after lt at so_far more =
      rw (sum_by_more f xs i x lt) (let same : f x ≡ f (get_or xs i x) = ap f at in omega arith)
