-- Lists of points that are filtered, and lists that are cut.
use Rattle.std.proofs.Common.{◌≡◌, ℕ, zero, suc, ◌+◌, ◌<◌, Bool, true, false, cond, List, [], ◌∷◌, drop, refl, sym, ap, ◌∙◌, arith}
use Rattle.std.specs.Prelude.{◌&&◌, filter, find, slice_get, Some, None}
use Rattle.mvcc_key.specs.Points.{Point}
use Rattle.mvcc_key.specs.Lists.{first}
use Rattle.mvcc_cursor.specs.KeyPoints.{kept_if}

filter-cons : (T : Point → Bool) (x : Point) (xs : List Point) (b : Bool) → T x ≡ b → filter T (x ∷ xs) ≡ cond b (x ∷ filter T xs) (filter T xs)
filter-cons T x xs b is = ap (λ (c : Bool). cond c (x ∷ filter T xs) (filter T xs)) is

-- what is cut off does not pass, so nothing is lost
pub filter-drop : (T : Point → Bool) (n : ℕ) (xs : List Point) → ((i : ℕ) (x : Point) → i < n → slice_get xs i ≡ Some x → T x ≡ false) → filter T (drop n xs) ≡ filter T xs
filter-drop T zero xs fails = refl
filter-drop T (suc n) [] fails = refl
filter-drop T (suc n) (x ∷ xs) fails =
    filter-drop T n xs (λ i y lt is. fails (suc i) y (omega arith) is)
    ∙ sym (filter-cons T x xs false (fails 0 x (omega arith) refl))

-- two tests that agree
pub filter-same : (T U : Point → Bool) (xs : List Point) → ((i : ℕ) (x : Point) → slice_get xs i ≡ Some x → T x ≡ U x) → filter T xs ≡ filter U xs
filter-same T U [] same = refl
filter-same T U (x ∷ xs) same =
    filter-cons T x xs (U x) (same 0 x refl)
    ∙ ap (λ (l : List Point). cond (U x) (x ∷ l) l) (filter-same T U xs (λ i y is. same (suc i) y is))

-- a filter that nothing passes
pub filter-none : (T : Point → Bool) (xs : List Point) → ((i : ℕ) (x : Point) → slice_get xs i ≡ Some x → T x ≡ false) → filter T xs ≡ []
filter-none T [] fails = refl
filter-none T (x ∷ xs) fails = filter-cons T x xs false (fails 0 x refl) ∙ filter-none T xs (λ i y is. fails (suc i) y is)

-- a filter behind another
pub filter-filter : (T U : Point → Bool) (xs : List Point) → filter T (filter U xs) ≡ filter (λ x. U x && T x) xs
filter-filter T U [] = refl
filter-filter T U (x ∷ xs) = by (U x) refl (filter-filter T U xs)
  where
    by : (b : Bool) → U x ≡ b → filter T (filter U xs) ≡ filter (λ x. U x && T x) xs → filter T (cond b (x ∷ filter U xs) (filter U xs)) ≡ cond (b && T x) (x ∷ filter (λ x. U x && T x) xs) (filter (λ x. U x && T x) xs)
    by true is rest = ap (λ (l : List Point). cond (T x) (x ∷ l) l) rest
    by false is rest = rest

-- the first that passes
pub find-filter : (T : Point → Bool) (xs : List Point) → find T xs ≡ first (filter T xs)
find-filter T [] = refl
find-filter T (x ∷ xs) = by (T x) (find-filter T xs)
  where
    by : (b : Bool) → find T xs ≡ first (filter T xs) → cond b (Some x) (find T xs) ≡ first (cond b (x ∷ filter T xs) (filter T xs))
    by true rest = refl
    by false rest = rest

pub find-same : (T U : Point → Bool) (xs : List Point) → ((x : Point) → T x ≡ U x) → find T xs ≡ find U xs
find-same T U xs same = find-filter T xs ∙ ap first (filter-same T U xs (λ i x is. same x)) ∙ sym (find-filter U xs)

pub slice_get-drop : (n i : ℕ) (xs : List Point) → slice_get (drop n xs) i ≡ slice_get xs (n + i)
slice_get-drop zero i xs = (let e : i ≡ 0 + i = omega arith in ap (slice_get xs) e)
slice_get-drop (suc n) i [] = refl
slice_get-drop (suc n) i (x ∷ xs) = (let e : suc (n + i) ≡ suc n + i = omega arith in slice_get-drop n i xs ∙ ap (slice_get (x ∷ xs)) e)

pub first-drop : (n : ℕ) (xs : List Point) → first (drop n xs) ≡ slice_get xs n
first-drop zero [] = refl
first-drop zero (x ∷ xs) = refl
first-drop (suc n) [] = refl
first-drop (suc n) (x ∷ xs) = first-drop n xs

pub drop-more : (n : ℕ) (xs : List Point) → drop 1 (drop n xs) ≡ drop (suc n) xs
drop-more zero xs = refl
drop-more (suc n) [] = refl
drop-more (suc n) (x ∷ xs) = drop-more n xs

-- what passes stands in front: where the first does not pass, none does
abbrev pub IsInFront : (Point → Bool) → List Point → Type 0
IsInFront T xs = (x : Point) (ys : List Point) → xs ≡ x ∷ ys → T x ≡ false → filter T ys ≡ []

-- then the first that passes is the first one
pub first-front : (T : Point → Bool) (xs : List Point) → IsInFront T xs → first (filter T xs) ≡ kept_if T (first xs)
first-front T [] front = refl
first-front T (x ∷ xs) front = by (T x) refl
  where
    by : (b : Bool) → T x ≡ b → first (cond b (x ∷ filter T xs) (filter T xs)) ≡ cond b (Some x) None
    by true is = refl
    by false is = ap first (front x xs refl is)

-- and the others are those that pass of the rest
pub rest-front : (T : Point → Bool) (xs : List Point) → IsInFront T xs → filter T (drop 1 xs) ≡ drop 1 (filter T xs)
rest-front T [] front = refl
rest-front T (x ∷ xs) front = by (T x) refl
  where
    by : (b : Bool) → T x ≡ b → filter T xs ≡ drop 1 (cond b (x ∷ filter T xs) (filter T xs))
    by true is = refl
    by false is = (let none : filter T xs ≡ [] = front x xs refl is in none ∙ sym (ap (drop 1) none))
