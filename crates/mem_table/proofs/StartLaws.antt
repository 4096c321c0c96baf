-- How many slots stand before each leaf.
use Rattle.std.proofs.Common.{◌≡◌, ℕ, zero, suc, ◌+◌, ◌<◌, ◌≤◌, ◌^◌, List, [], ◌∷◌, ◌++◌, length, map, take, drop, set, get_or, refl, sym, ap, ap₂, subst, ◌∙◌, arith, append-nil}
use Rattle.std.specs.Prelude.{insert}
use Rattle.std.proofs.Math.Seq.{take-append_seam}
use Rattle.std.specs.List.{AllByRecursion}
use Rattle.std.proofs.lemmas.List.{length-append, length-take-le, length-drop, get_or_default}
use Rattle.std.proofs.lemmas.List.Folds.{length-flat_map-take}
use Rattle.std.proofs.lemmas.List.Edits.{length-insert}
use Rattle.mem_table.specs.views.Slots.{Slots, no_slots, IsEmptyLeaf, half, most, AreLeaves, with_slot, split_leaf, numbers_in, starts_from}
use Rattle.mem_table.specs.views.Gaps.{leaf_at, place_of}
use Rattle.mem_table.proofs.LeafLaws.{leaf-at}
use Rattle.mem_table.proofs.NumberLaws.{each-weaker}

-- ---- one more from a place on

-- each from `from` up to `i` is one more
abbrev pub grown : ℕ → ℕ → List ℕ → List ℕ
grown from zero xs = xs
grown from (suc i) [] = []
grown zero (suc i) (x ∷ xs) = (x + 1) ∷ grown zero i xs
grown (suc from) (suc i) (x ∷ xs) = x ∷ grown from i xs

pub grown-first : (from : ℕ) (xs : List ℕ) → xs ≡ grown from from xs
grown-first zero xs = refl
grown-first (suc from) [] = refl
grown-first (suc from) (x ∷ xs) = ap (λ (us : List ℕ). x ∷ us) (grown-first from xs)

pub grown-at : (from i : ℕ) (xs : List ℕ) (d : ℕ) → get_or (grown from i xs) i d ≡ get_or xs i d
grown-at from zero xs d = refl
grown-at from (suc i) [] d = refl
grown-at zero (suc i) (x ∷ xs) d = grown-at zero i xs d
grown-at (suc from) (suc i) (x ∷ xs) d = grown-at from i xs d

grown_suc : (from i : ℕ) (xs : List ℕ) (d : ℕ) → from ≤ i → i < length xs → set (grown from i xs) i (get_or xs i d + 1) ≡ grown from (suc i) xs
grown_suc from i [] d le lt = absurd (omega arith)
grown_suc zero zero (x ∷ xs) d le lt = refl
grown_suc (suc from) zero (x ∷ xs) d le lt = absurd (omega arith)
grown_suc zero (suc i) (x ∷ xs) d le lt = ap (λ (us : List ℕ). (x + 1) ∷ us) (grown_suc zero i xs d (omega arith) (omega arith))
grown_suc (suc from) (suc i) (x ∷ xs) d le lt = ap (λ (us : List ℕ). x ∷ us) (grown_suc from i xs d (omega arith) (omega arith))

pub grown-next : (from i : ℕ) (xs now : List ℕ) (d : ℕ) → from ≤ i → i < length xs → now ≡ grown from i xs → set now i (get_or now i d + 1) ≡ grown from (i + 1) xs
grown-next from i xs now d le lt is =
    let next : suc i ≡ i + 1 = omega arith in
    ap (λ (us : List ℕ). set us i (get_or us i d + 1)) is
    ∙ ap (λ (n : ℕ). set (grown from i xs) i (n + 1)) (grown-at from i xs d)
    ∙ grown_suc from i xs d le lt ∙ ap (λ (n : ℕ). grown from n xs) next

grown_zero : (xs : List ℕ) → grown zero (length xs) xs ≡ map (λ n. n + 1) xs
grown_zero [] = refl
grown_zero (x ∷ xs) = ap (λ (us : List ℕ). (x + 1) ∷ us) (grown_zero xs)

pub grown-last : (from : ℕ) (xs : List ℕ) → grown from (length xs) xs ≡ take from xs ++ map (λ n. n + 1) (drop from xs)
grown-last zero xs = grown_zero xs
grown-last (suc from) [] = refl
grown-last (suc from) (x ∷ xs) = ap (λ (us : List ℕ). x ∷ us) (grown-last from xs)

-- what was written back to a vector
pub written-back : (news items : List ℕ) (len : ℕ) → len ≡ length items → length news ≡ length items → take len (news ++ drop (length news) items) ≡ news
written-back news items len is same = ap (λ (n : ℕ). take n (news ++ drop (length news) items)) (is ∙ sym same) ∙ take-append_seam news (drop (length news) items)

-- what holds of each from a place on
pub from-at : (P : ℕ → Type 0) (from i : ℕ) (xs : List ℕ) (d : ℕ) → from ≤ i → i < length xs → AllByRecursion P (drop from xs) → P (get_or xs i d)
from-at P from i [] d le lt h = absurd (omega arith)
from-at P zero zero (x ∷ xs) d le lt h = h.0
from-at P zero (suc i) (x ∷ xs) d le lt h = from-at P zero i xs d (omega arith) (omega arith) h.1
from-at P (suc from) zero (x ∷ xs) d le lt h = absurd (omega arith)
from-at P (suc from) (suc i) (x ∷ xs) d le lt h = from-at P from i xs d (omega arith) (omega arith) h

each_drop : (P : ℕ → Type 0) (n : ℕ) (xs : List ℕ) → AllByRecursion P xs → AllByRecursion P (drop n xs)
each_drop P zero xs h = h
each_drop P (suc n) [] h = tt
each_drop P (suc n) (x ∷ xs) h = each_drop P n xs h.1

-- ---- the starts of leaves

-- as many as there are leaves
pub length-starts : (n : ℕ) (leaves : List Slots) → length (starts_from n leaves) ≡ length leaves
length-starts n [] = refl
length-starts n (s ∷ ss) = ap suc (length-starts (n + length s.numbers) ss)

-- with one more before the first
starts_more : (n m : ℕ) (leaves : List Slots) → m ≡ n + 1 → starts_from m leaves ≡ map (λ k. k + 1) (starts_from n leaves)
starts_more n m [] is = refl
starts_more n m (s ∷ ss) is = ap₂ (λ (k : ℕ) (ks : List ℕ). k ∷ ks) is (starts_more (n + length s.numbers) (m + length s.numbers) ss (omega arith))

starts_at : (n : ℕ) (leaves : List Slots) (i d : ℕ) → i < length leaves → get_or (starts_from n leaves) i d ≡ n + length (numbers_in (take i leaves))
starts_at n [] i d lt = absurd (omega arith)
starts_at n (s ∷ ss) zero d lt = omega arith
starts_at n (s ∷ ss) (suc i) d lt =
    let rest = starts_at (n + length s.numbers) ss i d (omega arith) in
    omega (arith, length-append s.numbers (numbers_in (take i ss)))

-- the start of a leaf is its first place
pub start-read : (leaves : List Slots) (starts : List ℕ) (i start : ℕ) → starts ≡ starts_from 0 leaves → i < length leaves → start ≡ get_or starts i start → start ≡ place_of leaves i 0
start-read leaves starts i start are lt read =
    let at = starts_at 0 leaves i start lt in
    read ∙ ap (λ (us : List ℕ). get_or us i start) are ∙ at ∙ omega arith

starts_below : (n bound : ℕ) (leaves : List Slots) → AreLeaves leaves → n + length (numbers_in leaves) ≤ bound → AllByRecursion (λ m. m < bound) (starts_from n leaves)
starts_below n bound [] are le = tt
starts_below n bound (s ∷ ss) are le =
    let one = (leaf-at (s ∷ ss) 0 no_slots are (omega arith)).enough in
    let long = length-append s.numbers (numbers_in ss) in
    (omega arith, starts_below (n + length s.numbers) bound ss are.1 (omega arith))

-- where there are fewer than 2^32 slots each start has room for one more
pub starts-fit : (leaves : List Slots) (starts : List ℕ) (from : ℕ) → AreLeaves leaves → starts ≡ starts_from 0 leaves → length (numbers_in leaves) < 2 ^ 32
    → AllByRecursion (λ n. n + 1 < 2 ^ 32) (drop from starts)
starts-fit leaves starts from are is few =
    each_drop (λ n. n + 1 < 2 ^ 32) from starts
    (each-weaker (λ m. m < length (numbers_in leaves)) (λ m. m + 1 < 2 ^ 32) (λ m lt. omega arith) starts
    (subst (AllByRecursion (λ m. m < length (numbers_in leaves))) (sym is) (starts_below 0 (length (numbers_in leaves)) leaves are (omega arith))))

starts_put : (n : ℕ) (leaves : List Slots) (i slot abbreviated number : ℕ) → i < length leaves → slot ≤ length (leaf_at leaves i).numbers
    → starts_from n (set leaves i (with_slot (leaf_at leaves i) slot abbreviated number))
    ≡ take (suc i) (starts_from n leaves) ++ map (λ m. m + 1) (drop (suc i) (starts_from n leaves))
starts_put n [] i slot abbreviated number lt there = absurd (omega arith)
starts_put n (s ∷ ss) zero slot abbreviated number lt there =
    let long = length-insert s.numbers slot number there in
    ap (λ (ms : List ℕ). n ∷ ms) (starts_more (n + length s.numbers) (n + length (insert s.numbers slot number)) ss (omega arith))
starts_put n (s ∷ ss) (suc i) slot abbreviated number lt there = ap (λ (ms : List ℕ). n ∷ ms) (starts_put (n + length s.numbers) ss i slot abbreviated number (omega arith) there)

-- one slot more in a leaf
pub put-starts : (leaves new : List Slots) (starts news : List ℕ) (i slot abbreviated number : ℕ) (s : Slots) → i < length leaves → slot ≤ length (leaf_at leaves i).numbers
    → s ≡ get_or leaves i s → new ≡ set leaves i (with_slot s slot abbreviated number) → starts ≡ starts_from 0 leaves
    → news ≡ take (i + 1) starts ++ map (λ m. m + 1) (drop (i + 1) starts) → news ≡ starts_from 0 new
put-starts leaves new starts news i slot abbreviated number s lt there read is are made =
    let at : s ≡ leaf_at leaves i = read ∙ get_or_default leaves i s no_slots lt in
    let next : i + 1 ≡ suc i = omega arith in
    made
    ∙ ap₂ (λ (k : ℕ) (us : List ℕ). take k us ++ map (λ m. m + 1) (drop k us)) next are
    ∙ sym (starts_put 0 leaves i slot abbreviated number lt there)
    ∙ sym (ap (starts_from 0) (is ∙ ap (λ (t : Slots). set leaves i (with_slot t slot abbreviated number)) at))

starts_begin : (n : ℕ) (leaves : List Slots) (s : Slots) → starts_from n (leaves ++ s ∷ []) ≡ starts_from n leaves ++ (n + length (numbers_in leaves)) ∷ []
starts_begin n [] s = ap (λ (k : ℕ). k ∷ []) (omega arith)
starts_begin n (t ∷ ts) s =
    let long : n + length t.numbers + length (numbers_in ts) ≡ n + length (t.numbers ++ numbers_in ts) = omega (arith, length-append t.numbers (numbers_in ts)) in
    ap (λ (us : List ℕ). n ∷ us) (starts_begin (n + length t.numbers) ts s ∙ ap (λ (k : ℕ). starts_from (n + length t.numbers) ts ++ k ∷ []) long)

-- one leaf more behind the others
pub begin-starts : (leaves new : List Slots) (starts news : List ℕ) (fresh : Slots) (start : ℕ) → starts ≡ starts_from 0 leaves → start ≡ length (numbers_in leaves)
    → new ≡ leaves ++ fresh ∷ [] → news ≡ starts ++ start ∷ [] → news ≡ starts_from 0 new
begin-starts leaves new starts news fresh start are is is_new made =
    made ∙ ap₂ (λ (us : List ℕ) (k : ℕ). us ++ k ∷ []) are is
    ∙ ap (λ (k : ℕ). starts_from 0 leaves ++ k ∷ []) (let same : length (numbers_in leaves) ≡ 0 + length (numbers_in leaves) = omega arith in same)
    ∙ sym (starts_begin 0 leaves fresh) ∙ ap (starts_from 0) (sym is_new)

starts_split : (n : ℕ) (leaves : List Slots) (i d : ℕ) → i < length leaves → length (leaf_at leaves i).numbers ≡ most
    → insert (starts_from n leaves) (suc i) (get_or (starts_from n leaves) i d + half) ≡ starts_from n (split_leaf leaves i)
starts_split n [] i d lt full = absurd (omega arith)
starts_split n (s ∷ ss) zero d lt full =
    let lower = length-take-le half s.numbers (omega arith) in
    let upper = length-drop half s.numbers in
    let behind : n + half ≡ n + length (take half s.numbers) = omega arith in
    let all : n + length s.numbers ≡ n + length (take half s.numbers) + length (drop half s.numbers) = omega arith in
    ap₂ (λ (k m : ℕ). n ∷ k ∷ starts_from m ss) behind all
starts_split n (s ∷ ss) (suc i) d lt full = ap (λ (us : List ℕ). n ∷ us) (starts_split (n + length s.numbers) ss i d (omega arith) full)

-- a leaf split into its halves
pub split-starts : (leaves : List Slots) (starts new : List ℕ) (i start : ℕ) → i < length leaves → length (leaf_at leaves i).numbers ≡ most → starts ≡ starts_from 0 leaves
    → start ≡ get_or starts i start → new ≡ insert starts (i + 1) (start + half) → new ≡ starts_from 0 (split_leaf leaves i)
split-starts leaves starts new i start lt full are read made =
    let next : i + 1 ≡ suc i = omega arith in
    made ∙ ap (λ (k : ℕ). insert starts (i + 1) (k + half)) read
    ∙ ap₂ (λ (k : ℕ) (us : List ℕ). insert us k (get_or us i start + half)) next are
    ∙ starts_split 0 leaves i start lt full

-- ---- how many slots there are

-- one more
length_put : (xs : List ℕ) (i x : ℕ) → length (insert xs i x) ≡ length xs + 1
length_put [] zero x = refl
length_put [] (suc i) x = refl
length_put (y ∷ ys) zero x = omega arith
length_put (y ∷ ys) (suc i) x = (let rest = length_put ys i x in omega arith)

pub count-put : (numbers new : List ℕ) (place number : ℕ) → new ≡ insert numbers place number → length new ≡ length numbers + 1
count-put numbers new place number is = ap length is ∙ length_put numbers place number

count_begin : (leaves : List Slots) (s : Slots) → length (numbers_in (leaves ++ s ∷ [])) ≡ length (numbers_in leaves) + length s.numbers
count_begin [] s = (let long = length-append s.numbers [] in omega arith)
count_begin (t ∷ ts) s =
    let rest = count_begin ts s in
    omega (arith, length-append t.numbers (numbers_in (ts ++ s ∷ [])), length-append t.numbers (numbers_in ts))

pub count-begin : (leaves new : List Slots) (empty fresh : Slots) (abbreviated number : ℕ) → IsEmptyLeaf empty → fresh ≡ with_slot empty 0 abbreviated number → new ≡ leaves ++ fresh ∷ []
    → length (numbers_in new) ≡ length (numbers_in leaves) + 1
count-begin leaves new empty fresh abbreviated number none is made =
    let one : length fresh.numbers ≡ 1 = ap (λ (s : Slots). length s.numbers) is ∙ length_put empty.numbers 0 number ∙ ap (λ (ns : List ℕ). length ns + 1) none.1 in
    let all = count_begin leaves fresh in
    ap (λ (ls : List Slots). length (numbers_in ls)) made ∙ omega arith

-- the slots of a leaf stand within all
pub place-le : (leaves : List Slots) (i : ℕ) → i < length leaves → place_of leaves i 0 + length (leaf_at leaves i).numbers ≤ length (numbers_in leaves)
place-le leaves i lt = (let le = length-flat_map-take (λ (s : Slots). s.numbers) leaves i no_slots lt in omega arith)

-- behind a leaf stand its slots too
pub place-step : (leaves : List Slots) (i : ℕ) → i < length leaves → length (numbers_in (take (i + 1) leaves)) ≡ place_of leaves i 0 + length (leaf_at leaves i).numbers
place-step leaves i lt = (let one : i + 1 ≡ suc i = omega arith in ap (λ (n : ℕ). length (numbers_in (take n leaves))) one ∙ step leaves i lt)
  where
    step : (leaves : List Slots) (i : ℕ) → i < length leaves → length (numbers_in (take (suc i) leaves)) ≡ place_of leaves i 0 + length (leaf_at leaves i).numbers
    step [] i lt = absurd (omega arith)
    step (s ∷ ss) zero lt = (let long = length-append s.numbers [] in omega arith)
    step (s ∷ ss) (suc i) lt =
        let rest = step ss i (omega arith) in
        omega (arith, length-append s.numbers (numbers_in (take (suc i) ss)), length-append s.numbers (numbers_in (take i ss)))

-- before the place behind all leaves stand all slots
pub place-all : (leaves : List Slots) (n : ℕ) → n ≡ length leaves → length (numbers_in (take n leaves)) ≡ length (numbers_in leaves)
place-all leaves n is = ap (λ (m : ℕ). length (numbers_in (take m leaves))) is ∙ ap (λ (ls : List Slots). length (numbers_in ls)) (ap (take (length leaves)) (sym (append-nil leaves)) ∙ take-append_seam leaves [])
