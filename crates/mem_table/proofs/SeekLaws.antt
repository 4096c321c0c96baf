-- Two levels: the leaf first, and then the slot in it.
use Rattle.std.proofs.Common.{◌≡◌, ℕ, zero, suc, ◌+◌, ◌*◌, ◌<◌, ◌≤◌, Bool, true, false, List, [], ◌∷◌, ◌++◌, length, map, take, drop, get_or, refl, sym, ap, ap₂, subst, ◌∙◌, arith}
use Rattle.std.specs.List.{AllByRecursion}
use Rattle.std.specs.List.Sorted.{IsStrictlySortedBy}
use Rattle.std.specs.declared.cmp.Ordering.TheVariants.{Less}
use Rattle.std.proofs.lemmas.List.{map-append, length-append, length-map}
use Rattle.std.proofs.lemmas.List.Elements.{All-from_recursion, recursion_from_All}
use Rattle.mvcc_key.specs.Order.{Name}
use Rattle.mvcc_key.specs.views.Looks.{bits}
use Rattle.mvcc_key.specs.Points.{Point, point_cmp, is_below_name, count_below}
use Rattle.mvcc_key.proofs.LookLaws.{bits-zero, bits-le, bits-half}
use Rattle.mvcc_key.proofs.PointLaws.{rising_rest, sorted-rising, rising-sorted}
use Rattle.mem_table.specs.views.Entries.{entry_at, abbreviated_at, numbered, IsIndex}
use Rattle.mem_table.specs.views.Slots.{Slots, no_slots, most, IsLeaf, least_before, AreLeaves, first_number, first_abbreviated, numbers_in, HaveAbbreviatedKeys, IsIndexed}
use Rattle.mem_table.specs.views.Gaps.{leaf_at, place_of}
use Rattle.mem_table.proofs.NumberedLaws.{mapped-at}
use Rattle.mem_table.proofs.LeafLaws.{leaf-at}
use Rattle.mem_table.proofs.CountLaws.{count-append, count-nil, count-yes, count-all, count-none, each-back, sorted-front, sorted-back, front-below, none-below}

-- ---- the first entry of each leaf

mapped : {X Y : Type 0} (f : X → Y) (P : Y → Type 0) (xs : List X) → AllByRecursion (λ x. P (f x)) xs → AllByRecursion P (map f xs)
mapped f P [] h = tt
mapped f P (x ∷ xs) h = (h.0, mapped f P xs h.1)

unmapped : {X Y : Type 0} (f : X → Y) (P : Y → Type 0) (xs : List X) → AllByRecursion P (map f xs) → AllByRecursion (λ x. P (f x)) xs
unmapped f P [] h = tt
unmapped f P (x ∷ xs) h = (h.0, unmapped f P xs h.1)

first-of : (P : ℕ → Type 0) (ns rest : List ℕ) → 1 ≤ length ns → AllByRecursion P (ns ++ rest) → P (get_or ns 0 0) × AllByRecursion P rest
first-of P [] rest some h = absurd (omega arith)
first-of P (n ∷ ns) rest some h = (h.0, back ns h.1)
  where
    back : (ms : List ℕ) → AllByRecursion P (ms ++ rest) → AllByRecursion P rest
    back [] g = g
    back (m ∷ ms) g = back ms g.1

some_in : (least : ℕ) (ss : List Slots) (s : Slots) → IsLeaf (least_before ss) s → 1 ≤ length s.numbers
some_in least ss s is = (let one = leaf-at (s ∷ []) 0 s (record { enough = at_least ss is.enough; few = is.few; beside = is.beside }, tt) (omega arith) in one.enough)
  where
    at_least : (ss : List Slots) → least_before ss ≤ length s.numbers → 1 ≤ length s.numbers
    at_least [] h = h
    at_least (t ∷ ts) h = omega arith

-- what holds of all numbers holds of the first ones
each-first : (P : ℕ → Type 0) (leaves : List Slots) → AreLeaves leaves → AllByRecursion P (numbers_in leaves) → AllByRecursion P (map first_number leaves)
each-first P [] are h = tt
each-first P (s ∷ ss) are h = (let parts = first-of P s.numbers (numbers_in ss) (some_in 0 ss s are.0) h in (parts.0, each-first P ss are.1 parts.1))

first-sorted : (f : ℕ → Point) (ns rest : List ℕ) → 1 ≤ length ns → IsStrictlySortedBy point_cmp (map f (ns ++ rest)) → AllByRecursion (λ q. point_cmp (f (get_or ns 0 0)) q ≡ Less) (map f rest)
unfolding IsStrictlySortedBy
first-sorted f [] rest some h = absurd (omega arith)
first-sorted f (n ∷ ns) rest some h = each-back f (λ q. point_cmp (f n) q ≡ Less) ns rest h.0

firsts-sorted : (f : ℕ → Point) (leaves : List Slots) → AreLeaves leaves → IsStrictlySortedBy point_cmp (map f (numbers_in leaves)) → IsStrictlySortedBy point_cmp (map f (map first_number leaves))
unfolding IsStrictlySortedBy
firsts-sorted f [] are h = tt
firsts-sorted f (s ∷ ss) are h =
    let above = first-sorted f s.numbers (numbers_in ss) (some_in 0 ss s are.0) h in (
      mapped f (λ q. point_cmp (f (first_number s)) q ≡ Less) (map first_number ss)
          (each-first (λ n. point_cmp (f (first_number s)) (f n) ≡ Less) ss are.1 (unmapped f (λ q. point_cmp (f (first_number s)) q ≡ Less) (numbers_in ss) above)),
      firsts-sorted f ss are.1 (sorted-back f s.numbers (numbers_in ss) h),
    )

first-abbreviated_keys : (points : List Point) (leaves : List Slots) → AreLeaves leaves → HaveAbbreviatedKeys points leaves → map first_abbreviated leaves ≡ map (abbreviated_at points) (map first_number leaves)
first-abbreviated_keys points [] are h = refl
first-abbreviated_keys points (s ∷ ss) are h =
    let some = some_in 0 ss s are.0 in
    let first : first_abbreviated s ≡ abbreviated_at points (first_number s) = ap (λ (hs : List ℕ). get_or hs 0 0) h.0 ∙ mapped-at (abbreviated_at points) s.numbers 0 (omega arith) in
    ap₂ (λ (x : ℕ) (xs : List ℕ). x ∷ xs) first (first-abbreviated_keys points ss are.1 h.1)

-- the first abbreviated keys and the first numbers are an index too
pub firsts-index : (points : List Point) (leaves : List Slots) → AreLeaves leaves → IsIndexed points leaves → IsIndex points (map first_abbreviated leaves) (map first_number leaves)
firsts-index points leaves are indexed = record {
  known = All-from_recursion (λ (n : ℕ). n < length points) (map first_number leaves)
      (each-first (λ n. n < length points) leaves are (recursion_from_All (λ (n : ℕ). n < length points) (numbers_in leaves) indexed.known));
  abbreviated_keys_are = first-abbreviated_keys points leaves are indexed.abbreviated_keys;
  rising = rising-sorted (numbered points (map first_number leaves)) (firsts-sorted (entry_at points) leaves are (sorted-rising (numbered points (numbers_in leaves)) indexed.rising));
}

-- and so are those of the leaves behind the first
pub seek-index : (points : List Point) (leaves rest : List Slots) (firsts : List ℕ) → AreLeaves leaves → IsIndexed points leaves
    → firsts ≡ drop 1 (map first_abbreviated leaves) → rest ≡ drop 1 leaves → IsIndex points firsts (map first_number rest)
seek-index points [] rest firsts are indexed is_firsts is_rest =
    subst (λ (ls : List Slots). IsIndex points firsts (map first_number ls)) (sym is_rest)
    (subst (λ (fs : List ℕ). IsIndex points fs []) (sym is_firsts) (firsts-index points [] are indexed))
seek-index points (s ∷ ss) rest firsts are indexed is_firsts is_rest =
    let whole = firsts-index points (s ∷ ss) are indexed in
    subst (λ (ls : List Slots). IsIndex points firsts (map first_number ls)) (sym is_rest)
    (subst (λ (fs : List ℕ). IsIndex points fs (map first_number ss)) (sym is_firsts) (record {
      known = λ k d within. whole.known (suc k) d (omega arith);
      abbreviated_keys_are = ap (drop 1) whole.abbreviated_keys_are;
      rising = rising_rest (λ (p : Point). p.name) (entry_at points (first_number s)) (numbered points (map first_number ss)) whole.rising;
    }))

-- ---- the place in all leaves

-- one leaf
slots-sorted : (f : ℕ → Point) (leaves : List Slots) (i : ℕ) (d : Slots) → i < length leaves → IsStrictlySortedBy point_cmp (map f (numbers_in leaves)) → IsStrictlySortedBy point_cmp (map f (get_or leaves i d).numbers)
slots-sorted f [] i d within h = absurd (omega arith)
slots-sorted f (s ∷ ss) zero d within h = sorted-front f s.numbers (numbers_in ss) h
slots-sorted f (s ∷ ss) (suc i) d within h = slots-sorted f ss i d (omega arith) (sorted-back f s.numbers (numbers_in ss) h)

slots-known : (P : ℕ → Type 0) (leaves : List Slots) (i : ℕ) (d : Slots) → i < length leaves → AllByRecursion P (numbers_in leaves) → AllByRecursion P (get_or leaves i d).numbers
slots-known P [] i d within h = absurd (omega arith)
slots-known P (s ∷ ss) zero d within h = front s.numbers h
  where
    front : (ns : List ℕ) → AllByRecursion P (ns ++ numbers_in ss) → AllByRecursion P ns
    front [] g = tt
    front (n ∷ ns) g = (g.0, front ns g.1)
slots-known P (s ∷ ss) (suc i) d within h = slots-known P ss i d (omega arith) (back s.numbers h)
  where
    back : (ns : List ℕ) → AllByRecursion P (ns ++ numbers_in ss) → AllByRecursion P (numbers_in ss)
    back [] g = g
    back (n ∷ ns) g = back ns g.1

slots-abbreviated_keys : (points : List Point) (leaves : List Slots) (i : ℕ) (d : Slots) → i < length leaves → HaveAbbreviatedKeys points leaves → (get_or leaves i d).abbreviated_keys ≡ map (abbreviated_at points) (get_or leaves i d).numbers
slots-abbreviated_keys points [] i d within h = absurd (omega arith)
slots-abbreviated_keys points (s ∷ ss) zero d within h = h.0
slots-abbreviated_keys points (s ∷ ss) (suc i) d within h = slots-abbreviated_keys points ss i d (omega arith) h.1

-- each leaf is an index
pub leaf-index : (points : List Point) (leaves : List Slots) (i : ℕ) (d : Slots) → i < length leaves → IsIndexed points leaves → IsIndex points (get_or leaves i d).abbreviated_keys (get_or leaves i d).numbers
leaf-index points leaves i d within indexed = record {
  known = All-from_recursion (λ (n : ℕ). n < length points) (get_or leaves i d).numbers
      (slots-known (λ n. n < length points) leaves i d within (recursion_from_All (λ (n : ℕ). n < length points) (numbers_in leaves) indexed.known));
  abbreviated_keys_are = slots-abbreviated_keys points leaves i d within indexed.abbreviated_keys;
  rising = rising-sorted (numbered points (get_or leaves i d).numbers) (slots-sorted (entry_at points) leaves i d within (sorted-rising (numbered points (numbers_in leaves)) indexed.rising));
}

-- the entries of a leaf and of those behind it
numbered-parts : (name : Name) (f : ℕ → Point) (xs ys : List ℕ) → count_below name (map f (xs ++ ys)) ≡ count_below name (map f xs) + count_below name (map f ys)
numbered-parts name f xs ys = ap (count_below name) (map-append f xs ys) ∙ count-append name (map f xs) (map f ys)

-- none is below the name in leaves whose first entry is not
none-in : (name : Name) (f : ℕ → Point) (s : Slots) (ss : List Slots) → 1 ≤ length s.numbers → IsStrictlySortedBy point_cmp (map f (numbers_in (s ∷ ss)))
    → is_below_name name (f (first_number s)) ≡ false → AllByRecursion (λ p. is_below_name name p ≡ false) (map f (numbers_in (s ∷ ss)))
none-in name f s ss some h is = by s.numbers some h is
  where
    by : (ns : List ℕ) → 1 ≤ length ns → IsStrictlySortedBy point_cmp (map f (ns ++ numbers_in ss)) → is_below_name name (f (get_or ns 0 0)) ≡ false
        → AllByRecursion (λ p. is_below_name name p ≡ false) (map f (ns ++ numbers_in ss))
    by [] one g no_more = absurd (omega arith)
    by (n ∷ ns) one g no_more = none-below f name (ns ++ numbers_in ss) n g no_more

-- all before them are below it where their first entry is
all-before : (name : Name) (f : ℕ → Point) (ns : List ℕ) (s : Slots) (ss : List Slots) → 1 ≤ length s.numbers → IsStrictlySortedBy point_cmp (map f (ns ++ numbers_in (s ∷ ss)))
    → is_below_name name (f (first_number s)) ≡ true → AllByRecursion (λ p. is_below_name name p ≡ true) (map f ns)
all-before name f ns s ss some h is = by s.numbers some h is
  where
    by : (ms : List ℕ) → 1 ≤ length ms → IsStrictlySortedBy point_cmp (map f (ns ++ (ms ++ numbers_in ss))) → is_below_name name (f (get_or ms 0 0)) ≡ true
        → AllByRecursion (λ p. is_below_name name p ≡ true) (map f ns)
    by [] one g more = absurd (omega arith)
    by (m ∷ ms) one g more = front-below f name ns (ms ++ numbers_in ss) m g more

-- behind the leaves that begin below the name, and the slots that are below it in the next leaf, are as many as are below it
two-levels : (name : Name) (f : ℕ → Point) (s : Slots) (ss : List Slots) (leaf slot : ℕ) → AreLeaves (s ∷ ss) → IsStrictlySortedBy point_cmp (map f (numbers_in (s ∷ ss)))
    → leaf ≡ count_below name (map f (map first_number ss)) → slot ≡ count_below name (map f (leaf_at (s ∷ ss) leaf).numbers)
    → place_of (s ∷ ss) leaf slot ≡ count_below name (map f (numbers_in (s ∷ ss)))
two-levels name f s [] leaf slot are sorted is_leaf is_slot =
    let none : leaf ≡ 0 = is_leaf ∙ count-nil name in
    ap (λ (l : ℕ). place_of (s ∷ []) l slot) none
    ∙ (let here : slot ≡ count_below name (map f s.numbers) = is_slot ∙ ap (λ (l : ℕ). count_below name (map f (leaf_at (s ∷ []) l).numbers)) none in
    let parts = numbered-parts name f s.numbers [] in let nil = count-nil name in omega arith)
two-levels name f s (m ∷ ms) leaf slot are sorted is_leaf is_slot =
    by (is_below_name name (f (first_number m))) refl
    (λ l is at. two-levels name f m ms l slot are.1 (sorted-back f s.numbers (numbers_in (m ∷ ms)) sorted) is at)
  where
    by : (b : Bool) → is_below_name name (f (first_number m)) ≡ b
        → ((l : ℕ) → l ≡ count_below name (map f (map first_number ms)) → slot ≡ count_below name (map f (leaf_at (m ∷ ms) l).numbers)
        → place_of (m ∷ ms) l slot ≡ count_below name (map f (numbers_in (m ∷ ms))))
        → place_of (s ∷ m ∷ ms) leaf slot ≡ count_below name (map f (numbers_in (s ∷ m ∷ ms)))
    by true is more =
        let behind = count_below name (map f (map first_number ms)) in
        let next : leaf ≡ suc behind = is_leaf ∙ count-yes name (f (first_number m)) (map f (map first_number ms)) is ∙ omega arith in
        let rest = more behind refl
        (is_slot ∙ ap (λ (l : ℕ). count_below name (map f (leaf_at (s ∷ m ∷ ms) l).numbers)) next) in
        let before = count-all name (map f s.numbers) (all-before name f s.numbers m ms (some_in 0 ms m are.1.0) sorted is) in
        let count = length-map s.numbers f in
        let parts = numbered-parts name f s.numbers (numbers_in (m ∷ ms)) in
        let long = length-append s.numbers (numbers_in (take behind (m ∷ ms))) in
        ap (λ (l : ℕ). place_of (s ∷ m ∷ ms) l slot) next ∙ omega arith
    by false is more =
        let none_first : AllByRecursion (λ p. is_below_name name p ≡ false) (map f (numbers_in (m ∷ ms))) =
        none-in name f m ms (some_in 0 ms m are.1.0) (sorted-back f s.numbers (numbers_in (m ∷ ms)) sorted) is in
        let firsts : AllByRecursion (λ p. is_below_name name p ≡ false) (map f (map first_number (m ∷ ms))) =
        mapped f (λ p. is_below_name name p ≡ false) (map first_number (m ∷ ms))
        (each-first (λ n. is_below_name name (f n) ≡ false) (m ∷ ms) are.1 (unmapped f (λ p. is_below_name name p ≡ false) (numbers_in (m ∷ ms)) none_first)) in
        let here : leaf ≡ 0 = is_leaf ∙ count-none name (map f (map first_number (m ∷ ms))) firsts in
        let in_leaf : slot ≡ count_below name (map f s.numbers) = is_slot ∙ ap (λ (l : ℕ). count_below name (map f (leaf_at (s ∷ m ∷ ms) l).numbers)) here in
        let behind = count-none name (map f (numbers_in (m ∷ ms))) none_first in
        let parts = numbered-parts name f s.numbers (numbers_in (m ∷ ms)) in
        ap (λ (l : ℕ). place_of (s ∷ m ∷ ms) l slot) here ∙ omega arith

-- the place that a seek tells
pub seek-place : (name : Name) (points : List Point) (leaves rest : List Slots) (leaf slot : ℕ) → 0 < length leaves → AreLeaves leaves → IsIndexed points leaves → rest ≡ drop 1 leaves
    → leaf ≡ count_below name (numbered points (map first_number rest)) → slot ≡ count_below name (numbered points (leaf_at leaves leaf).numbers)
    → place_of leaves leaf slot ≡ count_below name (numbered points (numbers_in leaves))
seek-place name points [] rest leaf slot some are indexed is_rest is_leaf is_slot = absurd (omega arith)
seek-place name points (s ∷ ss) rest leaf slot some are indexed is_rest is_leaf is_slot =
    two-levels name (entry_at points) s ss leaf slot are (sorted-rising (numbered points (numbers_in (s ∷ ss))) indexed.rising)
    (is_leaf ∙ ap (λ (ls : List Slots). count_below name (numbered points (map first_number ls))) is_rest) is_slot

-- ---- how many looks

-- leaves hold many entries
many : (s : Slots) (ss : List Slots) → AreLeaves (s ∷ ss) → 32 * length ss + 1 ≤ length (numbers_in (s ∷ ss))
many s [] are = (let some = are.0.enough in let long = length-append s.numbers [] in omega arith)
many s (m ∷ ms) are = (let rest = many m ms are.1 in let enough = are.0.enough in let long = length-append s.numbers (numbers_in (m ∷ ms)) in omega arith)

bits-most : bits most ≤ 7
unfolding bits
bits-most = omega arith

bits-double : (k : ℕ) → 1 ≤ k → bits k + 1 ≤ bits (2 * k)
bits-double k some = bits-half (2 * k) k (omega arith) (omega arith)

bits-many : (k : ℕ) → 1 ≤ k → bits k + 5 ≤ bits (32 * k)
bits-many k some =
    let one = bits-double k some in
    let two = bits-double (2 * k) (omega arith) in
    let three = bits-double (2 * (2 * k)) (omega arith) in
    let four = bits-double (2 * (2 * (2 * k))) (omega arith) in
    let five = bits-double (2 * (2 * (2 * (2 * k)))) (omega arith) in
    let same : bits (2 * (2 * (2 * (2 * (2 * k))))) ≡ bits (32 * k) = ap bits (omega arith) in
    omega arith

-- halving the leaves behind the first, and then one leaf, takes at most two looks more than halving all entries
pub seek-bound : (leaves rest : List Slots) (leaf : ℕ) → 0 < length leaves → AreLeaves leaves → rest ≡ drop 1 leaves → leaf ≤ length rest
    → bits (length rest) + bits (length (leaf_at leaves leaf).numbers) ≤ bits (length (numbers_in leaves)) + 2
seek-bound [] rest leaf some are is_rest within = absurd (omega arith)
seek-bound (s ∷ []) rest leaf some are is_rest within =
    let none : length rest ≡ 0 = ap length is_rest in
    let at : leaf ≡ 0 = omega arith in
    let same = ap (λ (l : ℕ). bits (length (leaf_at (s ∷ []) l).numbers)) at in
    let zeros = ap bits none ∙ bits-zero in
    let fewer = bits-le (length s.numbers) (length (s.numbers ++ [])) (omega (arith, length-append s.numbers [])) in
    omega arith
seek-bound (s ∷ m ∷ ms) rest leaf some are is_rest within =
    let count : length rest ≡ suc (length ms) = ap length is_rest in
    let one = leaf-at (s ∷ m ∷ ms) leaf no_slots are (omega arith) in
    let in_leaf = bits-le (length (leaf_at (s ∷ m ∷ ms) leaf).numbers) most one.few in
    let top = bits-most in
    let all = many s (m ∷ ms) are in
    let fewer = bits-le (32 * suc (length ms)) (length (numbers_in (s ∷ m ∷ ms))) (omega arith) in
    let leaves_of = bits-many (suc (length ms)) (omega arith) in
    let same = ap bits count in
    omega arith
