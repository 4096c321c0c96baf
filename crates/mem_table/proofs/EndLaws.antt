-- The end of all leaves, where the last name is below the one that is sought.
use Rattle.std.proofs.Common.{◌≡◌, ℕ, zero, suc, ◌+◌, ◌-◌, ◌<◌, true, List, [], ◌∷◌, length, map, sym, subst, ◌∙◌, arith}
use Rattle.std.specs.List.{AllByRecursion}
use Rattle.std.specs.List.Sorted.{IsStrictlySortedBy}
use Rattle.std.specs.Prelude.{slice_get, Some}
use Rattle.std.specs.declared.cmp.Ordering.TheVariants.{Less}
use Rattle.std.proofs.lemmas.Option.{slice_get_within, get_or_from_slice_get}
use Rattle.mvcc_key.specs.Order.{Name}
use Rattle.mvcc_key.specs.Points.{Point, point_cmp, is_below_name, count_below}
use Rattle.mvcc_key.proofs.PointLaws.{sorted-rising}
use Rattle.mem_table.specs.views.Entries.{entry_at, numbered}
use Rattle.mem_table.specs.views.Slots.{Slots, numbers_in, IsIndexed}
use Rattle.mem_table.specs.views.Gaps.{leaf_at, place_of}
use Rattle.mem_table.proofs.CountLaws.{count-nil, count-yes, below-too}
use Rattle.mem_table.proofs.StartLaws.{place-step, place-all}

module _ (name : Name) (f : ℕ → Point) where
  -- what stands before the last is below the name where the last is
  before-last : (n last : ℕ) (ns : List ℕ) (i : ℕ) → AllByRecursion (λ q. point_cmp (f n) q ≡ Less) (map f ns) → slice_get ns i ≡ Some last → is_below_name name (f last) ≡ true → is_below_name name (f n) ≡ true
  before-last n last [] i below at is = absurd cc
  before-last n last (m ∷ ms) zero below at is = (let same : m ≡ last = cc in below-too name (f n) (f m) below.0 (rw same is))
  before-last n last (m ∷ ms) (suc i) below at is = before-last n last ms i below.1 at is

  -- so all are
  count-end : (ns : List ℕ) (i last : ℕ) → suc i ≡ length ns → slice_get ns i ≡ Some last → IsStrictlySortedBy point_cmp (map f ns) → is_below_name name (f last) ≡ true
      → count_below name (map f ns) ≡ length ns
  unfolding IsStrictlySortedBy
  count-end [] i last end at sorted is = absurd (omega arith)
  count-end (n ∷ []) zero last end at sorted is = (let same : n ≡ last = cc in let one = count-yes name (f n) [] (rw same is) in let none = count-nil name in one ∙ omega arith)
  count-end (n ∷ []) (suc i) last end at sorted is = absurd (omega arith)
  count-end (n ∷ m ∷ ms) zero last end at sorted is = absurd (omega arith)
  count-end (n ∷ m ∷ ms) (suc i) last end at sorted is =
      let rest = count-end (m ∷ ms) i last (omega arith) at sorted.1 is in
      let first = count-yes name (f n) (map f (m ∷ ms)) (before-last n last (m ∷ ms) i sorted.0 at is) in
      first ∙ omega arith

-- a number that stands among all is that of an entry
pub known-at : (points : List Point) (leaves : List Slots) (place number : ℕ) → IsIndexed points leaves → slice_get (numbers_in leaves) place ≡ Some number → number < length points
known-at points leaves place number indexed at =
    subst (λ (n : ℕ). n < length points) (get_or_from_slice_get (numbers_in leaves) place number 0 at) (indexed.known place 0 (slice_get_within (numbers_in leaves) place number at))

-- behind the last slot of the last leaf stand all
pub end-place : (leaves : List Slots) (leaf slot : ℕ) → leaf + 1 ≡ length leaves → slot ≡ length (leaf_at leaves leaf).numbers → place_of leaves leaf slot ≡ length (numbers_in leaves)
end-place leaves leaf slot last end =
    (let step = place-step leaves leaf (omega arith) in
    let all = place-all leaves (leaf + 1) last in
    omega arith)

-- and as many are below the name
pub end-count : (name : Name) (points : List Point) (leaves : List Slots) (leaf slot last : ℕ) → IsIndexed points leaves → leaf + 1 ≡ length leaves → slot ≡ length (leaf_at leaves leaf).numbers → 0 < slot
    → slice_get (numbers_in leaves) (place_of leaves leaf (slot - 1)) ≡ Some last → is_below_name name (entry_at points last) ≡ true
    → place_of leaves leaf slot ≡ count_below name (numbered points (numbers_in leaves))
end-count name points leaves leaf slot last indexed is_last end some at is =
    (let place = end-place leaves leaf slot is_last end in
    place ∙ sym (count-end name (entry_at points) (numbers_in leaves) (place_of leaves leaf (slot - 1)) last (omega arith) at (sorted-rising (numbered points (numbers_in leaves)) indexed.rising) is))
