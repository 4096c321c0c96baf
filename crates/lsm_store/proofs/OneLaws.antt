-- One operation taken up, or left out where it changes nothing that is seen.
use Rattle.std.proofs.Common.{◌≡◌, Bool, true, false, cond, List, [], ◌∷◌, refl, sym, ap, subst, ◌∙◌}
use Rattle.std.specs.Prelude.{filter}
use Rattle.std.proofs.lemmas.List.{append-nil}
use Rattle.std.specs.List.Sorted.{IsStrictlySortedBy}
use Rattle.mvcc_key.specs.Points.{Point, point_cmp, IsRising}
use Rattle.mvcc_key.proofs.PointLaws.{sorted-rising}
use Rattle.mvcc_key.proofs.SortedLaws.{in_order-same}
use Rattle.lsm_store.specs.Parts.{after_batch}
use Rattle.run_block.specs.RunFormat.{Run}
use Rattle.lsm_store.specs.Shown.{shown, fragments_in, with_batch, parts_of, stage_of}
use Rattle.lsm_store.specs.views.Changing.{changes_points}
use Rattle.range_key.proofs.SameLaws.{are_same-itself}
use Rattle.lsm_store.proofs.ApplyLaws.{ArePoints}
use Rattle.lsm_store.proofs.ChangeLaws.{table_with, shown-batch, parts-after}

-- one point rises
sorted-one : (p : Point) → ArePoints (p ∷ [])
unfolding IsStrictlySortedBy
sorted-one p = (tt, tt)

-- the operation, or none
abbrev kept : Bool → Point → List Point
kept b p = cond b (p ∷ []) []

-- it is kept where it changes what is seen
kept-filter : (points : List Point) (p : Point) (b : Bool) → b ≡ changes_points points p → kept b p ≡ filter (changes_points points) (p ∷ [])
kept-filter points p b is = ap (λ (c : Bool). kept c p) is

-- the store after it was taken up or left out
module _ (p : Point) (b c : Bool) (table now : Run) (runs old : List Run) (is : b ≡ changes_points (shown (table ∷ runs)) p) (taken : b ≡ c)
    (now_is : now ≡ table_with (kept c p) false [] table) (old_is : table ∷ runs ≡ old) where
  shown-kept : shown (now ∷ runs) ≡ with_batch (p ∷ []) (shown old)
  shown-kept = shown-batch (p ∷ []) (kept c p) [] false table now runs old (sorted-one p) (kept-filter (shown (table ∷ runs)) p c (sym taken ∙ is)) now_is old_is

  parts-kept : parts_of (now ∷ runs) ≡ after_batch (stage_of old) (stage_of (now ∷ runs)) (parts_of old)
  parts-kept =
      parts-after (p ∷ []) (kept c p) [] false table now runs old (sorted-one p) (kept-filter (shown (table ∷ runs)) p c (sym taken ∙ is))
      (are_same-itself (fragments_in (table ∷ runs))) now_is old_is

-- where it changes what is seen
pub shown-taken : (p : Point) (b : Bool) (table now : Run) (runs old : List Run) → b ≡ changes_points (shown (table ∷ runs)) p → b ≡ true
    → now ≡ table_with (p ∷ []) false [] table → table ∷ runs ≡ old → shown (now ∷ runs) ≡ with_batch (p ∷ []) (shown old)
shown-taken p b table now runs old is taken now_is old_is = shown-kept p b true table now runs old is taken now_is old_is

pub parts-taken : (p : Point) (b : Bool) (table now : Run) (runs old : List Run) → b ≡ changes_points (shown (table ∷ runs)) p → b ≡ true
    → now ≡ table_with (p ∷ []) false [] table → table ∷ runs ≡ old → parts_of (now ∷ runs) ≡ after_batch (stage_of old) (stage_of (now ∷ runs)) (parts_of old)
parts-taken p b table now runs old is taken now_is old_is = parts-kept p b true table now runs old is taken now_is old_is

-- a table with nothing newer stays as it is
table-left : (table : Run) → IsRising table.points → table ≡ table_with [] false [] table
table-left table rising = λ i. record { points = sym (in_order-same point_cmp table.points (sorted-rising table.points rising)) i; ranges = sym (append-nil table.ranges) i }

-- where it changes nothing that is seen
pub shown-left : (p : Point) (b : Bool) (table : Run) (runs old : List Run) → b ≡ changes_points (shown (table ∷ runs)) p → b ≡ false
    → IsRising table.points → table ∷ runs ≡ old → shown old ≡ with_batch (p ∷ []) (shown old)
shown-left p b table runs old is left rising old_is =
    ap shown (sym old_is) ∙ shown-kept p b false table table runs old is left (table-left table rising) old_is

pub parts-left : (p : Point) (b : Bool) (table : Run) (runs old : List Run) → b ≡ changes_points (shown (table ∷ runs)) p → b ≡ false
    → IsRising table.points → table ∷ runs ≡ old → parts_of old ≡ after_batch (stage_of old) (stage_of old) (parts_of old)
parts-left p b table runs old is left rising old_is =
    subst (λ (parts : List Run). parts_of parts ≡ after_batch (stage_of parts) (stage_of parts) (parts_of parts)) old_is
    (parts-kept p b false table table runs (table ∷ runs) is left (table-left table rising) refl)
