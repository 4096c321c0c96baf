-- What a memory table takes up of a batch.
use Rattle.std.proofs.Common.{◌≡◌, Bool, true, false, cond, List, [], ◌∷◌, ◌++◌, refl, sym, ap, subst, ◌∙◌, arith}
use Rattle.std.specs.Prelude.{All, filter, not}
use Rattle.mvcc_key.specs.views.SeenPoint.{point_of, points_of}
use Rattle.mvcc_key.specs.views.SeenRange.{range_ops_of}
use Rattle.mvcc_key.specs.declared.batch.PointOp.{PointOp}
use Rattle.mvcc_key.specs.declared.batch.RangeOp.{RangeOp}
use Rattle.mvcc_key.specs.declared.batch.Batch.{Batch}
use Rattle.mvcc_key.specs.Batches.{IsStorableRange}
use Rattle.mvcc_key.specs.Fragments.{Fragment}
use Rattle.mvcc_key.specs.SameFragments.{are_same_fragments}
use Rattle.range_key.specs.RangeOps.{fragments_after}
use Rattle.range_key.specs.views.Stages.{Stage, settled}
use Rattle.mem_table.specs.Table as tables
use Rattle.mem_table.specs.Table.{Table}
use Rattle.run_block.specs.RunFormat.{Run}
use Rattle.lsm_store.specs.Shown.{shown}
use Rattle.lsm_store.specs.views.Changing.{changes_points}
use Rattle.lsm_store.specs.views.Seen.{run_of_table}
use Rattle.lsm_store.proofs.FilterLaws.{points-filter}
use Rattle.lsm_store.proofs.RangeLaws.{kept_ops}
use Rattle.lsm_store.proofs.ChangeLaws.{table_with, table-after}

-- the point operations that are taken up
pub taken : (result kept given batch : List PointOp) (table : Run) (slice runs : List Run) → result ≡ kept
    → kept ≡ filter (λ op. changes_points (shown (table ∷ slice)) (point_of op)) given → given ≡ batch → slice ≡ runs
    → result ≡ filter (λ op. changes_points (shown (table ∷ runs)) (point_of op)) batch
taken result kept given batch table slice runs is kept_is given_is slice_is =
    is ∙ kept_is ∙ ap (filter (λ op. changes_points (shown (table ∷ slice)) (point_of op))) given_is
    ∙ ap (λ (rs : List Run). filter (λ op. changes_points (shown (table ∷ rs)) (point_of op)) batch) slice_is

-- their points
pub taken-points : (result batch : List PointOp) (parts : List Run) → result ≡ filter (λ op. changes_points (shown parts) (point_of op)) batch
    → points_of result ≡ filter (changes_points (shown parts)) (points_of batch)
taken-points result batch parts is = ap points_of is ∙ points-filter (changes_points (shown parts)) batch

-- the table with them
pub table-taken : (batch : Batch) (old new : Table) (b : Bool) (ops : List RangeOp) → new ≡ tables.after_batch batch old → range_ops_of batch.ranges ≡ kept_ops b (range_ops_of ops)
    → run_of_table new ≡ table_with (points_of batch.points) b (range_ops_of ops) (run_of_table old)
table-taken batch old new b ops is kept =
    table-after batch old new is
    ∙ (λ i. record { points = tables.newest_points (points_of batch.points ++ old.points); ranges = range_ops_of old.ranges ++ kept i })

-- the same operations, or none
pub kept-seen : (b : Bool) (ops given : List RangeOp) → given ≡ cond b ops [] → range_ops_of given ≡ kept_ops b (range_ops_of ops)
kept-seen b ops given is = ap range_ops_of is ∙ by b
  where
    by : (b : Bool) → range_ops_of (cond b ops []) ≡ kept_ops b (range_ops_of ops)
    by true = refl
    by false = refl

-- they can be stored
pub kept-storable : (b : Bool) (ops given : List RangeOp) → given ≡ cond b ops [] → All IsStorableRange ops → All IsStorableRange given
kept-storable b ops given is all = subst (All IsStorableRange) (sym is) (by b)
  where
    by : (b : Bool) → All IsStorableRange (cond b ops [])
    by true = all
    by false = λ k d within. absurd (omega (arith, within))

-- what is staged on the fragments of the parts
module _ (fs : List Fragment) (before after : Stage) (ops given : List RangeOp) (is : before ≡ settled fs) (same : after.fragments ≡ before.fragments)
    (staged : after.next ≡ fragments_after before.next (range_ops_of given)) (given_is : given ≡ ops) where
  pub staged-next : after.next ≡ fragments_after fs (range_ops_of ops)
  staged-next = staged ∙ (λ i. fragments_after (is i).next (range_ops_of (given_is i)))

  pub staged-changed : (b : Bool) → b ≡ not (are_same_fragments after.fragments after.next) → b ≡ not (are_same_fragments fs (fragments_after fs (range_ops_of ops)))
  staged-changed b changed = changed ∙ (λ i. not (are_same_fragments ((same ∙ ap (λ (s : Stage). s.fragments) is) i) (staged-next i)))
