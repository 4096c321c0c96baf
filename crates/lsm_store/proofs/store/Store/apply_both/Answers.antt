-- A batch with range operations is taken up, and these where they change the fragments.
use Rattle.std.proofs.Common.{◌∙◌, ◌∷◌, refl, sym, ap, subst}
use Rattle.std.specs.Prelude.{not}
use Rattle.mvcc_key.specs.views.SeenPoint.{points_of}
use Rattle.mvcc_key.specs.views.SeenRange.{range_ops_of}
use Rattle.mvcc_key.specs.Batches.{AreEntries}
use Rattle.mvcc_key.specs.SameFragments.{are_same_fragments}
use Rattle.mvcc_key.proofs.PointLaws.{sorted-rising}
use Rattle.range_key.specs.views.Stages.{settled}
use Rattle.lsm_store.specs.Shown.{shown, fragments_in}
use Rattle.lsm_store.specs.views.Changing.{changes_points}
use Rattle.lsm_store.specs.views.Seen.{run_of_table}
use Rattle.lsm_store.proofs.FilterLaws.{entries-filter}
use Rattle.lsm_store.proofs.ChangeLaws.{parts-after, shown-batch, fragments-batch}
use Rattle.lsm_store.proofs.TakenLaws.{taken, taken-points, table-taken, kept-seen, kept-storable, staged-next, staged-changed}
use Rattle.lsm_store.proofs.store.Store.apply_both.Goals as goal

pub apply-requires : goal.apply-requires
apply-requires c =
    let table = run_of_table c.self.inside.table in
    let runs = c.self.inside.runs.items in
    let is = taken c.from_vec-points.result c.retain_changes.new.ops.items c.into_vec-ops.result.items c.args.batch.points table c.deref.result.now runs
    c.from_vec-points.ensures c.retain_changes.ensures c.into_vec-ops.ensures c.deref.ensures.value in
    record {
      points = subst AreEntries (sym is) (entries-filter (changes_points (shown (table ∷ runs))) c.args.batch.points c.requires.points);
      ranges = kept-storable (not (are_same_fragments c.stage_ops.new.fragments.fragments c.stage_ops.new.fragments.next)) c.args.batch.ranges c.changing_ops-ranges.result c.changing_ops-ranges.ensures c.requires.ranges;
    }

pub invariant_of-self-in-Ok : goal.invariant_of-self-in-Ok
invariant_of-self-in-Ok c =
    let table = run_of_table c.self.inside.table in
    let runs = c.self.inside.runs.items in
    let ops = c.args.batch.ranges in
    let b = not (are_same_fragments c.stage_ops.new.fragments.fragments c.stage_ops.new.fragments.next) in
    let fs = fragments_in (table ∷ runs) in
    let next = staged-next fs c.self.inside.fragments c.stage_ops.new.fragments ops c.as_slice.result.now c.self.invariant c.stage_ops.ensures.fragments c.in_ok-stage_ops.ensures.ok c.as_slice.ensures in
    let changed = staged-changed fs c.self.inside.fragments c.stage_ops.new.fragments ops c.as_slice.result.now c.self.invariant c.stage_ops.ensures.fragments c.in_ok-stage_ops.ensures.ok c.as_slice.ensures b refl in
    let now = table-taken (record { points = c.from_vec-points.result; ranges = c.changing_ops-ranges.result }) c.self.inside.table c.apply.new.self b ops c.in-Ok.ensures.ok
    (kept-seen b ops c.changing_ops-ranges.result c.changing_ops-ranges.ensures) in
    c.commit.ensures
    ∙ ap settled (next ∙ sym (fragments-batch (points_of c.from_vec-points.result) (range_ops_of ops) b table (run_of_table c.apply.new.self) runs (table ∷ runs) changed now refl))

pub returns-in-Ok-clause-shown : goal.returns-in-Ok-clause-shown
returns-in-Ok-clause-shown c =
    let table = run_of_table c.self.inside.table in
    let runs = c.self.inside.runs.items in
    let ops = c.args.batch.ranges in
    let b = not (are_same_fragments c.stage_ops.new.fragments.fragments c.stage_ops.new.fragments.next) in
    let is = taken c.from_vec-points.result c.retain_changes.new.ops.items c.into_vec-ops.result.items c.args.batch.points table c.deref.result.now runs
    c.from_vec-points.ensures c.retain_changes.ensures c.into_vec-ops.ensures c.deref.ensures.value in
    let now = table-taken (record { points = c.from_vec-points.result; ranges = c.changing_ops-ranges.result }) c.self.inside.table c.apply.new.self b ops c.in-Ok.ensures.ok
    (kept-seen b ops c.changing_ops-ranges.result c.changing_ops-ranges.ensures) in
    shown-batch (points_of c.args.batch.points) (points_of c.from_vec-points.result) (range_ops_of ops) b table (run_of_table c.apply.new.self) runs c.args.self.now
    (sorted-rising (points_of c.args.batch.points) c.requires.points.rising) (taken-points c.from_vec-points.result c.args.batch.points (table ∷ runs) is) now c.self.view_is

pub returns-in-Ok-clause-fragments : goal.returns-in-Ok-clause-fragments
returns-in-Ok-clause-fragments c =
    let table = run_of_table c.self.inside.table in
    let runs = c.self.inside.runs.items in
    let ops = c.args.batch.ranges in
    let b = not (are_same_fragments c.stage_ops.new.fragments.fragments c.stage_ops.new.fragments.next) in
    let fs = fragments_in (table ∷ runs) in
    let changed = staged-changed fs c.self.inside.fragments c.stage_ops.new.fragments ops c.as_slice.result.now c.self.invariant c.stage_ops.ensures.fragments c.in_ok-stage_ops.ensures.ok c.as_slice.ensures b refl in
    let now = table-taken (record { points = c.from_vec-points.result; ranges = c.changing_ops-ranges.result }) c.self.inside.table c.apply.new.self b ops c.in-Ok.ensures.ok
    (kept-seen b ops c.changing_ops-ranges.result c.changing_ops-ranges.ensures) in
    fragments-batch (points_of c.from_vec-points.result) (range_ops_of ops) b table (run_of_table c.apply.new.self) runs c.args.self.now changed now c.self.view_is

pub returns-in-Ok-clause-parts : goal.returns-in-Ok-clause-parts
returns-in-Ok-clause-parts c =
    let table = run_of_table c.self.inside.table in
    let runs = c.self.inside.runs.items in
    let ops = c.args.batch.ranges in
    let b = not (are_same_fragments c.stage_ops.new.fragments.fragments c.stage_ops.new.fragments.next) in
    let fs = fragments_in (table ∷ runs) in
    let is = taken c.from_vec-points.result c.retain_changes.new.ops.items c.into_vec-ops.result.items c.args.batch.points table c.deref.result.now runs
    c.from_vec-points.ensures c.retain_changes.ensures c.into_vec-ops.ensures c.deref.ensures.value in
    let changed = staged-changed fs c.self.inside.fragments c.stage_ops.new.fragments ops c.as_slice.result.now c.self.invariant c.stage_ops.ensures.fragments c.in_ok-stage_ops.ensures.ok c.as_slice.ensures b refl in
    let now = table-taken (record { points = c.from_vec-points.result; ranges = c.changing_ops-ranges.result }) c.self.inside.table c.apply.new.self b ops c.in-Ok.ensures.ok
    (kept-seen b ops c.changing_ops-ranges.result c.changing_ops-ranges.ensures) in
    parts-after (points_of c.args.batch.points) (points_of c.from_vec-points.result) (range_ops_of ops) b table (run_of_table c.apply.new.self) runs c.args.self.now
    (sorted-rising (points_of c.args.batch.points) c.requires.points.rising) (taken-points c.from_vec-points.result c.args.batch.points (table ∷ runs) is) changed now c.self.view_is
