use Rattle.std.proofs.Common.{◌≡◌, ◌∙◌, Bool, false, List, [], ◌∷◌, refl, ap}
use Rattle.std.proofs.lemmas.Result.{on_ok_weaker}
use Rattle.mvcc_key.specs.Points.{Point}
use Rattle.mvcc_key.specs.views.SeenPoint.{point_of}
use Rattle.mem_table.specs.Table.{batch_of_one}
use Rattle.run_block.specs.RunFormat.{Run}
use Rattle.lsm_store.specs.Shown.{shown}
use Rattle.lsm_store.specs.views.Changing.{changes_points}
use Rattle.lsm_store.specs.views.Seen.{run_of_table}
use Rattle.lsm_store.proofs.OneLaws.{shown-taken, parts-taken, shown-left, parts-left}
use Rattle.lsm_store.proofs.TakenLaws.{table-taken}
use Rattle.lsm_store.proofs.store.Store.apply_one.Goals as goal

-- whether it changes what is seen, by the runs and not their slice
change : (b : Bool) (p : Point) (table : Run) (slice runs : List Run) → b ≡ changes_points (shown (table ∷ slice)) p → slice ≡ runs → b ≡ changes_points (shown (table ∷ runs)) p
change b p table slice runs is slice_is = is ∙ ap (λ (rs : List Run). changes_points (shown (table ∷ rs)) p) slice_is

pub returns-then-changes_at-clause-shown : goal.returns-then-changes_at-clause-shown
returns-then-changes_at-clause-shown c =
    let table = run_of_table c.self.inside.table in
    let runs = c.self.inside.runs.items in
    let p = point_of c.args.op in
    let is = change c.changes_at.result p table c.deref.result.now runs c.changes_at.ensures c.deref.ensures.value in
    on_ok_weaker c.put_at.result
    (λ h. shown-taken p c.changes_at.result table (run_of_table c.put_at.new.self) runs c.args.self.now is c.if-changes_at.true
    (table-taken (batch_of_one c.args.op) c.self.inside.table c.put_at.new.self false [] h refl) c.self.view_is)
    c.put_at.ensures.ok

pub returns-then-changes_at-clause-parts : goal.returns-then-changes_at-clause-parts
returns-then-changes_at-clause-parts c =
    let table = run_of_table c.self.inside.table in
    let runs = c.self.inside.runs.items in
    let p = point_of c.args.op in
    let is = change c.changes_at.result p table c.deref.result.now runs c.changes_at.ensures c.deref.ensures.value in
    on_ok_weaker c.put_at.result
    (λ h. parts-taken p c.changes_at.result table (run_of_table c.put_at.new.self) runs c.args.self.now is c.if-changes_at.true
    (table-taken (batch_of_one c.args.op) c.self.inside.table c.put_at.new.self false [] h refl) c.self.view_is)
    c.put_at.ensures.ok

pub returns-else-changes_at-clause-shown : goal.returns-else-changes_at-clause-shown
returns-else-changes_at-clause-shown c =
    let table = run_of_table c.self.inside.table in
    let runs = c.self.inside.runs.items in
    let p = point_of c.args.op in
    let is = change c.changes_at.result p table c.deref.result.now runs c.changes_at.ensures c.deref.ensures.value in
    shown-left p c.changes_at.result table runs c.args.self.now is c.if-changes_at.false c.find-place.ensures.rising c.self.view_is

pub returns-else-changes_at-clause-parts : goal.returns-else-changes_at-clause-parts
returns-else-changes_at-clause-parts c =
    let table = run_of_table c.self.inside.table in
    let runs = c.self.inside.runs.items in
    let p = point_of c.args.op in
    let is = change c.changes_at.result p table c.deref.result.now runs c.changes_at.ensures c.deref.ensures.value in
    parts-left p c.changes_at.result table runs c.args.self.now is c.if-changes_at.false c.find-place.ensures.rising c.self.view_is
