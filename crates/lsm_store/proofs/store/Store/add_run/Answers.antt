-- A run that is added comes under an empty table, over what was there.
use Rattle.std.proofs.Common.{◌≡◌, ◌<◌, List, ◌∷◌, ap, sym, ◌∙◌, arith}
use Rattle.std.specs.Prelude.{Ok, Err, IsOk, is_ok, insert, if◌then◌else◌, vec_len, vec_capacity}
use Rattle.std.specs.declared.result.Result.{Result}
use Rattle.range_key.specs.RangeOps.{fragments_after}
use Rattle.run_block.specs.RunFormat.{Run}
use Rattle.lsm_store.specs.FileParts.{with_run}
use Rattle.lsm_store.specs.Shown.{empty_run, shown, with_batch, fragments_in, part_of, parts_of}
use Rattle.lsm_store.specs.views.Closing.{flushed_runs}
use Rattle.lsm_store.specs.views.Seen.{run_of_table}
use Rattle.lsm_store.proofs.CompactLaws.{parts-added, shown-added, fragments-added}
use Rattle.lsm_store.proofs.store.Store.add_run.Goals as goal

-- what was put first
put_first : {A E : Type 0} (result : Result A E) (new old : List Run) (run : Run) → IsOk result → new ≡ (if is_ok result then insert old 0 run else old) → new ≡ run ∷ old
put_first (Ok a) new old run ok is = is
put_first (Err e) new old run ok is = absurd cc

-- the parts after a run is added
added : (table closed run : Run) (runs kept flushed new : List Run) → closed ≡ empty_run → kept ≡ runs → flushed ≡ flushed_runs table kept → new ≡ run ∷ flushed
    → closed ∷ new ≡ empty_run ∷ run ∷ flushed_runs table runs
added table closed run runs kept flushed new empty kept_is flushed_is is =
    λ i. empty i ∷ (is ∙ ap (λ (rs : List Run). run ∷ rs) (flushed_is ∙ ap (flushed_runs table) kept_is)) i

pub returns-clause-shown : goal.returns-clause-shown
returns-clause-shown c =
    let table = run_of_table c.self.inside.table in
    let runs = c.self.inside.runs.items in
    let room : vec_len c.close_table.new.runs < vec_capacity c.close_table.new.runs =
    omega (arith, c.close_table.ensures.len, c.close_table.ensures.capacity, c.in_ok-reserve.ensures.ok, c.in_ok-reserve.ensures.len) in
    let first = put_first c.insert.result c.insert.new.self.items c.close_table.new.runs.items c.args.run (c.insert.ensures.succeeds room) c.insert.ensures.items in
    let now = added table (run_of_table c.close_table.new.table) c.args.run runs c.reserve.new.self.items c.close_table.new.runs.items c.insert.new.self.items c.close_table.ensures.table
    c.reserve.ensures.items c.close_table.ensures.runs first in
    ap shown now ∙ shown-added c.args.run table runs ∙ ap (λ (parts : List Run). with_batch c.args.run.points (shown parts)) c.self.view_is

pub returns-clause-fragments : goal.returns-clause-fragments
returns-clause-fragments c =
    let table = run_of_table c.self.inside.table in
    let runs = c.self.inside.runs.items in
    let room : vec_len c.close_table.new.runs < vec_capacity c.close_table.new.runs =
    omega (arith, c.close_table.ensures.len, c.close_table.ensures.capacity, c.in_ok-reserve.ensures.ok, c.in_ok-reserve.ensures.len) in
    let first = put_first c.insert.result c.insert.new.self.items c.close_table.new.runs.items c.args.run (c.insert.ensures.succeeds room) c.insert.ensures.items in
    let now = added table (run_of_table c.close_table.new.table) c.args.run runs c.reserve.new.self.items c.close_table.new.runs.items c.insert.new.self.items c.close_table.ensures.table
    c.reserve.ensures.items c.close_table.ensures.runs first in
    ap fragments_in now ∙ fragments-added c.args.run table runs ∙ ap (λ (parts : List Run). fragments_after (fragments_in parts) c.args.run.ranges) c.self.view_is

pub returns-clause-parts : goal.returns-clause-parts
returns-clause-parts c =
    let table = run_of_table c.self.inside.table in
    let runs = c.self.inside.runs.items in
    let room : vec_len c.close_table.new.runs < vec_capacity c.close_table.new.runs =
    omega (arith, c.close_table.ensures.len, c.close_table.ensures.capacity, c.in_ok-reserve.ensures.ok, c.in_ok-reserve.ensures.len) in
    let first = put_first c.insert.result c.insert.new.self.items c.close_table.new.runs.items c.args.run (c.insert.ensures.succeeds room) c.insert.ensures.items in
    let now = added table (run_of_table c.close_table.new.table) c.args.run runs c.reserve.new.self.items c.close_table.new.runs.items c.insert.new.self.items c.close_table.ensures.table
    c.reserve.ensures.items c.close_table.ensures.runs first in
    ap parts_of now ∙ parts-added c.args.run table runs
    ∙ (λ i. with_run (part_of c.args.run (fragments_in (sym now i))) (parts_of (c.self.view_is i)))
