-- A table that is not empty becomes the newest run.
use Rattle.std.proofs.Common.{◌≡◌, List, ◌∷◌, ap, sym, subst, ◌∙◌}
use Rattle.mem_table.specs.Table.{Table, empty_table}
use Rattle.run_block.specs.RunFormat.{Run}
use Rattle.lsm_store.specs.Parts.{flushed}
use Rattle.lsm_store.specs.Shown.{empty_run, shown, parts_of}
use Rattle.lsm_store.specs.views.Closing.{IsRunOfTable, flushed_runs}
use Rattle.lsm_store.specs.views.Seen.{run_of_table}
use Rattle.lsm_store.proofs.CompactLaws.{parts-flushed, shown-flushed, flushed-none, flushed-some}
use Rattle.lsm_store.proofs.store.Store.flush.Goals as goal

-- the parts after a flush
now-runs : (table : Table) (old run : Run) (runs new : List Run) → table ≡ empty_table → new ≡ run ∷ runs → (run ≡ old) × (old ≡ empty_run → ⊥)
    → run_of_table table ∷ new ≡ empty_run ∷ flushed_runs old runs
now-runs table old run runs new empty is made =
    λ i. run_of_table (empty i) ∷ (is ∙ ap (λ (r : Run). r ∷ runs) made.0 ∙ sym (flushed-some old runs made.1)) i

-- those of an empty table
same-runs : (old : Run) (runs : List Run) → old ≡ empty_run → old ∷ runs ≡ empty_run ∷ flushed_runs old runs
same-runs old runs empty = λ i. empty i ∷ sym (flushed-none old runs empty) i

pub returns-in_ok-insert-clause-shown : goal.returns-in_ok-insert-clause-shown
returns-in_ok-insert-clause-shown c =
    let table = run_of_table c.self.inside.table in
    let runs = c.self.inside.runs.items in
    let now = now-runs c.new.result table c.in-Some.run' runs c.insert.new.self.items c.new.ensures c.in_ok-insert.ensures.items
    (subst (IsRunOfTable table) c.in-Some.is c.in_ok-run.ensures) in
    ap shown now ∙ shown-flushed table runs ∙ ap shown c.self.view_is

pub returns-in_ok-insert-clause-parts : goal.returns-in_ok-insert-clause-parts
returns-in_ok-insert-clause-parts c =
    let table = run_of_table c.self.inside.table in
    let runs = c.self.inside.runs.items in
    let now = now-runs c.new.result table c.in-Some.run' runs c.insert.new.self.items c.new.ensures c.in_ok-insert.ensures.items
    (subst (IsRunOfTable table) c.in-Some.is c.in_ok-run.ensures) in
    ap parts_of now ∙ parts-flushed table runs ∙ ap (λ (parts : List Run). flushed (parts_of parts)) c.self.view_is

pub returns-in_default-clause-parts : goal.returns-in_default-clause-parts
returns-in_default-clause-parts c =
    let table = run_of_table c.self.inside.table in
    let runs = c.self.inside.runs.items in
    let same = same-runs table runs (subst (IsRunOfTable table) c.in_default.is c.in_ok-run.ensures) in
    ap parts_of (sym c.self.view_is) ∙ ap parts_of same ∙ parts-flushed table runs ∙ ap (λ (parts : List Run). flushed (parts_of parts)) c.self.view_is
