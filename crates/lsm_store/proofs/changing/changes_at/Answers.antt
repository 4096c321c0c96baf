use Rattle.std.proofs.Common.{◌∙◌, ◌∷◌, List, Bool, map, sym, ap}
use Rattle.std.specs.Prelude.{not, Some, None}
use Rattle.std.specs.Option.{option_map}
use Rattle.run_block.specs.declared.run.Run.{Run}
use Rattle.mvcc_key.specs.Order.{Name}
use Rattle.mvcc_key.specs.Encoded.{name_in}
use Rattle.mvcc_key.specs.Points.{Point}
use Rattle.mem_table.specs.Table.{state_of}
use Rattle.lsm_store.specs.views.Changing.{is_change}
use Rattle.lsm_store.proofs.SoughtLaws.{value-change, known-here, known-behind}
use Rattle.lsm_store.proofs.ApplyLaws.{change-shown}
use Rattle.lsm_store.proofs.changing.changes_at.Goals as goal

pub returns-in-Some : goal.returns-in-Some
returns-in-Some c =
    let runs : List (List Point) = map (λ (r : Run). r.points) c.args.runs.now in
    let table = c.args.table.now.points in
    let value = c.args.op.now.value in
    let name : Name = name_in c.args.op.now.key in
    known-here name value table runs (not c.is_same.result)
    (ap (λ (b : Bool). Some (not b)) c.is_same.ensures
    ∙ value-change value (Some (option_map (λ v. v.now) c.in-Some.value)) (state_of name table) (c.in-Some.ensures name c.requires.place))
    ∙ change-shown name value (table ∷ runs)

pub returns-in-None : goal.returns-in-None
returns-in-None c =
    let runs : List (List Point) = map (λ (r : Run). r.points) c.args.runs.now in
    let table = c.args.table.now.points in
    let value = c.args.op.now.value in
    let name : Name = name_in c.args.op.now.key in
    c.changes_runs.ensures
    ∙ ap (is_change value) (sym (known-behind name value table runs (value-change value None (state_of name table) (c.in-None.ensures name c.requires.place))))
    ∙ change-shown name value (table ∷ runs)
