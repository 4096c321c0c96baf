use Rattle.std.proofs.Common.{◌∙◌, ◌+◌, List, map, drop, sym, ap, arith}
use Rattle.std.specs.Prelude.{Some}
use Rattle.std.specs.Option.{option_map}
use Rattle.run_block.specs.declared.run.Run.{Run}
use Rattle.mvcc_key.specs.Order.{Name}
use Rattle.mvcc_key.specs.Encoded.{name_in}
use Rattle.mvcc_key.specs.Points.{Point}
use Rattle.mem_table.specs.Table.{state_of}
use Rattle.merge_cursor.specs.Merged.{joined}
use Rattle.lsm_store.specs.views.Changing.{is_change}
use Rattle.lsm_store.proofs.SoughtLaws.{next-left, known-here, known-behind}
use Rattle.lsm_store.proofs.changing.seek_change.Goals as goal

pub returns-in-Some : goal.returns-in-Some
returns-in-Some c =
    let runs = c.args.runs.now in
    let i = c.loop-run.run-index in
    let run' = c.run-item.result in
    let value = c.args.op.now.value in
    let name : Name = name_in c.args.op.now.key in
    known-here name value run'.points (map (λ (r : Run). r.points) (drop (i + 1) runs)) c.in-Some.change
    (sym c.in-Some.is ∙ c.changes_part.ensures ∙ ap (λ (ps : List Point). option_map (λ (p : Point). is_change value (Some p)) (state_of name ps)) c.cursor.ensures.points)
    ∙ ap (λ (lists : List (List Point)). is_change value (state_of name (joined lists)))
    (sym (next-left (λ (r : Run). r.points) runs i run' (omega arith) c.run-item.is))
    ∙ ap (is_change value) (sym c.loop-run.invariant)

pub loop-run-preserved : goal.loop-run-preserved
loop-run-preserved c =
    let runs = c.args.runs.now in
    let i = c.loop-run.run-index in
    let run' = c.run-item.result in
    let value = c.args.op.now.value in
    let name : Name = name_in c.args.op.now.key in
    c.loop-run.invariant
    ∙ ap (λ (lists : List (List Point)). state_of name (joined lists)) (next-left (λ (r : Run). r.points) runs i run' (omega arith) c.run-item.is)
    ∙ known-behind name value run'.points (map (λ (r : Run). r.points) (drop (i + 1) runs))
    (sym c.in_default.is ∙ c.changes_part.ensures ∙ ap (λ (ps : List Point). option_map (λ (p : Point). is_change value (Some p)) (state_of name ps)) c.cursor.ensures.points)
