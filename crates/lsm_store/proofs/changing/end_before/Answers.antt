use Rattle.std.proofs.Common.{◌∙◌, ◌++◌, ◌∷◌, [], List, map, take, sym, ap, arith}
use Rattle.std.proofs.lemmas.List.{take_more, map-append}
use Rattle.run_block.specs.declared.run.Run.{Run}
use Rattle.mvcc_key.specs.Points.{Point}
use Rattle.mem_table.specs.Table.{state_of}
use Rattle.merge_cursor.specs.Merged.{joined}
use Rattle.lsm_store.proofs.ApplyLaws.{value_in}
use Rattle.lsm_store.proofs.TimeLaws.{unset-both}
use Rattle.lsm_store.proofs.changing.end_before.Goals as goal

pub loop-run-preserved : goal.loop-run-preserved
loop-run-preserved c n same =
    let runs = c.args.runs.now in
    let i = c.loop-run.run-index in
    let run' = c.run-item.result in
    ap (λ (rs : List Run). value_in (state_of n (joined (map (λ (r : Run). r.points) rs))))
    (take_more runs i run' (omega arith) ∙ ap (λ (r : Run). take i runs ++ r ∷ []) (sym c.run-item.is))
    ∙ ap (λ (lists : List (List Point)). value_in (state_of n (joined lists))) (map-append (λ (r : Run). r.points) (take i runs) (run' ∷ []))
    ∙ unset-both n (map (λ (r : Run). r.points) (take i runs)) run'.points (c.loop-run.invariant n same) (c.ends_before.ensures c.if-not-ends_before.false n same)
