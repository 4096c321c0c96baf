-- The lines so far are shown.
use Rattle.std.proofs.Common.{◌≡◌, ◌++◌, take, map, flat_map}
use Rattle.lsm_store.specs.views.Seen.{seen_shape}
use Rattle.script_run.specs.Output.{layout_answers}
use Rattle.script_text.specs.Text.{show}
use Rattle.script_run.proofs.session.show_layout.Given as goal

abbrev pub invariant-loop-index : goal.invariant-loop-index
invariant-loop-index l =
    l.text.items ≡ l.initial.text.items ++ flat_map show (layout_answers 0 (map seen_shape (take l.index l.shapes)))
