-- One line more.
use Rattle.std.proofs.Common.{false}
use Rattle.script_run.proofs.LayoutLaws.{layout_text-more}
use Rattle.script_run.proofs.session.show_layout.Goals as goal

pub loop-index-preserved : goal.loop-index-preserved
loop-index-preserved c =
    layout_text-more c.args.text.now.items c.loop-index.text.items c.show.new.into.items c.args.shapes.now c.loop-index.index
    (record { keys = 0; clears = 0; ranges = false }) c.loop-index-test.true c.loop-index.invariant c.in_ok-show.ensures.ok
