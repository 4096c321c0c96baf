use Rattle.intent_meta.specs.views.Seen.{seen_entry}
use Rattle.intent_meta.proofs.WalkLaws.{StillKept-front, StillKept-next, StillKept-end}
use Rattle.intent_meta.proofs.entries.kept.Goals as goal

pub loop-entry-init : goal.loop-entry-init
loop-entry-init c = rw c.new-left.ensures (StillKept-front c.args.ignored.now c.args.bytes.now)

pub loop-entry-preserved : goal.loop-entry-preserved
loop-entry-preserved c =
    rw c.in_ok-keep.ensures
    (StillKept-next c.args.ignored.now c.args.bytes.now c.loop-entry.rest.now c.in-Ok.behind.now c.loop-entry.left
    (seen_entry c.in-Ok.entry) c.loop-entry.invariant c.in-Ok.ensures.read)

pub returns : goal.returns
returns c =
    StillKept-end c.args.ignored.now c.args.bytes.now c.loop-entry.rest.now c.loop-entry.left c.in_default.field-0
    c.loop-entry.invariant c.in_default.ensures.read
