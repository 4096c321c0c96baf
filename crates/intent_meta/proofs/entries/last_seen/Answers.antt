use Rattle.std.proofs.Common.{◌∙◌, sym}
use Rattle.std.specs.Option.{option_map}
use Rattle.intent_meta.specs.views.Seen.{seen_entry}
use Rattle.intent_meta.proofs.WalkLaws.{StillSeen-front, StillSeen-seen, StillSeen-passed, StillSeen-end}
use Rattle.intent_meta.proofs.entries.last_seen.Goals as goal

pub loop-entry-init : goal.loop-entry-init
loop-entry-init c = StillSeen-front c.args.sequence c.args.ignored.now c.args.bytes.now

pub loop-entry-preserved-then-is_seen : goal.loop-entry-preserved-then-is_seen
loop-entry-preserved-then-is_seen c =
    StillSeen-seen c.args.sequence c.args.ignored.now c.args.bytes.now c.loop-entry.rest.now c.in-Ok.behind.now (option_map (λ v. v.now) c.loop-entry.found)
    (seen_entry c.in-Ok.entry) c.loop-entry.invariant c.in-Ok.ensures.read (sym c.is_seen.ensures ∙ c.if-is_seen.true)

pub loop-entry-preserved : goal.loop-entry-preserved
loop-entry-preserved c =
    StillSeen-passed c.args.sequence c.args.ignored.now c.args.bytes.now c.loop-entry.rest.now c.in-Ok.behind.now (option_map (λ v. v.now) c.loop-entry.found)
    (seen_entry c.in-Ok.entry) c.loop-entry.invariant c.in-Ok.ensures.read (sym c.is_seen.ensures ∙ c.if-is_seen.false)

pub returns : goal.returns
returns c =
    StillSeen-end c.args.sequence c.args.ignored.now c.args.bytes.now c.loop-entry.rest.now (option_map (λ v. v.now) c.loop-entry.found) c.in_default.field-0
    c.loop-entry.invariant c.in_default.ensures.read
