use Rattle.std.proofs.Common.{refl, ◌∙◌}
use Rattle.mvcc_key.specs.views.Seen.{time_of}
use Rattle.mvcc_value.specs.views.Seen.{seen_body}
use Rattle.mvcc_key.proofs.ClockLaws.{range_from}
use Rattle.intent_meta.proofs.ListedLaws.{known_version, listed_version}
use Rattle.intent_meta.proofs.listed.ListedItem.version.Goals as goal

pub invariant_of-result : goal.invariant_of-result
invariant_of-result c =
    listed_version (time_of c.args.ts) (time_of c.args.local) (time_of c.kept_local.result) (seen_body c.args.body) _ c.from_vec-value.result
    c.has_bytes.ensures (range_from c.args.local.wall c.args.local.logical c.args.local.wall_range c.args.local.logical_range) (c.from_vec-value.ensures ∙ c.in_ok-encode.ensures.bytes) c.kept_local.ensures refl

pub returns : goal.returns
returns c =
    let known = known_version (seen_body c.args.body) (time_of c.args.local) (time_of c.args.ts) c.from_vec-value.result c.has_bytes.ensures (range_from c.args.local.wall c.args.local.logical c.args.local.wall_range c.args.local.logical_range) (c.from_vec-value.ensures ∙ c.in_ok-encode.ensures.bytes) in
    λ i. record { ts = time_of c.args.ts; local = c.kept_local.ensures i; body = (known i).body }
