use Rattle.std.proofs.Common.{rules, ◌≡◌, ◌∙◌, ap, true, false}
use Rattle.std.specs.List.Sorted.{IsPartitionPoint}
use Rattle.std.specs.Option.{option_map}
use Rattle.std.proofs.lemmas.List.Sorted.{IsPartitionPoint-from_clause}
use Rattle.mvcc_key.specs.Order.{is_before}
use Rattle.mvcc_key.specs.declared.timestamp.Timestamp.{Timestamp}
use Rattle.mvcc_key.specs.views.Seen.{time_of}
use Rattle.stat_core.proofs.LeastAboveLaws.{above-parted, least_above-is}
use Rattle.stat_core.proofs.garbage.least_above.Goals as goal

pub returns : goal.returns
returns c =
    let test = λ (t : Timestamp). is_before (time_of c.args.ts) (time_of t) in
    let point : IsPartitionPoint (λ t. test t ≡ true) (λ t. test t ≡ false) c.args.stack.now c.partition_point-above.result =
    IsPartitionPoint-from_clause test _ _ c.partition_point-above.ensures.partitioned (above-parted time_of (time_of c.args.ts) c.args.stack.now c.requires) (λ a r f' k. search rules) in
    ap (option_map time_of) (c.copied.ensures ∙ c.last.ensures.value) ∙ least_above-is time_of (time_of c.args.ts) c.args.stack.now _ point
