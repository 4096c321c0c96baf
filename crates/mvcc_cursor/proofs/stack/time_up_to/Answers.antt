-- The newest timestamp up to another.
use Rattle.std.proofs.Common.{rules, ◌≡◌, ap, ◌∙◌, true, false}
use Rattle.std.specs.Prelude.{slice_get}
use Rattle.std.specs.Option.{option_map}
use Rattle.std.specs.List.Sorted.{IsPartitionPoint}
use Rattle.std.proofs.lemmas.List.Sorted.{IsPartitionPoint-from_clause}
use Rattle.mvcc_key.specs.Order.{is_before}
use Rattle.mvcc_key.specs.declared.timestamp.Timestamp.{Timestamp}
use Rattle.mvcc_key.specs.views.Seen.{time_of}
use Rattle.mvcc_cursor.proofs.TimeLaws.{times-parted, time-found}
use Rattle.mvcc_cursor.proofs.stack.time_up_to.Goals as goal

pub returns : goal.returns
returns c =
    let ts = time_of c.args.ts in
    let times = c.args.times.now in
    let test = λ (x : Timestamp). is_before ts (time_of x) in
    let point : IsPartitionPoint (λ x. test x ≡ true) (λ x. test x ≡ false) times c.partition_point-place.result =
    IsPartitionPoint-from_clause test _ _ c.partition_point-place.ensures.partitioned (times-parted ts times c.requires) (λ a r f' k. search rules) in
    ap (option_map time_of) (c.copied.ensures ∙ c.first.ensures.value ∙ ap (λ l. slice_get l 0) c.split_at.ensures.back)
    ∙ time-found ts times c.partition_point-place.result point
