use Rattle.std.proofs.Common.{rules, ◌≡◌, true, false}
use Rattle.std.specs.List.Sorted.{IsPartitionPoint}
use Rattle.std.proofs.lemmas.List.Sorted.{IsPartitionPoint-from_clause}
use Rattle.mvcc_key.specs.Order.{is_at_or_below}
use Rattle.mvcc_key.specs.Fragments.{Fragment}
use Rattle.mvcc_key.proofs.PieceLaws.{canonical-pieces}
use Rattle.range_key.proofs.PartitionLaws.{pieces-parted, parted-before, parted-from, starting_by-down, fails-above}
use Rattle.range_key.proofs.place.starting_by.Goals as goal

pub returns : goal.returns
returns c =
    let test = λ (f : Fragment). is_at_or_below f.start c.args.key.now in
    let point : IsPartitionPoint (λ f. test f ≡ true) (λ f. test f ≡ false) c.args.fragments.now c.partition_point.result =
    IsPartitionPoint-from_clause test _ _ c.partition_point.ensures.partitioned
    (pieces-parted test c.args.fragments.now (starting_by-down c.args.key.now) (canonical-pieces c.args.fragments.now c.requires)) (λ a r f' k. search rules) in
    record {
      within = c.partition_point.ensures.bound;
      before = parted-before test c.args.fragments.now _ point;
      from = fails-above c.args.key.now _ (parted-from test c.args.fragments.now _ point);
    }
