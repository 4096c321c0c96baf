-- The laws of versions that are collected.
use Rattle.stat_delta.proofs.RemovalLaws.{versions_sums-append, change_by_collection-shapes, key_change-all, stored_change-collection, without_versions-leaves}
use Rattle.stat_delta.proofs.CollectionLaws.{versions_of-parts, stored_change-up_to, stored_change-all}
use Rattle.stat_delta.proofs.laws.laws_of_collection.Goals as goal

pub returns : goal.returns
returns c = record {
  in_two = versions_sums-append;
  old_shapes = change_by_collection-shapes;
  all_shapes = key_change-all;
  old_versions = stored_change-collection;
  without = without_versions-leaves;
  newer = versions_of-parts;
  up_to = stored_change-up_to;
  all = stored_change-all;
}
