use Rattle.std.proofs.Common.{◌≡◌, ◌+◌, ◌*◌, ◌≤◌, drop, map, None}
use Rattle.std.specs.Option.{option_map}
use Rattle.mvcc_key.specs.views.Seen.{time_of}
use Rattle.stat_core.specs.ComputeStats.{versions_sums}
use Rattle.stat_core.specs.views.Seen.{version_shape_of}
use Rattle.stat_core.proofs.tally.Tally.of_versions.Given as goal

abbrev pub invariant-loop-version : goal.invariant-loop-version
invariant-loop-version l = record {
  val_bytes : l.tally.val_bytes + (versions_sums l.now (option_map time_of l.newer) (map time_of l.stack) (map version_shape_of (drop l.version-index l.versions))).val_bytes
      ≡ (versions_sums l.now None (map time_of l.stack) (map version_shape_of l.versions)).val_bytes;
  live_bytes : l.tally.live_bytes + (versions_sums l.now (option_map time_of l.newer) (map time_of l.stack) (map version_shape_of (drop l.version-index l.versions))).live_bytes
      ≡ (versions_sums l.now None (map time_of l.stack) (map version_shape_of l.versions)).live_bytes;
  gc_bytes_age : l.tally.gc_bytes_age + (versions_sums l.now (option_map time_of l.newer) (map time_of l.stack) (map version_shape_of (drop l.version-index l.versions))).gc_bytes_age
      ≡ (versions_sums l.now None (map time_of l.stack) (map version_shape_of l.versions)).gc_bytes_age;
  val_within : l.tally.val_bytes ≤ 33554432 * l.version-index;
  live_within : l.tally.live_bytes ≤ 33554444 * l.version-index;
  age_within : l.tally.gc_bytes_age ≤ 1152921504606846976 * l.version-index;
}
