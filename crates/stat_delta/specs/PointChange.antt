-- What a planned change by points alone says, from the one history to the other.
use Rattle.std.specs.Prelude.{◌≡◌, ℕ, []}
use Rattle.mvcc_key.specs.History.{History}
use Rattle.mvcc_key.specs.Fragments.{fragments}
use Rattle.mvcc_key.specs.views.SeenPoint.{points_of}
use Rattle.intent_meta.specs.StoredPairs.{stored_pairs}
use Rattle.intent_meta.specs.PointPairs.{with_points}
use Rattle.intent_meta.specs.Valid.{IsValid}
use Rattle.stat_core.specs.Laws.{IsChange}
use Rattle.stat_delta.specs.Moments.{stored_walls, greatest}
use Rattle.stat_delta.specs.declared.change.Change.{Change}

-- its points make the pairs of the one those of the other, no tombstone changes, its delta is what every statistic of all that is
-- stored changes by at its moment, and this is the latest of the last one and of all that is stored then
pub record IsPointChange (last : ℕ) (before after : History) (change : Change) : Type 0 where
  pub valid : IsValid after
  pub pairs : stored_pairs after ≡ with_points (points_of change.batch.points) (stored_pairs before)
  pub ranges : change.batch.ranges ≡ []
  pub tombstones : after.tombstones ≡ before.tombstones
  pub moment : change.last ≡ greatest last (stored_walls after)
  pub delta : IsChange change.delta change.last (stored_pairs before) (stored_pairs after) (fragments before.tombstones) (fragments before.tombstones)
