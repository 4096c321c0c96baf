-- The laws of a tombstone that comes.
use Rattle.stat_delta.proofs.TombstoneLaws.{difference-covered, change_by_tombstone-newest}
use Rattle.stat_delta.proofs.SpanTombstoneLaws.{outside-covered, history_change-covered}
use Rattle.stat_delta.proofs.laws.laws_of_a_tombstone.Goals as goal

pub returns : goal.returns
returns c = record {
  over_key = difference-covered;
  over_versions = change_by_tombstone-newest;
  inside = outside-covered;
  comes = history_change-covered;
}
