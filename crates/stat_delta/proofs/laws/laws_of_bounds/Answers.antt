-- The laws of bounds.
use Rattle.stat_delta.proofs.SpanBoundsLaws.{keys-short, pairs-short, versions-short, versions-few, keys-few, fragments-few}
use Rattle.stat_delta.proofs.StandAroundLaws.{fragments-around}
use Rattle.stat_delta.proofs.laws.laws_of_bounds.Goals as goal

pub returns : goal.returns
returns c = record {
  keys_short = keys-short;
  pairs_short = pairs-short;
  versions_short = versions-short;
  versions_few = versions-few;
  keys_few = keys-few;
  fragments_few = fragments-few;
  around = fragments-around;
}
