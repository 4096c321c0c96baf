-- The laws of the keys of a span.
use Rattle.stat_delta.proofs.SpanKeysLaws.{keys_of-within, keys_of-one_first, newest_shape-first, versions-pairs, above_span-accepted}
use Rattle.stat_delta.proofs.laws.laws_of_keys_within.Goals as goal

pub returns : goal.returns
returns c = record {
  within = keys_of-within;
  one_first = keys_of-one_first;
  first_pair = newest_shape-first;
  versions = versions-pairs;
  nothing_above = above_span-accepted;
}
