-- The laws of tombstones that go.
use Rattle.stat_delta.proofs.ThinningLaws.{key_sums-least, change_by_thinning-nothing}
use Rattle.stat_delta.proofs.SpanThinningLaws.{outside-uncovered, history_change-uncovered, hide_nothing-found, history_change-uncovered_alone}
use Rattle.stat_delta.proofs.laws.laws_of_thinning.Goals as goal

pub returns : goal.returns
returns c = record {
  least_above = key_sums-least;
  inside = outside-uncovered;
  go = history_change-uncovered;
  hiding_nothing = change_by_thinning-nothing;
  found = hide_nothing-found;
  hiding_nothing_go = history_change-uncovered_alone;
}
