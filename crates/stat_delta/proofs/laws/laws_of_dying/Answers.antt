-- The laws of keys that die.
use Rattle.stat_delta.proofs.DyingLaws.{change_by_tombstone-dying, history_change-dying, one_dies, dying_among-append, few_die}
use Rattle.stat_delta.proofs.laws.laws_of_dying.Goals as goal

pub returns : goal.returns
returns c = record {
  kills = change_by_tombstone-dying;
  comes = history_change-dying;
  one = one_dies;
  keys_in_two = dying_among-append;
  pairs_in_two = dying_among-append;
  few_keys = few_die;
  few_pairs = few_die;
}
