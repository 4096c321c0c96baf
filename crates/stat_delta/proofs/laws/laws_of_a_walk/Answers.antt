-- The laws of one walk over pairs.
use Rattle.stat_delta.proofs.SpanWalkLaws.{first_pairs-append, first_pairs-skip, keys_of-walk, first_pairs-first, history_change-walk}
use Rattle.stat_delta.proofs.laws.laws_of_a_walk.Goals as goal

pub returns : goal.returns
returns c = record {
  in_two = first_pairs-append;
  skips = first_pairs-skip;
  keys = keys_of-walk;
  first = first_pairs-first;
  comes = history_change-walk;
}
