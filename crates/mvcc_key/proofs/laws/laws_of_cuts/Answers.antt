-- The laws of cuts.
use Rattle.mvcc_key.proofs.SpanCutLaws.{stack_at-cut_to, cut_to-canonical}
use Rattle.mvcc_key.proofs.laws.laws_of_cuts.Goals as goal

pub returns : goal.returns
returns c = record { shows = stack_at-cut_to; canonical = cut_to-canonical }
