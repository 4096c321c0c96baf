-- The laws of fragments.
use Rattle.mvcc_key.proofs.CanonicalLaws.{fragments-canonical}
use Rattle.mvcc_key.proofs.StackLaws.{stack_at-fragments}
use Rattle.mvcc_key.proofs.UniqueLaws.{stacks-tell}
use Rattle.mvcc_key.proofs.laws.laws_of_fragments.Goals as goal

pub returns : goal.returns
returns c = record { canonical = fragments-canonical; shows = stack_at-fragments; one = stacks-tell }
