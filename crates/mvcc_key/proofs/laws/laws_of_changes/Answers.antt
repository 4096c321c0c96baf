-- The laws of changes.
use Rattle.mvcc_key.proofs.ChangeLaws.{stack_at-with_tombstone, stack_at-take_out, apart-kept}
use Rattle.mvcc_key.proofs.laws.laws_of_changes.Goals as goal

pub returns : goal.returns
returns c = record { adding = stack_at-with_tombstone; taking_out = stack_at-take_out; apart = apart-kept }
