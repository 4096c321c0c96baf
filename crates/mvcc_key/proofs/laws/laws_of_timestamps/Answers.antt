-- The laws of timestamps.
use Rattle.mvcc_key.proofs.ClockLaws.{next-undone, previous-undone}
use Rattle.mvcc_key.proofs.OrderLaws.{time_cmp-total}
use Rattle.mvcc_key.proofs.laws.laws_of_timestamps.Goals as goal

pub returns : goal.returns
returns c = record { next = next-undone; previous = previous-undone; ordered = time_cmp-total }
