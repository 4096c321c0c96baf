-- Which timestamps a change takes out of a span.
use Rattle.std.specs.Prelude.{Bool}
use Rattle.mvcc_key.specs.Order.{Timestamp, is_same_time, is_in_window}
use Rattle.mvcc_key.specs.views.Seen.{time_of}
use Rattle.range_key.specs.declared.taken.Taken.{Taken}
use Rattle.range_key.specs.declared.taken.Taken.TheVariants.{One, Window}

-- the timestamp is taken out
abbrev pub is_taken : Taken → Timestamp → Bool
is_taken (One one) ts = is_same_time ts (time_of one)
is_taken (Window from to) ts = is_in_window (time_of from) (time_of to) ts
