-- How contracts see the values of the code.
use Rattle.mvcc_key.specs.Order.{Timestamp}
use Rattle.mvcc_key.specs.History as history
use Rattle.mvcc_key.specs.declared.timestamp.Timestamp.{Timestamp as Declared}
use Rattle.mvcc_key.specs.declared.span.SeqRange.{SeqRange}

-- a timestamp
abbrev pub time_of : Declared → Timestamp
time_of t = record { wall = t.wall; logical = t.logical }

-- a range of sequences
abbrev pub range_of : SeqRange → history.SeqRange
range_of r = record { first = r.first; last = r.last }
