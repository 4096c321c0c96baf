-- Sources and sinks over memory: what contracts see of them, and what each call does.
use Rattle.std.specs.Prelude.{ℕ, ◌≡◌, ◌+◌, ◌-◌, ◌^◌, List, ◌++◌, length, take, drop, min, Bool, true, false, not, ◌==◌, ◌&&◌, ◌||◌, if◌then◌else◌, Result, MatchResult}
use Rattle.std.specs.List.{list_any}
use Rattle.io_edge.specs.Causes.{one_more_fault}

-- a source that never fails: the bytes left, and the most that one read gives
pub record SureState : Type 0 where
  pub left : List ℕ
  pub piece : ℕ

-- a source with listed faults: also the numbers of the calls that fail, the number of the next call, and the faults so far
pub record SourceState : Type 0 where
  pub left : List ℕ
  pub piece : ℕ
  pub failing : List ℕ
  pub calls : ℕ
  pub faults : ℕ

-- a sink with listed faults: the bytes held, how many it holds at most, and the rest as for a source
pub record SinkState : Type 0 where
  pub held : List ℕ
  pub room : ℕ
  pub piece : ℕ
  pub failing : List ℕ
  pub calls : ℕ
  pub faults : ℕ

-- the number of the call after one over so many bytes: an empty one is not counted; the count stops above every listed number
abbrev pub number_after : ℕ → ℕ → ℕ
number_after calls len = if len == 0 then calls else min (calls + 1) (2 ^ 128 - 1)

-- whether a call is to fail by its number
abbrev pub is_listed : List ℕ → ℕ → Bool
is_listed failing call = list_any (λ n. n == call) failing

-- how many bytes a read into a buffer of this length gives
abbrev pub giving : List ℕ → ℕ → ℕ → ℕ
giving left piece len = min (min piece len) (length left)

-- whether a read into a buffer of this length fails
abbrev pub read_fails : SourceState → ℕ → Bool
read_fails s len = not (len == 0) && is_listed s.failing s.calls

-- the source after a read of n bytes into a buffer of this length
abbrev pub after_read : SourceState → ℕ → ℕ → SourceState
after_read s len n = record s { left = drop n s.left; calls = number_after s.calls len }

-- the source after a read into a buffer of this length that failed
abbrev pub after_failed_read : SourceState → ℕ → SourceState
after_failed_read s len = record s { calls = number_after s.calls len; faults = one_more_fault s.faults }

-- how many bytes of a piece of this length a write takes
abbrev pub taking : SinkState → ℕ → ℕ
taking s len = min (min s.piece len) (s.room - length s.held)

-- whether a write of a piece of this length fails
abbrev pub write_fails : SinkState → ℕ → Bool
write_fails s len = not (len == 0) && (is_listed s.failing s.calls || (taking s len == 0))

-- the sink after a write of the first n bytes of the piece
abbrev pub after_write : SinkState → List ℕ → ℕ → SinkState
after_write s piece n = record s { held = s.held ++ take n piece; calls = number_after s.calls (length piece) }

-- the sink after a write of the piece that failed
abbrev pub after_failed_write : SinkState → List ℕ → SinkState
after_failed_write s piece = record s { calls = number_after s.calls (length piece); faults = one_more_fault s.faults }

-- a call fails exactly where the test says so, and otherwise moves so many bytes
abbrev pub TakesExactly : {E : Type 0} → ℕ → Bool → Result ℕ E → Type 0
TakesExactly count fails r = MatchResult r (λ n. (fails ≡ false) × (n ≡ count)) (λ _. fails ≡ true)
