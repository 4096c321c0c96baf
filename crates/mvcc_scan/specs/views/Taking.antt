-- What a scan has taken so far, and how it ends.
use Rattle.std.specs.Prelude.{◌≡◌, ◌-◌, map, Option, Some, None, option_map, Result, Ok, Err}
use Rattle.mvcc_key.specs.Refusal as refusal
use Rattle.mvcc_key.specs.views.Seen.{time_of}
use Rattle.mvcc_value.specs.views.Seen.{found_of}
use Rattle.read_rule.specs.Scan as scan
use Rattle.mvcc_scan.specs.declared.taken.Taken.{Taken}
use Rattle.mvcc_scan.specs.declared.taken.Stop.{Stop}
use Rattle.mvcc_scan.specs.declared.taken.Stop.TheVariants as code

-- the same is taken: of the sizes the room is kept that they leave of the target
pub record IsTaken (l : scan.ScanLimits) (c : Taken) (t : scan.Taken) : Type 0 where
  pub rows : map found_of c.rows ≡ map (λ row. row.found) t.rows
  pub room : c.room ≡ l.target - scan.total_size t.rows
  pub listed : c.listed ≡ t.listed
  pub conflicts : c.conflicts ≡ t.conflicts
  pub too_old : option_map time_of c.too_old ≡ t.too_old

-- how a scan ends
abbrev pub stop_of : Stop → scan.Stop
stop_of code.AtEnd = scan.AtEnd
stop_of (code.Before key) = scan.Before key
stop_of (code.Uncertain ts local) = scan.Refused (refusal.Uncertain (time_of ts) (time_of local))
stop_of (code.EpochFault own other) = scan.Refused (refusal.EpochFault own other)

-- a step goes on with what is taken, or stops with what was taken before
abbrev pub IsAfter : scan.ScanLimits → scan.Taken → Result scan.Taken scan.Stop → Option Stop → Taken → Type 0
IsAfter l t (Ok u) None c = IsTaken l c u
IsAfter l t (Ok u) (Some stop) c = ⊥
IsAfter l t (Err why) None c = ⊥
IsAfter l t (Err why) (Some stop) c = (stop_of stop ≡ why) × IsTaken l c t
