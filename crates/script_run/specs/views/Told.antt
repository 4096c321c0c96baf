-- Why a command is not carried out.
use Rattle.std.specs.Prelude.{◌≡◌, Option, Some, None, Result, Err, ⊤}
use Rattle.std.specs.Option.{option_map}
use Rattle.mvcc_engine.specs.views.Seen.{refusal_of}
use Rattle.txn_state.specs.Transaction as transaction
use Rattle.txn_state.specs.declared.fault.IgnoreFault.{IgnoreFault}
use Rattle.txn_state.specs.declared.fault.IgnoreFault.TheVariants as fault
use Rattle.script_text.specs.Text.{Reason, TxnExists, NoTxn, ByTxn, ByEngine}
use Rattle.script_text.specs.views.Seen.{txn_refusal_of}
use Rattle.script_run.specs.declared.stop.CommandStop.{CommandStop}
use Rattle.script_run.specs.declared.stop.CommandStop.TheVariants as stop

-- the reason that is told; want of memory is none
abbrev pub told_by : CommandStop → Option Reason
told_by stop.TxnExists = Some TxnExists
told_by stop.NoTxn = Some NoTxn
told_by (stop.ByTxn why) = Some (ByTxn (txn_refusal_of why))
told_by (stop.ByEngine why) = option_map ByEngine (refusal_of why)

-- the reason that is told where ranges are not ignored
abbrev pub told_by_ignoring : IgnoreFault → Option Reason
told_by_ignoring fault.OutOfMemory = None
told_by_ignoring fault.BadRanges = Some (ByTxn transaction.BadRanges)

-- the reason is this one, where it is one
abbrev pub Tells : {A : Type 0} → Option Reason → Result A Reason → Type 0
Tells None answer = ⊤
Tells (Some why) answer = answer ≡ Err why
