-- The texts of faults.
use Rattle.std.specs.Prelude.{ℕ, List, ◌++◌, codes}
use Rattle.std.specs.Fmt.{decimal}
use Rattle.txn_state.specs.declared.fault.TxnFault.{TxnFault}
use Rattle.txn_state.specs.declared.fault.TxnFault.TheVariants.{SequenceLimit, EpochLimit}
use Rattle.txn_state.specs.declared.fault.IgnoreFault.{IgnoreFault}
use Rattle.txn_state.specs.declared.fault.IgnoreFault.TheVariants.{OutOfMemory, BadRanges}

-- a number at its limit
abbrev pub limit_text : TxnFault → List ℕ
limit_text (SequenceLimit sequence) = codes "a step from sequence " ++ decimal sequence ++ codes " would pass 2147483647"
limit_text (EpochLimit epoch) = codes "epoch " ++ decimal epoch ++ codes " is the last"

-- ranges that are not ignored
abbrev pub ignore_text : IgnoreFault → List ℕ
ignore_text OutOfMemory = codes "out of memory"
ignore_text BadRanges = codes "the ignored ranges do not rise"
