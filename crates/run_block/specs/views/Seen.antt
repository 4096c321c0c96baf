-- How contracts see faults.
use Rattle.std.specs.Prelude.{◌≡◌, ⊤, Result, Err}
use Rattle.mvcc_key.specs.FileKind as format
use Rattle.run_block.specs.RunFormat as words
use Rattle.run_block.specs.declared.fault.FileKind.{FileKind}
use Rattle.run_block.specs.declared.fault.FileKind.TheVariants as code
use Rattle.run_block.specs.declared.fault.RunFault.{RunFault}
use Rattle.run_block.specs.declared.fault.ParseFault.{ParseFault}
use Rattle.run_block.specs.declared.fault.ParseFault.TheVariants as parsing

-- what is wrong
abbrev pub kind_of : FileKind → format.FileKind
kind_of code.Short = format.FileKind.Short
kind_of code.Magic = format.FileKind.Magic
kind_of code.Key = format.FileKind.Key
kind_of code.Order = format.FileKind.Order
kind_of code.Value = format.FileKind.Value
kind_of code.RangeOrder = format.FileKind.RangeOrder
kind_of code.Trailing = format.FileKind.Trailing
kind_of code.Clear = format.FileKind.Clear
kind_of code.Record = format.FileKind.Record
kind_of code.Tie = format.FileKind.Tie

-- what is wrong, and where
abbrev pub fault_of : RunFault → words.RunFault
fault_of f = record { kind = kind_of f.kind; place = f.place }

-- it is the fault of the reading; want of memory says nothing
abbrev pub IsFaultOf : {A : Type 0} → ParseFault → Result A words.RunFault → Type 0
IsFaultOf parsing.OutOfMemory reading = ⊤
IsFaultOf (parsing.Fault f) reading = reading ≡ Err (fault_of f)
