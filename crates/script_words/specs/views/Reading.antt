-- What a call that reads a part of a line tells.
use Rattle.std.specs.Prelude.{◌≡◌, Option, Some, None, Result, Ok, Err, ⊤}
use Rattle.script_words.specs.declared.fault.LineFault.{LineFault}
use Rattle.script_words.specs.declared.fault.LineFault.TheVariants as fault

-- a fault tells that there is no reading; want of memory tells nothing
abbrev pub Fails : {X : Type 0} → LineFault → Option X → Type 0
Fails fault.OutOfMemory read = ⊤
Fails fault.BadLine read = read ≡ None

-- what was read is the reading, and BadLine comes exactly where there is none
abbrev pub Gives : {X Y : Type 0} → (X → Y) → Result X LineFault → Option Y → Type 0
Gives view (Ok x) read = read ≡ Some (view x)
Gives view (Err e) read = Fails e read
