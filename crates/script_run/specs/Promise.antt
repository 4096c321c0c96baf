-- What a run promises of its source and its sink, for each way in which it ends.
use Rattle.std.specs.Prelude.{ℕ, ◌<◌, ◌≤◌, ◌+◌, List, length, take, Option}
use Rattle.std.specs.Io.KnownBytes.{Appends, Consumes, IsAtEnd}
use Rattle.io_edge.specs.Writing.{AppendsBeginning}
use Rattle.script_run.specs.Output.{whole_part}

-- the longest script, in bytes
abbrev pub script_max : ℕ
script_max = 1048576

-- the most bytes that one read asks for
abbrev pub read_size : ℕ
read_size = 65536

module _ (text : List ℕ → List ℕ) (left left' held held' : Option (List ℕ)) where
  -- the source was read to its end, what it gave is within the limit, and its whole text is written
  pub record WritesAll : Type 0 where
    pub given : List ℕ
    pub consumed : Consumes left left' given
    pub ended : IsAtEnd left'
    pub within : length given ≤ script_max
    pub appended : Appends held held' (text given)

  -- the source gave more than the limit, and the text of the whole lines within the limit is written
  pub record WritesWholeLines : Type 0 where
    pub given : List ℕ
    pub consumed : Consumes left left' given
    pub beyond : script_max < length given
    pub appended : Appends held held' (text (whole_part (take script_max given)))

  -- a beginning of the text of what the source gave is written
  pub record WritesBeginning : Type 0 where
    pub given : List ℕ
    pub consumed : Consumes left left' given
    pub appended : AppendsBeginning held held' (text given)

-- a script was read to its end, or until it was longer than the limit
pub record ReadsScript (left left' : Option (List ℕ)) (script : List ℕ) : Type 0 where
  pub consumed : Consumes left left' script
  pub ended : length script ≤ script_max → IsAtEnd left'
  pub within : length script ≤ script_max + read_size

-- the source gave no more than the limit and one read
pub record TakesWithin (left left' : Option (List ℕ)) : Type 0 where
  pub given : List ℕ
  pub consumed : Consumes left left' given
  pub within : length given ≤ script_max + read_size
