-- What was read so far is what the source gave.
use Rattle.std.proofs.Common.{◌≡◌, ◌≤◌, ◌+◌, ◌-◌, length, vec_len}
use Rattle.std.specs.Io.KnownBytes.{Consumes}
use Rattle.script_run.specs.Promise.{script_max, read_size}
use Rattle.script_run.proofs.script.read_script.Given as goal

abbrev pub invariant-loop-source : goal.invariant-loop-source
invariant-loop-source g l = record {
  consumed : Consumes (g.S.Source.left l.initial.source) (g.S.Source.left l.source) l.script.items;
  within : length l.script.items ≤ script_max + read_size;
  room : vec_len l.buffer ≡ read_size;
  sure : g.S.Source.faults l.source ≡ g.S.Source.faults l.initial.source;
  later : g.S.Source.faults l.initial.source ≤ g.S.Source.faults l.source;
}

abbrev pub decreases-loop-source : goal.decreases-loop-source
decreases-loop-source g l = script_max + 1 - vec_len l.script
