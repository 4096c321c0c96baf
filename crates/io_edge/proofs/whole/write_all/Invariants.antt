use Rattle.std.proofs.Common.{◌≡◌, ◌≤◌, ◌-◌, length, take, drop, is_some}
use Rattle.std.specs.Io.KnownBytes.{Appends}
use Rattle.io_edge.proofs.whole.write_all.Given as goal

abbrev pub invariant-loop-rest : goal.invariant-loop-rest
invariant-loop-rest g l = record {
  short : length l.rest ≤ length l.piece;
  rest : l.rest ≡ drop (length l.piece - length l.rest) l.piece;
  appended : Appends (g.K.Sink.held l.initial.sink) (g.K.Sink.held l.sink) (take (length l.piece - length l.rest) l.piece);
  told : is_some (g.K.Sink.held l.sink) ≡ is_some (g.K.Sink.held l.initial.sink);
  sure : g.K.Sink.faults l.sink ≡ g.K.Sink.faults l.initial.sink;
  later : g.K.Sink.faults l.initial.sink ≤ g.K.Sink.faults l.sink;
}

abbrev pub decreases-loop-rest : goal.decreases-loop-rest
decreases-loop-rest g l = length l.rest
