-- What a clause reads of a source or a sink over std.
use Rattle.std.specs.Prelude.{ℕ}
use Rattle.io_edge.specs.declared.real.ReaderSource.{ReaderSource}
use Rattle.io_edge.specs.declared.real.WriterSink.{WriterSink}

-- the reader that a source reads from
abbrev pub reader_of : {R : Type 0} → ReaderSource R → R
reader_of s = s.reader

-- how often a read failed
abbrev pub read_faults : {R : Type 0} → ReaderSource R → ℕ
read_faults s = s.faults

-- the writer that a sink writes to
abbrev pub writer_of : {W : Type 0} → WriterSink W → W
writer_of s = s.writer

-- how often a write failed
abbrev pub write_faults : {W : Type 0} → WriterSink W → ℕ
write_faults s = s.faults
