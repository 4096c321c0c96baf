-- The bytes of the entries so far.
use Rattle.std.proofs.Common.{◌≡◌, length, take}
use Rattle.std.specs.List.{flat_map}
use Rattle.intent_meta.specs.Record.{entry_bytes}
use Rattle.intent_meta.proofs.encoding.entries_len.Given as goal

abbrev pub invariant-loop-entry : goal.invariant-loop-entry
invariant-loop-entry l = l.total ≡ length (flat_map entry_bytes (take l.entry-index l.entries))
