-- The bytes of the entries so far are there, and there is room for the others.
use Rattle.std.proofs.Common.{◌≡◌, ◌+◌, ◌≤◌, ◌++◌, length, take, vec_len, vec_capacity}
use Rattle.std.specs.List.{flat_map}
use Rattle.intent_meta.specs.Record.{entry_bytes}
use Rattle.intent_meta.proofs.encoding.put_entries.Given as goal

abbrev pub invariant-loop-entry : goal.invariant-loop-entry
invariant-loop-entry l = record {
  items : l.out.items ≡ l.initial.out.items ++ flat_map entry_bytes (take l.entry-index l.entries);
  len : vec_len l.out ≡ vec_len l.initial.out + length (flat_map entry_bytes (take l.entry-index l.entries));
  room : vec_len l.initial.out + length (flat_map entry_bytes l.entries) ≤ vec_capacity l.out;
}
