-- The rest of the entries leaves what all leave.
use Rattle.std.proofs.Common.{◌≡◌, ◌-◌, None}
use Rattle.intent_meta.specs.Record.{entries_from}
use Rattle.intent_meta.specs.Entries.{rest_of}
use Rattle.intent_meta.proofs.decoding.history.Given as goal

abbrev pub invariant-loop : goal.invariant-loop
invariant-loop l =
    rest_of (entries_from l.fn.count None l.fn.limit l.fn.bytes) ≡ rest_of (entries_from (l.count - l.counter) l.before l.limit l.rest)
