use Rattle.std.proofs.Common.{arith}
use Rattle.intent_meta.proofs.EncodingLaws.{length-entries_at}
use Rattle.intent_meta.proofs.encoding.put_entries.Goals as goal

pub put_entry-requires-clause-room : goal.put_entry-requires-clause-room
put_entry-requires-clause-room c =
    let at = length-entries_at c.args.entries.now c.loop-entry.entry-index c.entry-item.result c.loop-entry-test.true c.entry-item.is in
    omega (arith, at, c.loop-entry.invariant.len, c.loop-entry.invariant.room)
