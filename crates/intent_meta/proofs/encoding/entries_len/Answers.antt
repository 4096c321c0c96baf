use Rattle.std.proofs.Common.{ℕ, List, arith, ap, length}
use Rattle.mvcc_key.specs.History.{Entry}
use Rattle.intent_meta.proofs.EncodingLaws.{length-entries_at}
use Rattle.intent_meta.proofs.encoding.entries_len.Goals as goal

pub overflow_add-total-in-loop-entry : goal.overflow_add-total-in-loop-entry
overflow_add-total-in-loop-entry c =
    let at = length-entries_at c.args.entries.now c.loop-entry.entry-index c.entry-item.result c.loop-entry-test.true c.entry-item.is in
    omega (arith, at, c.loop-entry.invariant, c.requires, ap length c.as_slice.ensures, ap (λ (e : Entry (List ℕ)). length e.value) c.entry.view_is)
