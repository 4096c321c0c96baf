-- A cursor over a store.
use Rattle.std.proofs.Common.{◌≤◌, length, sym, subst, arith}
use Rattle.mvcc_key.specs.Order.{Key}
use Rattle.mvcc_cursor.specs.WellFormed.{IsWellFormed, history_in}
use Rattle.mvcc_cursor.specs.KeyPoints.{versions_in}
use Rattle.mvcc_cursor.specs.Standing.{standing_over}
use Rattle.mvcc_cursor.proofs.BytesLaws.{key-under, still-named}
use Rattle.mvcc_cursor.proofs.cursor.MvccCursor.with_buffer.Goals as goal

pub invariant_of-result-clause-well_formed : goal.invariant_of-result-clause-well_formed
invariant_of-result-clause-well_formed c = subst (λ s. IsWellFormed (history_in s) s) (sym c.in_ok-over.ensures) c.requires

pub invariant_of-result-clause-named : goal.invariant_of-result-clause-named
invariant_of-result-clause-named c = still-named _ c.name_record.new.sought.items c.name_record.ensures.items

pub invariant_of-result-clause-short : goal.invariant_of-result-clause-short
invariant_of-result-clause-short c = subst (λ (k : Key). length k ≤ 4097) (sym (key-under _ c.name_record.new.sought.items c.name_record.ensures.items)) (omega arith)

pub invariant_of-result-clause-empty : goal.invariant_of-result-clause-empty
invariant_of-result-clause-empty c = λ _. key-under _ c.name_record.new.sought.items c.name_record.ensures.items

pub returns : goal.returns
unfolding versions_in
returns c = λ i. standing_over (c.in_ok-over.ensures i)
