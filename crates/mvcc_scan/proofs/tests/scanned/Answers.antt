-- The store holds nothing.
use Rattle.std.proofs.Common.{sym, subst}
use Rattle.mvcc_cursor.specs.WellFormed.{IsWellFormed, history_in}
use Rattle.mvcc_cursor.proofs.EmptyLaws.{empty-well_formed}
use Rattle.mvcc_scan.proofs.tests.scanned.Goals as goal

pub plan_scan-requires : goal.plan_scan-requires
plan_scan-requires c = subst (λ s. IsWellFormed (history_in s) s) (sym c.requires) empty-well_formed
