-- An empty store is well formed.
use Rattle.std.proofs.Common.{sym, subst}
use Rattle.mvcc_cursor.specs.WellFormed.{IsWellFormed, history_in}
use Rattle.mvcc_cursor.proofs.EmptyLaws.{empty-well_formed}
use Rattle.mvcc_cursor.proofs.tests.tells_nothing.Goals as goal

pub over-requires : goal.over-requires
over-requires g c = subst (λ s. IsWellFormed (history_in s) s) (sym c.requires.empty) empty-well_formed
