-- The store holds nothing.
use Rattle.std.proofs.Common.{sym, subst}
use Rattle.stat_delta.specs.Moments.{IsStoredBy}
use Rattle.mvcc_cursor.specs.WellFormed.{IsWellFormed, history_in}
use Rattle.mvcc_put.proofs.EmptyLaws.{empty-well_formed, empty-by}
use Rattle.mvcc_put.proofs.tests.comes_to.Goals as goal

pub plan_put-requires-clause-formed : goal.plan_put-requires-clause-formed
plan_put-requires-clause-formed g c = subst (λ s. IsWellFormed (history_in s) s) (sym c.requires.empty) empty-well_formed

pub plan_put-requires-clause-by : goal.plan_put-requires-clause-by
plan_put-requires-clause-by g c = subst (λ s. IsStoredBy c.wall-last.result (history_in s)) (sym c.requires.empty) (empty-by c.wall-last.result)
