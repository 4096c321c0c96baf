-- The store holds nothing.
use Rattle.std.proofs.Common.{sym, subst}
use Rattle.stat_delta.specs.Moments.{IsStoredBy}
use Rattle.mvcc_cursor.specs.WellFormed.{IsWellFormed, history_in}
use Rattle.mvcc_cursor.proofs.EmptyLaws.{empty-well_formed}
use Rattle.intent_resolve.proofs.EmptyLaws.{empty-by}
use Rattle.intent_resolve.proofs.tests.finds_nothing.Goals as goal

pub plan_resolve-requires-clause-formed : goal.plan_resolve-requires-clause-formed
plan_resolve-requires-clause-formed g c = subst (λ s. IsWellFormed (history_in s) s) (sym c.requires.empty) empty-well_formed

pub plan_resolve-requires-clause-by : goal.plan_resolve-requires-clause-by
plan_resolve-requires-clause-by g c = subst (λ s. IsStoredBy 5 (history_in s)) (sym c.requires.empty) empty-by
