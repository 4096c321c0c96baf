-- The store holds nothing.
use Rattle.std.proofs.Common.{sym, subst, ◌∙◌}
use Rattle.stat_delta.specs.Moments.{IsStoredBy}
use Rattle.mvcc_cursor.specs.WellFormed.{IsWellFormed, history_in}
use Rattle.mvcc_put.proofs.EmptyLaws.{empty-well_formed, empty-by, two-rise}
use Rattle.mvcc_put.proofs.tests.deletes.Goals as goal

pub plan_deletes-requires-clause-formed : goal.plan_deletes-requires-clause-formed
plan_deletes-requires-clause-formed c = subst (λ s. IsWellFormed (history_in s) s) (sym c.requires.empty) empty-well_formed

pub plan_deletes-requires-clause-by : goal.plan_deletes-requires-clause-by
plan_deletes-requires-clause-by c = subst (λ s. IsStoredBy c.wall-last.result (history_in s)) (sym c.requires.empty) (empty-by c.wall-last.result)

pub plan_deletes-requires-clause-rising : goal.plan_deletes-requires-clause-rising
plan_deletes-requires-clause-rising c = two-rise _ _ _ _ (sym c.is_bad_span.ensures ∙ c.if-is_bad_span.false) c.in_ok-first.ensures c.in_ok-second.ensures
