use Rattle.std.proofs.Common.{List, ℕ, sym, subst, ◌∙◌}
use Rattle.std.specs.Option.{ForSome}
use Rattle.std.proofs.lemmas.Result.{err_from_is_err_and}
use Rattle.run_block.specs.views.Places.{IsIndex}
use Rattle.run_block.specs.views.Reading.{IsKeyPiece}
use Rattle.run_block.proofs.ReadingLaws.{IsReadingPoints-first, IsReadingPoints-more, IsReadingPoints-fault, IsReadingPoints-last}
use Rattle.run_block.proofs.parsing.read_points.Goals as goal

pub points-init : goal.points-init
points-init c = IsReadingPoints-first c.args.count c.args.reader.now c.args.index.now c.requires.index c.requires.points c.requires.ranges

pub point-requires : goal.point-requires
point-requires c = subst (λ (v : List ℕ). ForSome c.points.before (IsKeyPiece v)) (sym c.points.invariant.same) c.points.invariant.before_is

pub returns-in_err-point-clause-same : goal.returns-in_err-point-clause-same
returns-in_err-point-clause-same c = c.in_err-point.ensures.same ∙ c.points.invariant.same

-- the fault is that of the point
pub returns-in_err-point-clause-fault : goal.returns-in_err-point-clause-fault
returns-in_err-point-clause-fault c =
    let p = err_from_is_err_and c.from_residual.result c.from_residual.ensures.1 in
    rw (p.1, p.2) (IsReadingPoints-fault c.args.count c.points.counter c.args.reader.now c.points.reader c.points.before c.points.index _ c.points.invariant c.points-test.true c.in_err-point.ensures.reading)

pub add_point-requires-clause-index : goal.add_point-requires-clause-index
add_point-requires-clause-index c =
    subst (λ (v : List ℕ). IsIndex v c.points.index) (sym (c.in_ok-point.ensures.same ∙ c.points.invariant.same)) c.points.invariant.index_is

pub add_point-requires-clause-first : goal.add_point-requires-clause-first
add_point-requires-clause-first c = c.points.invariant.none

pub returns-in_err-add_point-clause-same : goal.returns-in_err-add_point-clause-same
returns-in_err-add_point-clause-same c = c.in_ok-point.ensures.same ∙ c.points.invariant.same

pub points-preserved : goal.points-preserved
points-preserved c =
    IsReadingPoints-more c.args.count c.points.counter c.args.reader.now c.points.reader _ c.points.before c.points.index _ c.in_ok-point.point
    c.points.invariant c.points-test.true c.in_ok-point.ensures.same c.in_ok-point.ensures.reading c.in_ok-point.ensures.placed
    c.in_ok-add_point.ensures.index c.in_ok-add_point.ensures.points c.in_ok-add_point.ensures.ranges

pub returns-clause-same : goal.returns-clause-same
returns-clause-same c = c.points.invariant.same

pub returns-clause-points : goal.returns-clause-points
returns-clause-points c =
    IsReadingPoints-last c.args.count c.points.counter c.args.reader.now c.points.reader c.points.before c.points.index c.points.invariant c.points-test.false

pub returns-clause-index : goal.returns-clause-index
returns-clause-index c = c.points.invariant.index_is

pub returns-clause-ranges : goal.returns-clause-ranges
returns-clause-ranges c = c.points.invariant.none
