use Rattle.std.proofs.Common.{◌≡◌, sym, ap, ◌∙◌}
use Rattle.std.specs.Prelude.{Ok, Err}
use Rattle.std.proofs.lemmas.Result.{err_from_is_err_and}
use Rattle.run_block.specs.RunFormat.{RunFault}
use Rattle.run_block.specs.views.Places.{points_in, ranges_in}
use Rattle.run_block.specs.views.Reading.{rest_of}
use Rattle.run_block.proofs.WholeLaws.{rest_of-first, IsFaultOf-whole, fault_of-head, IsHead, IsHead-read, fault_of-points, fault_of-ranges, fault_of-end, run_of-whole}
use Rattle.run_block.proofs.parsing.read_index.Goals as goal

-- the fault is that of the head
pub returns-in_err-points-clause-fault : goal.returns-in_err-points-clause-fault
returns-in_err-points-clause-fault c =
    let p = err_from_is_err_and c.from_residual.result c.from_residual.ensures.1 in
    let bytes = c.args.bytes.now in
    let first = rest_of-first bytes c.new-reader.result c.new-reader.ensures.bytes c.new-reader.ensures.place in
    rw (p.1, p.2) (fault_of-head bytes _ _ first c.in_err-points.ensures.reading)

-- the fault is that of the points
pub returns-in_err-read_points-clause-fault : goal.returns-in_err-read_points-clause-fault
returns-in_err-read_points-clause-fault c =
    let p = err_from_is_err_and c.from_residual-in_err-read_points.result c.from_residual-in_err-read_points.ensures.1 in
    let bytes = c.args.bytes.now in
    let first = rest_of-first bytes c.new-reader.result c.new-reader.ensures.bytes c.new-reader.ensures.place in
    let head : IsHead bytes c.in_ok-points.points c.in_ok-points.ranges (rest_of c.head.new.self) = IsHead-read bytes _ _ _ _ first c.in_ok-points.ensures.reading in
    rw (p.1, p.2) (IsFaultOf-whole c.in_err-read_points.field-0.0 _ _ (λ f e. fault_of-points bytes _ _ _ f head e) c.in_err-read_points.ensures.fault)

-- the fault is that of the range operations
pub returns-in_err-read_ranges-clause-fault : goal.returns-in_err-read_ranges-clause-fault
returns-in_err-read_ranges-clause-fault c =
    let p = err_from_is_err_and c.from_residual-in_err-read_ranges.result c.from_residual-in_err-read_ranges.ensures.1 in
    let bytes = c.args.bytes.now in
    let first = rest_of-first bytes c.new-reader.result c.new-reader.ensures.bytes c.new-reader.ensures.place in
    let head : IsHead bytes c.in_ok-points.points c.in_ok-points.ranges (rest_of c.head.new.self) = IsHead-read bytes _ _ _ _ first c.in_ok-points.ensures.reading in
    rw (p.1, p.2) (IsFaultOf-whole c.in_err-read_ranges.field-0.0 _ _ (λ f e. fault_of-ranges bytes _ _ _ _ _ f head c.in_ok-read_points.ensures.points e) c.in_err-read_ranges.ensures.fault)

-- bytes are left
pub returns-in_err-end-clause-fault : goal.returns-in_err-end-clause-fault
returns-in_err-end-clause-fault c =
    let p = err_from_is_err_and c.from_residual-in_err-end.result c.from_residual-in_err-end.ensures.1 in
    let bytes = c.args.bytes.now in
    let first = rest_of-first bytes c.new-reader.result c.new-reader.ensures.bytes c.new-reader.ensures.place in
    let head : IsHead bytes c.in_ok-points.points c.in_ok-points.ranges (rest_of c.head.new.self) = IsHead-read bytes _ _ _ _ first c.in_ok-points.ensures.reading in
    rw (p.1, p.2) (fault_of-end bytes _ _ _ _ _ _ _ head c.in_ok-read_points.ensures.points c.in_ok-read_ranges.ensures.ranges c.in_err-end.ensures.0
    ∙ ap (λ (f : RunFault). Err f) (sym c.in_err-end.ensures.1))

pub returns-clause-run : goal.returns-clause-run
returns-clause-run c =
    let bytes = c.args.bytes.now in
    let first = rest_of-first bytes c.new-reader.result c.new-reader.ensures.bytes c.new-reader.ensures.place in
    let head : IsHead bytes c.in_ok-points.points c.in_ok-points.ranges (rest_of c.head.new.self) = IsHead-read bytes _ _ _ _ first c.in_ok-points.ensures.reading in
    let same1 : c.head.new.self.bytes.now ≡ bytes = c.in_ok-points.ensures.same ∙ c.new-reader.ensures.bytes in
    let same2 : c.read_points.new.reader.bytes.now ≡ bytes = c.in_ok-read_points.ensures.same ∙ same1 in
    let points = sym c.in_ok-read_ranges.ensures.points in
    run_of-whole bytes _ _ _ _ _ _ _ head c.in_ok-read_points.ensures.points c.in_ok-read_ranges.ensures.ranges c.in_ok-end.ensures
    ∙ (λ i. Ok (record { points = points_in (same1 i) (points i); ranges = ranges_in (same2 i) c.read_ranges.new.index.ranges.items }))
