use Rattle.std.proofs.Common.{vec_len, sym, subst, ◌∙◌, arith}
use Rattle.std.proofs.lemmas.List.{length-map}
use Rattle.run_block.specs.Runs.{IsRun, IsRunOf}
use Rattle.run_block.specs.views.Places.{point_in, points_in}
use Rattle.run_block.proofs.BuildLaws.{run_of-with}
use Rattle.run_block.proofs.FormLaws.{bytes_are_read}
use Rattle.run_block.proofs.building.run_with.Goals as goal

pub new-requires-clause-run : goal.new-requires-clause-run
new-requires-clause-run c =
    let r = c.requires in
    let bytes = c.args.bytes.items in
    let places = c.args.index.points.items in
    let counts = length-map places (point_in bytes) in
    subst (IsRunOf c.put_ranges.new.out.items) (sym c.in_ok-put_ranges.ensures.run)
    (run_of-with bytes c.put_ranges.new.out.items (points_in bytes places) c.args.ranges.now (vec_len c.args.index.points) r.bytes (omega (arith, counts)) c.in_ok-put_ranges.ensures.items
    r.stored r.rising r.ranges (omega arith) (omega arith))

pub returns-clause-read : goal.returns-clause-read
returns-clause-read c =
    let r = c.requires in
    let bytes = c.args.bytes.items in
    let places = c.args.index.points.items in
    let counts = length-map places (point_in bytes) in
    bytes_are_read c.new.result (subst IsRun (sym (c.new.ensures ∙ c.in_ok-put_ranges.ensures.run))
    (run_of-with bytes c.put_ranges.new.out.items (points_in bytes places) c.args.ranges.now (vec_len c.args.index.points) r.bytes (omega (arith, counts)) c.in_ok-put_ranges.ensures.items
    r.stored r.rising r.ranges (omega arith) (omega arith)).run)
