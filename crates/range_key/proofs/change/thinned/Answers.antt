use Rattle.std.proofs.Common.{◌∙◌}
use Rattle.mvcc_key.specs.Fragments.{cut_to}
use Rattle.mvcc_key.specs.Pieces.{cut_below, cut_from, thinned}
use Rattle.range_key.specs.views.Taken.{is_taken}
use Rattle.range_key.proofs.JoiningLaws.{three-parts}
use Rattle.range_key.proofs.change.thinned.Goals as goal

pub returns : goal.returns
returns c =
    let start = c.args.start.now in
    let end = c.args.end.now in
    let touched = c.args.touched.now in
    c.into_vec.ensures
    ∙ three-parts c.new-pieces.result c.push_below.new.self c.thin.new.pieces c.push_from.new.self
    (cut_below start touched) (thinned (is_taken c.args.taken) (cut_to start end touched)) (cut_from end touched)
    c.new-pieces.ensures c.in_ok-push_below.ensures c.in_ok-thin.ensures c.in_ok-push_from.ensures
