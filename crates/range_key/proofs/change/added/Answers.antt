use Rattle.std.proofs.Common.{◌∙◌}
use Rattle.mvcc_key.specs.Fragments.{cut_to}
use Rattle.mvcc_key.specs.Pieces.{cut_below, cut_from, laid_over}
use Rattle.mvcc_key.specs.views.Seen.{time_of}
use Rattle.range_key.proofs.JoiningLaws.{three-parts}
use Rattle.range_key.proofs.change.added.Goals as goal

pub returns : goal.returns
returns c =
    let start = c.args.start.now in
    let end = c.args.end.now in
    let touched = c.args.touched.now in
    c.into_vec.ensures
    ∙ three-parts c.new-pieces.result c.push_below.new.self c.lay_over.new.pieces c.push_from.new.self
    (cut_below start touched) (laid_over start end (time_of c.args.ts) (cut_to start end touched)) (cut_from end touched)
    c.new-pieces.ensures c.in_ok-push_below.ensures c.in_ok-lay_over.ensures c.in_ok-push_from.ensures
