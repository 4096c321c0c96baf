use Rattle.std.proofs.Common.{List, length, vec_len, sym, ap, subst, ◌∙◌}
use Rattle.std.specs.Prelude.{All}
use Rattle.std.proofs.lemmas.Result.{IfOk-weaker}
use Rattle.mvcc_key.specs.Points.{Point, IsRising}
use Rattle.mvcc_key.specs.Batches.{IsStoredPoint}
use Rattle.mvcc_key.specs.views.SeenRange.{range_ops_of}
use Rattle.run_block.proofs.HeadLaws.{points-counted}
use Rattle.run_block.proofs.collecting.collect.Goals as goal

pub run_with-requires : goal.run_with-requires
run_with-requires g c =
    let counted = points-counted c.in_ok-bytes.bytes.items c.put_head.new.out.items c.add_shown.new.out.items c.set_point_count.new.out.items c.add_shown.new.index c.len.result
    (vec_len c.add_shown.new.index.points) (length c.args.ranges.now) (g.C.Cursor.points c.args.cursor.now) c.in_ok-bytes.ensures.items c.in_ok-put_head.ensures
    c.in_ok-add_shown.ensures.items c.in_ok-add_shown.ensures.points c.in_ok-add_shown.ensures.index c.in_ok-add_shown.ensures.behind c.in_ok-add_shown.ensures.ranges
    c.len.ensures c.set_point_count.ensures in
    record {
      bytes = counted.items;
      index = counted.index_is;
      no_ranges = c.in_ok-add_shown.ensures.ranges;
      stored = subst (All IsStoredPoint) (sym counted.points_are) c.requires.stored;
      rising = subst IsRising (sym counted.points_are) (g.met.C.Cursor.rising c.args.cursor.now);
      ranges = c.requires.ranges;
    }

pub returns-clause-run : goal.returns-clause-run
returns-clause-run g c =
    let same = (points-counted c.in_ok-bytes.bytes.items c.put_head.new.out.items c.add_shown.new.out.items c.set_point_count.new.out.items c.add_shown.new.index c.len.result
    (vec_len c.add_shown.new.index.points) (length c.args.ranges.now) (g.C.Cursor.points c.args.cursor.now) c.in_ok-bytes.ensures.items c.in_ok-put_head.ensures
    c.in_ok-add_shown.ensures.items c.in_ok-add_shown.ensures.points c.in_ok-add_shown.ensures.index c.in_ok-add_shown.ensures.behind c.in_ok-add_shown.ensures.ranges
    c.len.ensures c.set_point_count.ensures).points_are in
    IfOk-weaker c.run_with.result _ _ (λ run h. h ∙ ap (λ (ps : List Point). record { points = ps; ranges = range_ops_of c.args.ranges.now }) same) c.run_with.ensures.run
