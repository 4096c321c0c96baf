use Rattle.std.proofs.Common.{◌≡◌, length, ap, arith}
use Rattle.merge_cursor.specs.Merged.{merged}
use Rattle.merge_cursor.proofs.MergeLaws.{lists-standings, over-aligned, over-place, over-encodable}
use Rattle.merge_cursor.proofs.merge.MergeCursor.over.Goals as goal

pub invariant_of-result : goal.invariant_of-result
invariant_of-result g c =
    let parts = c.args.parts.items in
    let long : c.len-current.result ≡ length parts = (let ok = c.args.parts.ok.0 in let is = c.len-current.ensures in omega arith) in
    record {
      aligned = over-aligned g.C.Cursor.points g.C.Cursor.place g.C.Cursor.is_part parts c.len-current.result long c.requires;
      encodable = over-encodable g.C.Cursor.points g.C.Cursor.place g.C.Cursor.is_part parts g.met.C.Cursor.encodable;
    }

pub returns-clause-points : goal.returns-clause-points
returns-clause-points g c = ap merged (lists-standings g.C.Cursor.points g.C.Cursor.place g.C.Cursor.is_part c.args.parts.items)

pub returns-clause-place : goal.returns-clause-place
returns-clause-place g c =
    let parts = c.args.parts.items in
    let long : c.len-current.result ≡ length parts = (let ok = c.args.parts.ok.0 in let is = c.len-current.ensures in omega arith) in
    over-place g.C.Cursor.points g.C.Cursor.place g.C.Cursor.is_part parts c.len-current.result long
