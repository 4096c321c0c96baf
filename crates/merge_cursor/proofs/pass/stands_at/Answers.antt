use Rattle.merge_cursor.proofs.HeadLaws.{is_at-bytes}
use Rattle.merge_cursor.proofs.pass.stands_at.Goals as goal

pub returns-in-Some : goal.returns-in-Some
returns-in-Some g c =
    let part = c.args.part.now in
    is_at-bytes (g.C.Cursor.points part) (g.C.Cursor.place part) c.args.key.now c.in-Some.other.now c.eq.result (g.met.C.Cursor.encodable part) c.requires c.in-Some.ensures c.eq.ensures
