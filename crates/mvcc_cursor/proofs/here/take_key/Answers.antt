-- The key of the point at which a cursor stands.
use Rattle.std.proofs.Common.{◌∙◌, arith}
use Rattle.mvcc_key.specs.views.SeenKey.{seen_name}
use Rattle.merge_cursor.proofs.HeadLaws.{head-IsName}
use Rattle.mvcc_cursor.proofs.HereLaws.{short-here, sought-here}
use Rattle.mvcc_cursor.proofs.here.take_key.Goals as goal

pub read_key-requires : goal.read_key-requires
read_key-requires g c = head-IsName (g.C.Cursor.points c.args.cursor.now) (g.C.Cursor.place c.args.cursor.now) c.in-Some.encoded.now (g.met.C.Cursor.encodable c.args.cursor.now) c.in-Some.ensures

pub name_record-requires : goal.name_record-requires
name_record-requires g c =
    (let short = short-here (g.C.Cursor.points c.args.cursor.now) (g.C.Cursor.place c.args.cursor.now) c.in-Some.encoded.now (g.met.C.Cursor.encodable c.args.cursor.now) c.in-Some.ensures (seen_name c.read_key.result) c.read_key.ensures c.requires.short in
    omega arith)

pub returns-in-Some-clause-items : goal.returns-in-Some-clause-items
returns-in-Some-clause-items g c =
    c.name_record.ensures.items
    ∙ sought-here (g.C.Cursor.points c.args.cursor.now) (g.C.Cursor.place c.args.cursor.now) c.in-Some.encoded.now (g.met.C.Cursor.encodable c.args.cursor.now) c.in-Some.ensures (seen_name c.read_key.result) c.read_key.ensures
