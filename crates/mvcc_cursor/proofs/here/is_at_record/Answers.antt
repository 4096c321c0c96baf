-- The point at which a cursor stands, as the record of a key.
use Rattle.std.proofs.Common.{sym, ap, ◌∙◌}
use Rattle.std.specs.Prelude.{◌&&◌}
use Rattle.mvcc_key.specs.Order.{Name, is_no_time, is_same_key}
use Rattle.mvcc_key.specs.views.SeenKey.{seen_name}
use Rattle.merge_cursor.proofs.HeadLaws.{head-IsName}
use Rattle.mvcc_cursor.specs.KeyPoints.{is_of_key}
use Rattle.mvcc_cursor.proofs.HereLaws.{tested}
use Rattle.mvcc_cursor.proofs.here.is_at_record.Goals as goal

pub read_key-requires : goal.read_key-requires
read_key-requires g c = head-IsName (g.C.Cursor.points c.args.cursor.now) (g.C.Cursor.place c.args.cursor.now) c.in-Some.encoded.now (g.met.C.Cursor.encodable c.args.cursor.now) c.in-Some.ensures

pub returns-in-Some : goal.returns-in-Some
returns-in-Some g c =
    tested (λ p. is_of_key c.args.key.now p && is_no_time p.name.ts) (g.C.Cursor.points c.args.cursor.now) (g.C.Cursor.place c.args.cursor.now) c.in-Some.encoded.now (g.met.C.Cursor.encodable c.args.cursor.now) c.in-Some.ensures
    (seen_name c.read_key.result) c.read_key.ensures c.is_record_of.result (λ p is. ap (λ (n : Name). is_same_key n.key c.args.key.now && is_no_time n.ts) is ∙ sym c.is_record_of.ensures)
