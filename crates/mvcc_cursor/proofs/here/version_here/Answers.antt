-- A version of a key.
use Rattle.std.proofs.Common.{sym, ◌∙◌, true, false}
use Rattle.mvcc_key.specs.views.SeenKey.{seen_name}
use Rattle.merge_cursor.proofs.HeadLaws.{head-IsName}
use Rattle.mvcc_cursor.proofs.HereLaws.{set-here, version-here}
use Rattle.mvcc_cursor.proofs.here.version_here.Goals as goal

pub returns-in_err-value : goal.returns-in_err-value
returns-in_err-value g c =
    absurd (set-here (g.C.Cursor.points c.args.cursor.now) (g.C.Cursor.place c.args.cursor.now) c.in_ok-encoded.encoded.now (g.met.C.Cursor.encodable c.args.cursor.now) c.requires c.in_ok-encoded.ensures c.in_err-value.ensures)

pub read_key-name-requires : goal.read_key-name-requires
read_key-name-requires g c = head-IsName (g.C.Cursor.points c.args.cursor.now) (g.C.Cursor.place c.args.cursor.now) c.in_ok-encoded.encoded.now (g.met.C.Cursor.encodable c.args.cursor.now) c.in_ok-encoded.ensures

pub returns-then-is_version_of : goal.returns-then-is_version_of
returns-then-is_version_of g c =
    sym (version-here (g.C.Cursor.points c.args.cursor.now) (g.C.Cursor.place c.args.cursor.now) c.in_ok-encoded.encoded.now c.in_ok-value.value.now (g.met.C.Cursor.encodable c.args.cursor.now) c.in_ok-encoded.ensures c.in_ok-value.ensures
    c.args.key.now (seen_name c.read_key-name.result) c.read_key-name.ensures true (sym c.if-is_version_of.true ∙ c.is_version_of.ensures))

pub returns-else-is_version_of : goal.returns-else-is_version_of
returns-else-is_version_of g c =
    sym (version-here (g.C.Cursor.points c.args.cursor.now) (g.C.Cursor.place c.args.cursor.now) c.in_ok-encoded.encoded.now c.in_ok-value.value.now (g.met.C.Cursor.encodable c.args.cursor.now) c.in_ok-encoded.ensures c.in_ok-value.ensures
    c.args.key.now (seen_name c.read_key-name.result) c.read_key-name.ensures false (sym c.if-is_version_of.false ∙ c.is_version_of.ensures))
