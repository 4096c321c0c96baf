use Rattle.std.proofs.Common.{List, ℕ, length, sym, subst, refl, arith}
use Rattle.std.proofs.lemmas.Option.{slice_get_read}
use Rattle.std.proofs.lemmas.List.{length-map}
use Rattle.mvcc_key.specs.Encoded.{name_in, IsName}
use Rattle.mvcc_key.specs.views.AbbreviatedKey.{IsAbbreviatedKey}
use Rattle.mvcc_key.specs.views.SeenPoint.{point_of}
use Rattle.mvcc_key.proofs.SeenPointLaws.{points_of-at}
use Rattle.merge_cursor.proofs.tests.listed.ListedSortedPairs.abbreviated_key.Goals as goal

pub abbreviated_key-requires : goal.abbreviated_key-requires
abbreviated_key-requires c =
    let ops = c.args.self.now.held.items in
    let at = slice_get_read ops (length ops) c.args.index c.index.result.now refl (omega (arith, length-map ops point_of)) c.index.ensures in
    subst IsName (sym c.as_slice.ensures) (c.args.self.now.named c.args.index c.index.result.now at)

pub returns : goal.returns
returns c =
    let ops = c.args.self.now.held.items in
    let at = slice_get_read ops (length ops) c.args.index c.index.result.now refl (omega (arith, length-map ops point_of)) c.index.ensures in
    rw (points_of-at ops c.args.index c.index.result.now at)
    (subst (λ (key : List ℕ). IsAbbreviatedKey (name_in key).key c.abbreviated_key.result) c.as_slice.ensures c.abbreviated_key.ensures)
