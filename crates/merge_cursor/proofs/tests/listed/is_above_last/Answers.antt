use Rattle.std.proofs.Common.{◌-◌, length, refl, sym, subst, arith}
use Rattle.std.proofs.lemmas.Option.{slice_get_read}
use Rattle.mvcc_key.specs.Encoded.{IsName}
use Rattle.merge_cursor.proofs.tests.listed.is_above_last.Goals as goal

pub cmp_encoded-requires-clause-left : goal.cmp_encoded-requires-clause-left
cmp_encoded-requires-clause-left c =
    let held = c.args.held.now in
    let last = c.in-Some.last.now in
    let item = c.in-Some.ensures.item in
    let some = item.0 in
    let at = slice_get_read held (length held) (length held - 1) last refl (omega arith) item.1 in
    subst IsName (sym c.as_slice.ensures) (c.requires.held (length held - 1) last at)
