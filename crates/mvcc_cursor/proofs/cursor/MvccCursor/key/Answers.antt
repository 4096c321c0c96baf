-- The key at which it stands.
use Rattle.std.proofs.Common.{ap, ◌∙◌}
use Rattle.lsm_store.specs.Shown.{shown}
use Rattle.mvcc_cursor.specs.views.Under.{key_under, place_in}
use Rattle.mvcc_cursor.proofs.SeenLaws.{key-here, key-none}
use Rattle.mvcc_cursor.proofs.BytesLaws.{record-IsName}
use Rattle.mvcc_cursor.proofs.cursor.MvccCursor.key.Goals as goal

pub key_of-requires : goal.key_of-requires
key_of-requires c = record-IsName c.args.self.now.sought.items c.as_slice.result.now c.args.self.now.named c.as_slice.ensures.value

pub returns-then-self : goal.returns-then-self
returns-then-self c =
    (let self = c.args.self.now in
    key-here self.stand self.stored self.sought.items (shown self.places.store.now) c.if-self.true self.found c.key_of.result.now (c.key_of.ensures ∙ ap key_under c.as_slice.ensures.value))

pub returns-else-self : goal.returns-else-self
returns-else-self c =
    (let self = c.args.self.now in
    key-none self.stored (place_in self.stand self.sought.items) (shown self.places.store.now) c.if-self.false self.found)
