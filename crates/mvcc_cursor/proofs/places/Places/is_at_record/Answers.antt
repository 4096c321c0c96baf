-- The head at the record of a key.
use Rattle.std.proofs.Common.{refl, ap, sym, ◌∙◌}
use Rattle.std.specs.Prelude.{◌&&◌, is_some}
use Rattle.mvcc_key.specs.Order.{is_no_time}
use Rattle.mvcc_key.specs.Points.{point_at}
use Rattle.lsm_store.specs.Shown.{shown}
use Rattle.mvcc_cursor.specs.KeyPoints.{is_of_key, kept_if}
use Rattle.mvcc_cursor.specs.Standing.{AtKey}
use Rattle.mvcc_cursor.specs.views.Under.{has_record, key_under, place_under, points_under}
use Rattle.mvcc_cursor.proofs.BytesLaws.{record-IsName}
use Rattle.mvcc_cursor.proofs.KeyLaws.{record-here}
use Rattle.mvcc_cursor.proofs.StoreLaws.{shown-rising}
use Rattle.mvcc_cursor.proofs.places.Places.is_at_record.Goals as goal

pub key_of-requires : goal.key_of-requires
key_of-requires c = record-IsName c.args.name.now c.args.name.now c.requires.named refl

pub returns-then-is_there : goal.returns-then-is_there
returns-then-is_there c =
    let self = c.args.self.now in
    let points = shown self.store.now in
    record-here (key_under c.args.name.now) points (points_under self.head) (shown-rising self.store.now) (place_under self.head) (c.requires.stands c.if-is_there.true) self.head_over.0
    c.is_at_record.result
    (c.is_at_record.ensures ∙ ap (λ k. is_some (kept_if (λ p. is_of_key k p && is_no_time p.name.ts) (point_at (points_under self.head) (place_under self.head)))) c.key_of.ensures)
    ∙ ap (λ b. b && has_record (AtKey (key_under c.args.name.now)) points) (sym c.if-is_there.true)
