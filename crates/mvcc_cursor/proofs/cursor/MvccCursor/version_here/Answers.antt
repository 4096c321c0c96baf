-- The version at which it stands.
use Rattle.std.proofs.Common.{◌≡◌, sym, ap, ◌∙◌, cond}
use Rattle.std.specs.Prelude.{◌&&◌, None}
use Rattle.std.specs.Option.{option_map}
use Rattle.mvcc_key.specs.Points.{point_at}
use Rattle.lsm_store.specs.Shown.{shown}
use Rattle.mvcc_cursor.specs.KeyPoints.{is_of_key, is_version, kept_if}
use Rattle.mvcc_cursor.specs.views.Lent.{version_in}
use Rattle.mvcc_cursor.specs.views.Under.{points_under, place_under, key_under}
use Rattle.mvcc_cursor.proofs.BytesLaws.{record-IsName}
use Rattle.mvcc_cursor.proofs.StoreLaws.{set-under}
use Rattle.mvcc_cursor.proofs.cursor.MvccCursor.version_here.Goals as goal

pub key_of-requires : goal.key_of-requires
key_of-requires c = record-IsName c.args.self.now.sought.items c.as_slice.result.now c.args.self.now.named c.as_slice.ensures.value

pub version_here-requires : goal.version_here-requires
version_here-requires c = set-under c.args.self.now.places.versions

pub returns-then-self : goal.returns-then-self
returns-then-self c =
    (let self = c.args.self.now in
    let versions = self.places.versions in
    let key : c.key_of.result.now ≡ key_under self.sought.items = c.key_of.ensures ∙ ap key_under c.as_slice.ensures.value in
    c.version_here.ensures
    ∙ ap (λ k. option_map version_in (kept_if (λ p. is_of_key k p && is_version p) (point_at (points_under versions) (place_under versions)))) key
    ∙ ap (λ l. option_map version_in (kept_if (λ p. is_of_key (key_under self.sought.items) p && is_version p) (point_at l (place_under versions)))) self.places.versions_over.0
    ∙ ap (λ b. option_map version_in (cond b (kept_if (λ p. is_of_key (key_under self.sought.items) p && is_version p) (point_at (shown self.places.store.now) (place_under versions))) None)) (sym c.if-self.true))
