-- The newest committed version.
use Rattle.std.proofs.Common.{◌≡◌, true, sym, ap, ◌∙◌}
use Rattle.std.specs.Prelude.{◌&&◌}
use Rattle.std.specs.Option.{option_map}
use Rattle.mvcc_key.specs.Lists.{first}
use Rattle.mvcc_key.specs.Points.{point_at}
use Rattle.lsm_store.specs.Shown.{shown, fragments_in}
use Rattle.mvcc_cursor.specs.WellFormed.{history_in}
use Rattle.mvcc_cursor.specs.KeyPoints.{is_of_key, is_version, kept_if}
use Rattle.mvcc_cursor.specs.views.Lent.{lent_version, version_in}
use Rattle.mvcc_cursor.specs.views.Under.{key_under, place_in, place_under, point_under, has_record}
use Rattle.mvcc_cursor.proofs.BytesLaws.{record-IsName}
use Rattle.mvcc_cursor.proofs.SeenLaws.{absent}
use Rattle.mvcc_cursor.proofs.StoreLaws.{set-under, shown-rising, shown-set}
use Rattle.mvcc_cursor.proofs.VersionLaws.{stored-there, newest-behind, newest-first, none-committed}
use Rattle.mvcc_cursor.proofs.cursor.MvccCursor.newest_version.Goals as goal

pub returns-then-not-self : goal.returns-then-not-self
returns-then-not-self c =
    (let self = c.args.self.now in
    let store = self.places.store.now in
    sym (ap (λ vs. option_map lent_version (first vs)) (none-committed (history_in store) (shown store) (fragments_in store) self.well_formed (shown-set store) (place_in self.stand self.sought.items)
    (absent self.stored (place_in self.stand self.sought.items) (shown store) c.if-not-self.true self.found))))

pub key_of-key-requires : goal.key_of-key-requires
key_of-key-requires c = record-IsName c.args.self.now.sought.items c.as_slice.result.now c.args.self.now.named c.as_slice.ensures.value

pub version_here-requires : goal.version_here-requires
version_here-requires c = set-under c.args.self.now.places.committed

pub version_here-requires-else-self : goal.version_here-requires-else-self
version_here-requires-else-self c = set-under c.args.self.now.places.head

pub returns-then-self : goal.returns-then-self
returns-then-self c =
    (let self = c.args.self.now in
    let store = self.places.store.now in
    let has : has_record (place_in self.stand self.sought.items) (shown store) ≡ true = sym self.has ∙ c.if-self.true in
    let key = c.key_of-key.ensures ∙ ap key_under c.as_slice.ensures.value in
    c.version_here.ensures
    ∙ ap (λ k. option_map version_in (kept_if (λ p. is_of_key k p && is_version p) (point_under self.places.committed))) key
    ∙ ap (λ o. option_map version_in (kept_if (λ p. is_of_key (key_under self.sought.items) p && is_version p) o)) (self.committed c.if-self.true)
    ∙ newest-behind (history_in store) (shown store) (fragments_in store) self.well_formed (shown-set store) (shown-rising store) self.stand self.sought.items has)

pub returns-else-self : goal.returns-else-self
returns-else-self c =
    (let self = c.args.self.now in
    let store = self.places.store.now in
    let stored : self.stored ≡ true = c.if-not-self.false in
    let at = stored-there self.stand self.sought.items (shown store) self.stored self.found stored in
    let key = c.key_of-key.ensures ∙ ap key_under c.as_slice.ensures.value in
    c.version_here-else-self.ensures
    ∙ ap (λ k. option_map version_in (kept_if (λ p. is_of_key k p && is_version p) (point_under self.places.head))) key
    ∙ ap (λ l. option_map version_in (kept_if (λ p. is_of_key (key_under self.sought.items) p && is_version p) (point_at l (place_under self.places.head)))) self.places.head_over.0
    ∙ ap (λ n. option_map version_in (kept_if (λ p. is_of_key (key_under self.sought.items) p && is_version p) (point_at (shown store) n))) (self.stands at)
    ∙ newest-first (history_in store) (shown store) (fragments_in store) self.well_formed (shown-set store) (shown-rising store) self.stand self.sought.items self.stored stored (λ _. at) (sym self.has ∙ c.if-self.false))
