-- The place of a version up to a timestamp.
use Rattle.std.proofs.Common.{◌+◌, ◌≤◌, sym, ap, subst, ◌∙◌}
use Rattle.mvcc_key.specs.Order.{Key}
use Rattle.mvcc_key.specs.Points.{count_below}
use Rattle.mvcc_key.specs.views.Seen.{time_of}
use Rattle.lsm_store.specs.Shown.{shown, fragments_in}
use Rattle.mvcc_cursor.specs.WellFormed.{history_in}
use Rattle.mvcc_cursor.specs.Standing.{Standing, one_seek, entries_of}
use Rattle.mvcc_cursor.specs.views.Under.{key_under, place_in, place_under, version_under}
use Rattle.mvcc_cursor.proofs.LookLaws.{version-bound}
use Rattle.mvcc_cursor.proofs.StoreLaws.{shown-rising, shown-set}
use Rattle.mvcc_cursor.proofs.VersionLaws.{key-known, seeks-some, seeks-timed, stored-by}
use Rattle.mvcc_cursor.proofs.cursor.MvccCursor.seek_up_to.Goals as goal

pub seek_version-requires : goal.seek_version-requires
seek_version-requires g c = seeks-timed (time_of c.args.ts) _ (sym c.seeks_below.ensures ∙ c.if-seeks_below.true)

pub returns-then-seeks_below-clause-sought : goal.returns-then-seeks_below-clause-sought
returns-then-seeks_below-clause-sought g c =
    λ h.
    (let self = c.args.self.now in
    let store = self.places.store.now in
    c.seek_version.ensures.sought (c.seek_version.ensures.same_stored ∙ stored-by (history_in store) (shown store) (fragments_in store) self.well_formed (shown-set store) (place_in self.stand self.sought.items) self.stored self.found (seeks-some (time_of c.args.ts) _ h)))

pub returns-then-seeks_below-clause-looks : goal.returns-then-seeks_below-clause-looks
returns-then-seeks_below-clause-looks g c =
    λ key is.
    (let self = c.args.self.now in
    let store = self.places.store.now in
    let ts = time_of c.args.ts in
    let h = sym c.seeks_below.ensures ∙ c.if-seeks_below.true in
    let stored = c.seek_version.ensures.same_stored ∙ stored-by (history_in store) (shown store) (fragments_in store) self.well_formed (shown-set store) (place_in self.stand self.sought.items) self.stored self.found (seeks-some ts _ h) in
    subst (λ (k : Key). c.seek_version.new.looks ≤ c.args.looks.now + one_seek store + entries_of k store) (key-known self.stand self.sought.items key is)
    (version-bound store (key_under self.sought.items) ts (place_under c.seek_version.new.self.places.versions) c.args.looks.now c.seek_version.new.looks (shown-rising store)
    (c.seek_version.ensures.sought stored ∙ ap (λ l. count_below (version_under l ts) (shown c.seek_version.new.self.places.store.now) + 1) c.seek_version.ensures.same_sought
    ∙ ap (λ (q : Standing). count_below (version_under self.sought.items ts) (shown q.store) + 1) c.seek_version.ensures.anew)
    (c.seek_version.ensures.gone stored)))
