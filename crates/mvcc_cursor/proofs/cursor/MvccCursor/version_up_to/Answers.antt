-- The newest committed version up to a timestamp.
use Rattle.std.proofs.Common.{sym, ap, ◌∙◌}
use Rattle.std.specs.Prelude.{Some}
use Rattle.std.specs.Option.{option_map}
use Rattle.std.specs.Ordering.{is_le}
use Rattle.mvcc_key.specs.views.Seen.{time_of}
use Rattle.lsm_store.specs.Shown.{shown, fragments_in}
use Rattle.mvcc_cursor.specs.WellFormed.{history_in}
use Rattle.mvcc_cursor.specs.Standing.{committed_at}
use Rattle.mvcc_cursor.specs.views.Lent.{item_in, seen_version}
use Rattle.mvcc_cursor.specs.views.Under.{place_in, place_under}
use Rattle.mvcc_cursor.proofs.StoreLaws.{shown-rising, shown-set}
use Rattle.mvcc_cursor.proofs.VersionLaws.{stored-at, sought-item, up_to-newest, up_to-no_time}
use Rattle.mvcc_cursor.proofs.cursor.MvccCursor.version_up_to.Goals as goal

pub returns-then-is_le : goal.returns-then-is_le
returns-then-is_le c =
    (let self = c.args.self.now in
    let store = self.places.store.now in
    let at = place_in self.stand self.sought.items in
    ap Some c.item.ensures
    ∙ up_to-newest (time_of c.args.ts) (committed_at at (history_in store)) (stored-at (history_in store) (shown store) (fragments_in store) self.well_formed (shown-set store) at) (seen_version c.in_ok-newest.newest) c.in_ok-newest.ensures
    (sym (c.is_le.ensures ∙ ap is_le c.compare.ensures) ∙ c.if-is_le.true))

pub returns-then-is_none : goal.returns-then-is_none
returns-then-is_none c =
    (let self = c.args.self.now in
    let store = self.places.store.now in
    let at = place_in self.stand self.sought.items in
    up_to-no_time (time_of c.args.ts) (committed_at at (history_in store)) (stored-at (history_in store) (shown store) (fragments_in store) self.well_formed (shown-set store) at) (sym c.is_none.ensures ∙ c.if-is_none.true))

pub returns-in-Some : goal.returns-in-Some
returns-in-Some c =
    (let self = c.args.self.now in
    let store = self.places.store.now in
    ap Some c.item-in-Some.ensures
    ∙ ap (option_map item_in) c.in-Some.ensures
    ∙ sought-item (history_in store) (shown store) (fragments_in store) self.well_formed (shown-set store) (shown-rising store) self.stand self.sought.items self.stored (place_under self.places.versions) (time_of c.args.ts) (seen_version c.in_ok-newest.newest)
    self.found c.in_ok-newest.ensures (sym (c.is_le.ensures ∙ ap is_le c.compare.ensures) ∙ c.if-is_le.false) (sym c.is_none.ensures ∙ c.if-is_none.false) c.requires)

pub returns-in-None : goal.returns-in-None
returns-in-None c =
    (let self = c.args.self.now in
    let store = self.places.store.now in
    ap (option_map item_in) c.in-None.ensures
    ∙ sought-item (history_in store) (shown store) (fragments_in store) self.well_formed (shown-set store) (shown-rising store) self.stand self.sought.items self.stored (place_under self.places.versions) (time_of c.args.ts) (seen_version c.in_ok-newest.newest)
    self.found c.in_ok-newest.ensures (sym (c.is_le.ensures ∙ ap is_le c.compare.ensures) ∙ c.if-is_le.false) (sym c.is_none.ensures ∙ c.if-is_none.false) c.requires)
