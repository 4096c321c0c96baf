-- The newest committed version as an item.
use Rattle.std.proofs.Common.{ap, ◌∙◌}
use Rattle.std.specs.Prelude.{Some}
use Rattle.lsm_store.specs.Shown.{shown, fragments_in}
use Rattle.mvcc_cursor.specs.WellFormed.{history_in}
use Rattle.mvcc_cursor.specs.Standing.{committed_at}
use Rattle.mvcc_cursor.specs.views.Lent.{seen_version}
use Rattle.mvcc_cursor.specs.views.Under.{place_in}
use Rattle.mvcc_cursor.proofs.StoreLaws.{shown-set}
use Rattle.mvcc_cursor.proofs.VersionLaws.{stored-at, first-item}
use Rattle.mvcc_cursor.proofs.cursor.MvccCursor.newest_committed.Goals as goal

pub returns-in-Some : goal.returns-in-Some
returns-in-Some c =
    (let self = c.args.self.now in
    let store = self.places.store.now in
    let at = place_in self.stand self.sought.items in
    ap Some c.item.ensures
    ∙ first-item (committed_at at (history_in store)) (stored-at (history_in store) (shown store) (fragments_in store) self.well_formed (shown-set store) at) (Some (seen_version c.in-Some.version)) c.in-Some.ensures)
