-- The stack is in order.
use Rattle.lsm_store.specs.Shown.{shown, fragments_in}
use Rattle.mvcc_cursor.specs.WellFormed.{history_in}
use Rattle.mvcc_cursor.specs.views.Under.{place_in}
use Rattle.mvcc_cursor.proofs.ItemLaws.{stack-sorted}
use Rattle.mvcc_cursor.proofs.cursor.MvccCursor.stack_here.Goals as goal

pub returns-clause-descending : goal.returns-clause-descending
returns-clause-descending c =
    (let self = c.args.self.now in
    let store = self.places.store.now in
    stack-sorted (history_in store) (shown store) (fragments_in store) self.well_formed (place_in self.stand self.sought.items))
