-- The value of the provisional version.
use Rattle.std.proofs.Common.{ap, ◌∙◌}
use Rattle.std.specs.Option.{option_and_then}
use Rattle.mvcc_key.specs.Points.{Point}
use Rattle.lsm_store.specs.Shown.{shown, fragments_in}
use Rattle.mvcc_cursor.specs.WellFormed.{history_in}
use Rattle.mvcc_cursor.specs.views.Lent.{bytes_in}
use Rattle.mvcc_cursor.proofs.StoreLaws.{shown-rising, shown-set}
use Rattle.mvcc_cursor.proofs.VersionLaws.{provisional-value, told-record}
use Rattle.mvcc_cursor.proofs.cursor.MvccCursor.provisional_value.Goals as goal

pub returns : goal.returns
returns c =
    λ i is.
    (let self = c.args.self.now in
    let store = self.places.store.now in
    let has = told-record (history_in store) (shown store) (fragments_in store) self.well_formed (shown-set store) self.stand self.sought.items i is in
    c.value_here.ensures
    ∙ ap (λ o. bytes_in (option_and_then (λ (q : Point). q.value) o)) (self.provisional (self.has ∙ has)
    ∙ provisional-value (history_in store) (shown store) (fragments_in store) self.well_formed (shown-set store) (shown-rising store) self.stand self.sought.items i is))
