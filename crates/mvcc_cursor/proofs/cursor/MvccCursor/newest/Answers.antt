-- The newest item.
use Rattle.std.proofs.Common.{List, true, sym, ap, ◌∙◌}
use Rattle.std.specs.Prelude.{find, map}
use Rattle.std.specs.Option.{option_map}
use Rattle.mvcc_key.specs.Lists.{first}
use Rattle.mvcc_key.specs.Items.{version_item, tombstone_item}
use Rattle.mvcc_key.specs.Order.{Timestamp}
use Rattle.mvcc_key.specs.views.Seen.{time_of}
use Rattle.intent_meta.specs.views.Lent.{lent_item, seen_item}
use Rattle.lsm_store.specs.Shown.{shown, fragments_in}
use Rattle.mvcc_cursor.specs.WellFormed.{history_in}
use Rattle.mvcc_cursor.specs.Standing.{committed_at, stack_over, told_at}
use Rattle.mvcc_cursor.specs.views.Newer.{newer_item}
use Rattle.mvcc_cursor.specs.views.Under.{place_in}
use Rattle.mvcc_cursor.proofs.TimeLaws.{first-time}
use Rattle.mvcc_cursor.proofs.ItemLaws.{items-found, newer-lent, find-tombstones, lent-tombstone, first-any}
use Rattle.mvcc_cursor.proofs.cursor.MvccCursor.newest.Goals as goal

pub returns : goal.returns
returns c =
    (let self = c.args.self.now in
    let store = self.places.store.now in
    let at = place_in self.stand self.sought.items in
    let committed = committed_at at (history_in store) in
    let stack = stack_over at (fragments_in store) in
    c.newer.ensures
    ∙ ap (λ a. newer_item a (option_map seen_item c.tombstone.result)) (c.newest_committed.ensures ∙ ap (option_map lent_item) (first-any (map version_item committed)))
    ∙ ap (newer_item (option_map lent_item (find (λ _. true) (map version_item committed))))
    (c.tombstone.ensures
    ∙ ap (option_map (λ t. lent_item (tombstone_item t)))
    (ap (option_map time_of) (c.copied.ensures ∙ c.first.ensures.value) ∙ first-time c.stack_here.result.now ∙ ap (λ (l : List Timestamp). first l) c.stack_here.ensures.value ∙ first-any stack)
    ∙ sym (lent-tombstone (find (λ _. true) stack))
    ∙ ap (option_map lent_item) (sym (find-tombstones (λ _. true) stack)))
    ∙ sym (newer-lent (find (λ _. true) (map version_item committed)) (find (λ _. true) (map tombstone_item stack)))
    ∙ ap (option_map lent_item) (sym (first-any (told_at at (history_in store)).items ∙ items-found (history_in store) (shown store) (fragments_in store) self.well_formed at (λ _. true))))
