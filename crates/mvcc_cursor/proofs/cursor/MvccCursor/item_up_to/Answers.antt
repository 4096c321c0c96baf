-- The newest item up to a timestamp.
use Rattle.std.proofs.Common.{List, sym, ap, ◌∙◌}
use Rattle.std.specs.Prelude.{find, map}
use Rattle.std.specs.Option.{option_map}
use Rattle.mvcc_key.specs.Items.{version_item, tombstone_item}
use Rattle.mvcc_key.specs.Order.{Timestamp, is_up_to}
use Rattle.mvcc_key.specs.views.Seen.{time_of}
use Rattle.intent_meta.specs.views.Lent.{lent_item, seen_item}
use Rattle.lsm_store.specs.Shown.{shown, fragments_in}
use Rattle.mvcc_cursor.specs.WellFormed.{history_in}
use Rattle.mvcc_cursor.specs.Standing.{committed_at, stack_over}
use Rattle.mvcc_cursor.specs.views.Newer.{newer_item}
use Rattle.mvcc_cursor.specs.views.Under.{place_in}
use Rattle.mvcc_cursor.proofs.ItemLaws.{items-found, newer-lent, find-tombstones, lent-tombstone}
use Rattle.mvcc_cursor.proofs.cursor.MvccCursor.item_up_to.Goals as goal

pub returns : goal.returns
returns c =
    (let self = c.args.self.now in
    let store = self.places.store.now in
    let at = place_in self.stand self.sought.items in
    let ts = time_of c.args.ts in
    let committed = committed_at at (history_in store) in
    let stack = stack_over at (fragments_in store) in
    c.newer.ensures
    ∙ ap (λ a. newer_item a (option_map seen_item c.tombstone.result)) c.version_up_to.ensures
    ∙ ap (newer_item (option_map lent_item (find (λ i. is_up_to i.ts ts) (map version_item committed))))
    (c.tombstone.ensures
    ∙ ap (option_map (λ t. lent_item (tombstone_item t))) (c.time_up_to.ensures ∙ ap (λ (l : List Timestamp). find (λ t. is_up_to t ts) l) c.stack_here.ensures.value)
    ∙ sym (lent-tombstone (find (λ t. is_up_to t ts) stack))
    ∙ ap (option_map lent_item) (sym (find-tombstones (λ i. is_up_to i.ts ts) stack)))
    ∙ sym (newer-lent (find (λ i. is_up_to i.ts ts) (map version_item committed)) (find (λ i. is_up_to i.ts ts) (map tombstone_item stack)))
    ∙ ap (option_map lent_item) (sym (items-found (history_in store) (shown store) (fragments_in store) self.well_formed at (λ i. is_up_to i.ts ts))))
