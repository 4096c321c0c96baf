-- The record of the key.
use Rattle.std.proofs.Common.{◌≡◌, true, sym, ap, ◌∙◌}
use Rattle.std.specs.Prelude.{Some, Ok}
use Rattle.std.specs.Option.{option_map}
use Rattle.intent_meta.specs.Record.{record_of}
use Rattle.intent_meta.specs.StoredPairs.{intent_record}
use Rattle.intent_meta.specs.views.Seen.{seen_intent}
use Rattle.lsm_store.specs.Shown.{shown, fragments_in}
use Rattle.mvcc_cursor.specs.WellFormed.{history_in}
use Rattle.mvcc_cursor.specs.views.Under.{place_in, place_under, points_under, has_record, before_key}
use Rattle.mvcc_cursor.proofs.StoreLaws.{shown-rising, shown-set}
use Rattle.mvcc_cursor.proofs.VersionLaws.{record-value, record-read, value-at, intent-at, told-none, ok-is}
use Rattle.mvcc_cursor.proofs.cursor.MvccCursor.meta.Goals as goal

pub read_record-requires : goal.read_record-requires
read_record-requires c =
    (let self = c.args.self.now in
    let store = self.places.store.now in
    let has : has_record (place_in self.stand self.sought.items) (shown store) ≡ true = sym self.has ∙ c.if-self.true in
    let there = record-value (history_in store) (shown store) (fragments_in store) self.well_formed (shown-set store) (shown-rising store) self.stand self.sought.items has in
    ok-is (record_of c.value_here.result.now) (intent_record there.0)
    (ap record_of (c.value_here.ensures ∙ value-at (shown store) (points_under self.places.head) (place_under self.places.head) (before_key self.sought.items (shown store)) _ self.places.head_over.0 (self.stands (intent-at self.stand self.sought.items (shown store) has)) there.2)
    ∙ record-read (history_in store) (shown store) (fragments_in store) self.well_formed (shown-set store) (shown-rising store) self.stand self.sought.items there.0 there.1))

pub returns-then-self : goal.returns-then-self
returns-then-self c =
    (let self = c.args.self.now in
    let store = self.places.store.now in
    let has : has_record (place_in self.stand self.sought.items) (shown store) ≡ true = sym self.has ∙ c.if-self.true in
    let there = record-value (history_in store) (shown store) (fragments_in store) self.well_formed (shown-set store) (shown-rising store) self.stand self.sought.items has in
    let read : record_of c.value_here.result.now ≡ Ok (intent_record there.0) =
    ap record_of (c.value_here.ensures ∙ value-at (shown store) (points_under self.places.head) (place_under self.places.head) (before_key self.sought.items (shown store)) _ self.places.head_over.0 (self.stands (intent-at self.stand self.sought.items (shown store) has)) there.2)
    ∙ record-read (history_in store) (shown store) (fragments_in store) self.well_formed (shown-set store) (shown-rising store) self.stand self.sought.items there.0 there.1 in
    let same : seen_intent c.read_record.result ≡ intent_record there.0 = (let e : Ok (seen_intent c.read_record.result) ≡ Ok (intent_record there.0) = sym c.read_record.ensures ∙ read in cc) in
    ap Some same ∙ sym (ap (option_map intent_record) there.1))

pub returns-else-self : goal.returns-else-self
returns-else-self c =
    (let self = c.args.self.now in
    let store = self.places.store.now in
    sym (ap (option_map intent_record) (told-none (history_in store) (shown store) (fragments_in store) self.well_formed (shown-set store) self.stand self.sought.items (sym self.has ∙ c.if-self.false))))
