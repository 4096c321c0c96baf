-- What holds of each key of a valid history.
use Rattle.std.proofs.Common.{◌≡◌, List, ◌++◌, Option, Some, None, refl}
use Rattle.std.specs.Prelude.{map, IfSome}
use Rattle.std.specs.List.{AllByRecursion}
use Rattle.mvcc_key.specs.Order.{Timestamp, Key, is_same_key}
use Rattle.mvcc_key.specs.History.{Body, Version, Entry, Intent, History, versions_of, intent_of}
use Rattle.mvcc_key.specs.Items.{item_cmp, version_item, tombstone_item, tombstones_over, items}
use Rattle.mvcc_key.proofs.EachLaws.{All-in_order, All-append, All-map, All-every, All-filter, All-weaker}
use Rattle.mvcc_key.proofs.HistoryLaws.{intent_of-key}
use Rattle.mvcc_key.proofs.ItemLaws.{items-sorted}
use Rattle.mvcc_value.specs.Encoding.{IsEncodable}
use Rattle.intent_meta.specs.Valid.{IsStoredVersion, IsStoredEntry, IsStoredIntent, IsValid}
use Rattle.intent_meta.specs.views.WholeKeys.{IsWholeItem, IsWholeIntent, KeysAreWhole}
use Rattle.intent_meta.proofs.ChangedLaws.{intent_of-stored}
use Rattle.intent_meta.proofs.ReadBackLaws.{IsEncodable-stored}

whole_version : (v : Version) → IsStoredVersion v → IsWholeItem (version_item v)
whole_version v h = record { local = h.local; body = IsEncodable-stored v.body h.body }

whole_items : (h : History) (key : Key) → IsValid h → AllByRecursion IsWholeItem (items h key)
unfolding items
whole_items h key valid =
    let versions = All-filter IsStoredVersion (λ v. is_same_key v.key key) h.versions valid.versions in
    let times : List Timestamp = tombstones_over h.tombstones key in
    All-in_order item_cmp IsWholeItem (map version_item (versions_of key h) ++ map tombstone_item times) (
    All-append IsWholeItem (map version_item (versions_of key h)) (map tombstone_item times)
    (All-map IsWholeItem version_item (versions_of key h) (All-weaker IsStoredVersion (λ v. IsWholeItem (version_item v)) (versions_of key h) whole_version versions))
    (All-map IsWholeItem tombstone_item times (All-every (λ t. IsWholeItem (tombstone_item t)) times (λ t. record { local = refl; body = tt })))
    )

whole_intent : (h : History) (key : Key) → IsValid h → (o : Option Intent) → intent_of key h ≡ o → IfSome o (IsWholeIntent key)
whole_intent h key valid None is = tt
whole_intent h key valid (Some i) is =
    let stored : IsStoredIntent h i = intent_of-stored key h i valid is in
    record {
      key_is = intent_of-key key h i is;
      local = stored.local;
      some_entry = stored.some_entry;
      bodies = All-weaker IsStoredEntry (λ (e : Entry Body). IsEncodable e.value) i.entries (λ e s. IsEncodable-stored e.value s.body) stored.entries;
    }

pub keys_are_whole : KeysAreWhole
keys_are_whole h key valid = record {
  in_order = items-sorted h key;
  items = whole_items h key valid;
  intent = whole_intent h key valid (intent_of key h) refl;
}
