-- That a history's being that of points and fragments is one fact.
use Rattle.std.proofs.Common.{◌≡◌, ◌<◌, ◌≤◌, length, List}
use Rattle.std.proofs.Props.{props}
use Rattle.std.specs.Prelude.{IsTrue}
use Rattle.std.specs.List.{AllByRecursion-prop}
use Rattle.std.proofs.lemmas.Map.Keys.{IsStrictlySortedBy-prop}
use Rattle.mvcc_key.specs.Order.{is_before}
use Rattle.mvcc_key.specs.Limits.{max_count, max_stored_length}
use Rattle.mvcc_key.specs.History.{Body, Deletion, Bytes, Int, Version, version_cmp, Entry, Intent, intent_cmp, RangeTombstone, History}
use Rattle.mvcc_key.specs.Items.{Item, items}
use Rattle.mvcc_key.specs.Points.{Point}
use Rattle.mvcc_key.specs.Fragments.{Fragment, fragments}
use Rattle.intent_meta.specs.Record.{record_bytes}
use Rattle.intent_meta.specs.StoredPairs.{stored_pairs, intent_record}
use Rattle.intent_meta.specs.Valid.{IsStoredTime, IsKeptLocal, IsStoredBody, IsStoredKey, IsStoredVersion, IsStoredTombstone, IsStoredEntry, sequence_cmp, IsStoredIntent, HasOwnTime, IsValid}
use Rattle.lsm_store.specs.Shown.{pairs_of}
use Rattle.mvcc_cursor.specs.WellFormed.{IsOfHistory}

IsStoredBody-prop : (b : Body) → IsProp (IsStoredBody b)
IsStoredBody-prop Deletion = Prim.hlevel props
IsStoredBody-prop (Bytes bytes) = Prim.hlevel props
IsStoredBody-prop (Int number) = Prim.hlevel props

IsStoredVersion-prop : (v : Version) → IsProp (IsStoredVersion v)
IsStoredVersion-prop v x y =
    let key : IsProp (IsStoredKey v.key) = Prim.hlevel props in
    let ts : IsProp (IsStoredTime v.ts) = Prim.hlevel props in
    let local : IsProp (IsKeptLocal v.local v.ts) = Prim.hlevel props in
    λ j. record { key = key x.key y.key j; ts = ts x.ts y.ts j; local = local x.local y.local j; body = IsStoredBody-prop v.body x.body y.body j }

IsStoredTombstone-prop : (t : RangeTombstone) → IsProp (IsStoredTombstone t)
IsStoredTombstone-prop t = Prim.hlevel props

IsStoredEntry-prop : (e : Entry Body) → IsProp (IsStoredEntry e)
IsStoredEntry-prop e x y =
    let sequence : IsProp (e.sequence ≤ max_count) = Prim.hlevel props in
    λ j. record { sequence = sequence x.sequence y.sequence j; body = IsStoredBody-prop e.value x.body y.body j }

IsStoredIntent-prop : (h : History) (i : Intent) → IsProp (IsStoredIntent h i)
IsStoredIntent-prop h i x y =
    let key : IsProp (IsStoredKey i.key) = Prim.hlevel props in
    let id : IsProp (length i.id ≡ 16) = Prim.hlevel props in
    let epoch : IsProp (i.epoch ≤ max_count) = Prim.hlevel props in
    let ts : IsProp (IsStoredTime i.ts) = Prim.hlevel props in
    let local : IsProp (IsKeptLocal i.local i.ts) = Prim.hlevel props in
    let some_entry : IsProp (0 < length i.entries) = Prim.hlevel props in
    let size : IsProp (length (record_bytes (intent_record i)) ≤ max_stored_length) = Prim.hlevel props in
    let above : (item : Item) → IsProp (IsTrue (is_before item.ts i.ts)) = λ item. Prim.hlevel props in
    λ j. record {
      key = key x.key y.key j;
      id = id x.id y.id j;
      epoch = epoch x.epoch y.epoch j;
      ts = ts x.ts y.ts j;
      local = local x.local y.local j;
      some_entry = some_entry x.some_entry y.some_entry j;
      entries = AllByRecursion-prop IsStoredEntry IsStoredEntry-prop i.entries x.entries y.entries j;
      rising = IsStrictlySortedBy-prop sequence_cmp i.entries x.rising y.rising j;
      size = size x.size y.size j;
      above_items = AllByRecursion-prop (λ (item : Item). IsTrue (is_before item.ts i.ts)) above (items h i.key) x.above_items y.above_items j;
    }

HasOwnTime-prop : (tombstones : List RangeTombstone) (v : Version) → IsProp (HasOwnTime tombstones v)
HasOwnTime-prop tombstones v = AllByRecursion-prop _ (λ t. Prim.hlevel props) tombstones

IsValid-prop : (h : History) → IsProp (IsValid h)
IsValid-prop h x y = λ j. record {
  versions_in_order = IsStrictlySortedBy-prop version_cmp h.versions x.versions_in_order y.versions_in_order j;
  intents_in_order = IsStrictlySortedBy-prop intent_cmp h.intents x.intents_in_order y.intents_in_order j;
  versions = AllByRecursion-prop IsStoredVersion IsStoredVersion-prop h.versions x.versions y.versions j;
  intents = AllByRecursion-prop (IsStoredIntent h) (IsStoredIntent-prop h) h.intents x.intents y.intents j;
  tombstones = AllByRecursion-prop IsStoredTombstone IsStoredTombstone-prop h.tombstones x.tombstones y.tombstones j;
  own_times = AllByRecursion-prop (HasOwnTime h.tombstones) (HasOwnTime-prop h.tombstones) h.versions x.own_times y.own_times j;
}

pub IsOfHistory-prop : (h : History) (points : List Point) (fs : List Fragment) → IsProp (IsOfHistory h points fs)
IsOfHistory-prop h points fs x y =
    let pairs : IsProp (pairs_of points ≡ stored_pairs h) = Prim.hlevel props in
    let same : IsProp (fs ≡ fragments h.tombstones) = Prim.hlevel props in
    λ j. record { valid = IsValid-prop h x.valid y.valid j; pairs = pairs x.pairs y.pairs j; fragments = same x.fragments y.fragments j }
