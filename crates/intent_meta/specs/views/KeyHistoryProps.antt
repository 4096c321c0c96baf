-- That what holds of each key is one fact.
use Rattle.std.proofs.Common.{◌≡◌, ◌<◌, length, Option, Some, None}
use Rattle.std.proofs.Props.{props}
use Rattle.std.specs.Prelude.{IfSome}
use Rattle.std.specs.List.{AllByRecursion-prop}
use Rattle.std.proofs.lemmas.Map.Keys.{IsStrictlySortedBy-prop}
use Rattle.mvcc_key.specs.Order.{Key}
use Rattle.mvcc_key.specs.History.{Body, Deletion, Bytes, Int, Entry, Intent}
use Rattle.mvcc_key.specs.Items.{Item, item_cmp}
use Rattle.mvcc_value.specs.Encoding.{IsEncodable}
use Rattle.intent_meta.specs.Valid.{IsKeptLocal}
use Rattle.intent_meta.specs.KeyHistory.{KeyHistory}
use Rattle.intent_meta.specs.views.WholeKeys.{IsWholeItem, IsWholeIntent, IsKeyHistory}

IsEncodable-prop : (b : Body) → IsProp (IsEncodable b)
IsEncodable-prop Deletion = Prim.hlevel props
IsEncodable-prop (Bytes bytes) = Prim.hlevel props
IsEncodable-prop (Int number) = Prim.hlevel props

IsWholeItem-prop : (i : Item) → IsProp (IsWholeItem i)
IsWholeItem-prop i x y = let local : IsProp (IsKeptLocal i.local i.ts) = Prim.hlevel props in λ j. record { local = local x.local y.local j; body = IsEncodable-prop i.body x.body y.body j }

IsWholeIntent-prop : (key : Key) (i : Intent) → IsProp (IsWholeIntent key i)
IsWholeIntent-prop key i x y =
    let key_is : IsProp (i.key ≡ key) = Prim.hlevel props in
    let local : IsProp (IsKeptLocal i.local i.ts) = Prim.hlevel props in
    let some : IsProp (0 < length i.entries) = Prim.hlevel props in
    λ j. record {
      key_is = key_is x.key_is y.key_is j;
      local = local x.local y.local j;
      some_entry = some x.some_entry y.some_entry j;
      bodies = AllByRecursion-prop (λ (e : Entry Body). IsEncodable e.value) (λ e. IsEncodable-prop e.value) i.entries x.bodies y.bodies j;
    }

intent-prop : (key : Key) (o : Option Intent) → IsProp (IfSome o (IsWholeIntent key))
intent-prop key None = Prim.hlevel props
intent-prop key (Some i) = IsWholeIntent-prop key i

pub IsKeyHistory-prop : (k : KeyHistory) → IsProp (IsKeyHistory k)
IsKeyHistory-prop k x y = λ j. record {
  in_order = IsStrictlySortedBy-prop item_cmp k.items x.in_order y.in_order j;
  items = AllByRecursion-prop IsWholeItem IsWholeItem-prop k.items x.items y.items j;
  intent = intent-prop k.key k.intent x.intent y.intent j;
}
