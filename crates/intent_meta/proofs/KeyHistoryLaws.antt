-- What holds of each key of a valid history, and of a key with one more item.
use Rattle.std.proofs.Common.{◌≡◌, true, List, [], ◌∷◌, ◌++◌, refl, sym, ap, subst, ◌∙◌}
use Rattle.std.specs.Prelude.{Result, Ok, Err, OnOk, OnErr}
use Rattle.std.specs.List.Sorted.{IsStrictlySortedBy}
use Rattle.std.specs.declared.cmp.Ordering.TheVariants.{Less}
use Rattle.mvcc_key.specs.Order.{Timestamp, no_time}
use Rattle.mvcc_key.specs.History.{Body}
use Rattle.mvcc_key.specs.Items.{Item, item_cmp}
use Rattle.mvcc_key.proofs.EachLaws.{All-append, All-split}
use Rattle.mvcc_key.proofs.ItemLaws.{item_cmp-total}
use Rattle.mvcc_key.proofs.TimeLaws.{before_less}
use Rattle.mvcc_value.specs.Encoding.{plain_bytes, value_bytes, value_of, IsEncodable}
use Rattle.mvcc_value.proofs.ValueLaws.{value_of-value_bytes}
use Rattle.intent_meta.proofs.StoredTimeLaws.{IsLocal-stored}
use Rattle.intent_meta.specs.KeyHistory.{KeyHistory}
use Rattle.intent_meta.specs.views.WholeKeys.{IsWholeItem, IsKeyHistory}
use Rattle.intent_meta.specs.views.Listed.{is_older}

-- an older item at the end leaves items in order
older_in_order : (items : List Item) (i : Item) → IsStrictlySortedBy item_cmp items → is_older items i ≡ true → IsStrictlySortedBy item_cmp (items ++ i ∷ [])
unfolding IsStrictlySortedBy
older_in_order [] i sorted older = (tt, tt)
older_in_order (x ∷ []) i sorted older = ((before_less i.ts x.ts older, tt), (tt, tt))
older_in_order (x ∷ y ∷ items) i sorted older =
    let rest = older_in_order (y ∷ items) i sorted.1 older in
    let y_first = (All-split (λ (z : Item). item_cmp y z ≡ Less) items (i ∷ []) rest.0).1.0 in
    let x_first : item_cmp x i ≡ Less = item_cmp-total.trans x y i sorted.0.0 y_first in
    (All-append (λ (z : Item). item_cmp x z ≡ Less) (y ∷ items) (i ∷ []) sorted.0 (x_first, tt), rest)

-- so it is a key's history still
pub with_older-whole : (k : KeyHistory) (i : Item) → IsKeyHistory k → IsWholeItem i → is_older k.items i ≡ true → IsKeyHistory (record k { items = k.items ++ i ∷ [] })
with_older-whole k i h whole older = record {
  in_order = older_in_order k.items i h.in_order older;
  items = All-append IsWholeItem k.items (i ∷ []) h.items (whole, tt);
  intent = h.intent;
}

-- with it, or without where it could not be put
pub pushed-whole : {A E : Type 0} (r : Result A E) (k : KeyHistory) (i : Item) (new : List Item) → IsKeyHistory k → IsWholeItem i → is_older k.items i ≡ true
    → OnOk r (new ≡ k.items ++ i ∷ []) → OnErr r (new ≡ k.items) → IsKeyHistory (record k { items = new })
pushed-whole (Ok done) k i new h whole older ok err = subst (λ is. IsKeyHistory (record k { items = is })) (sym ok) (with_older-whole k i h whole older)
pushed-whole (Err fault) k i new h whole older ok err = subst (λ is. IsKeyHistory (record k { items = is })) (sym err) h

-- a whole item is read back
pub whole_item-read : (i : Item) → IsWholeItem i → value_of i.ts (value_bytes i.body i.local i.ts) ≡ Ok (record { local = i.local; body = i.body })
whole_item-read i whole =
    let l = IsLocal-stored i.local i.ts whole.local in
    value_of-value_bytes i.body i.local i.ts whole.body l.range ∙ ap (λ (t : Timestamp). Ok (record { local = t; body = i.body })) l.kept

-- a plain value is read back, with no local timestamp
pub plain_value-read : (body : Body) (ts : Timestamp) → IsEncodable body → value_of ts (plain_bytes body) ≡ Ok (record { local = no_time; body = body })
unfolding value_bytes
plain_value-read body ts coded = value_of-value_bytes body no_time ts coded refl
