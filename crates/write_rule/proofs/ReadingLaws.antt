-- What is read of bytes that are lent is what was written.
use Rattle.std.proofs.Common.{◌≡◌, ℕ, List, [], ◌∷◌, Bor, Result, Ok, Err, refl, sym, ap, ◌∙◌}
use Rattle.std.specs.Prelude.{MatchResult, Option, Some, None, option_map, unwrap_or}
use Rattle.std.specs.List.{AllByRecursion}
use Rattle.mvcc_key.specs.Items.{Item, newest}
use Rattle.mvcc_value.specs.Encoding.{value_of}
use Rattle.intent_meta.specs.KeyHistory.{KeyHistory}
use Rattle.intent_meta.specs.views.WholeKeys.{IsWholeItem, IsKeyHistory}
use Rattle.intent_meta.specs.views.Lent.{LentItem, lent_item}
use Rattle.intent_meta.proofs.KeyHistoryLaws.{whole_item-read}

-- two readings, one of which sees what the other has: the second tells the first
pub read-is : {V W E : Type 0} (v : V) (r : Result V E) (x : Result W E) (f : V → W) (w : W) → MatchResult r (λ u. x ≡ Ok (f u)) (λ e. x ≡ Err e) → r ≡ Ok v → x ≡ Ok w → f v ≡ w
read-is {V} {W} {E} v (Ok u) x f w same is reads = let one : u ≡ v = cc in let two : f u ≡ w = cc in ap f (sym one) ∙ two
read-is v (Err e) x f w same is reads = absurd cc

-- ---- the newest item

-- the bytes of a value, or none
pub lent_bytes : (o : Option (Bor (List ℕ))) (d : Bor (List ℕ)) → (unwrap_or o d).now ≡ unwrap_or (option_map (λ v. v.now) o) d.now
lent_bytes None d = refl
lent_bytes (Some v) d = refl

-- what is lent is of this item
pub record IsLentOf (seen : LentItem) (o : Option Item) : Type 0 where
  pub item : Item
  pub is : o ≡ Some item
  pub lent : seen ≡ lent_item item
  pub whole : IsWholeItem item

-- what is lent as the newest item is of it
pub lent_newest : (k : KeyHistory) (seen : LentItem) → IsKeyHistory k → Some seen ≡ option_map lent_item (newest k.items) → IsLentOf seen (newest k.items)
lent_newest k seen whole is = by k.items whole.items is
  where
    by : (items : List Item) → AllByRecursion IsWholeItem items → Some seen ≡ option_map lent_item (newest items) → IsLentOf seen (newest items)
    by [] all e = absurd cc
    by (i ∷ items) all e = record { item = i; is = refl; lent = cc; whole = all.0 }

-- it is read
pub lent_reads : (seen : LentItem) (i : Item) → seen ≡ lent_item i → IsWholeItem i → value_of seen.ts seen.bytes ≡ Ok (record { local = i.local; body = i.body })
lent_reads seen i lent whole = ap (λ (s : LentItem). value_of s.ts s.bytes) lent ∙ whole_item-read i whole
