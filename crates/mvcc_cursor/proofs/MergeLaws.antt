-- The newest item that passes a test: the newer of the newest version and the newest tombstone that do.
use Rattle.std.proofs.Common.{◌≡◌, Bool, true, false, cond, List, [], ◌∷◌, ◌++◌, refl, sym, ap, ◌∙◌}
use Rattle.std.specs.Prelude.{find, Some, None, IfSome}
use Rattle.std.specs.declared.option.Option.{Option}
use Rattle.std.specs.List.{AllByRecursion}
use Rattle.std.specs.List.Sorted.{IsStrictlySortedBy}
use Rattle.std.specs.declared.cmp.Ordering.{Ordering}
use Rattle.std.specs.declared.cmp.Ordering.TheVariants.{Less, Equal, Greater}
use Rattle.std.specs.Ordering.{is_lt, is_eq, match_ordering, ordering_reverse}
use Rattle.mvcc_key.specs.Lists.{put_in_order, in_order}
use Rattle.mvcc_key.specs.Order.{is_before}
use Rattle.mvcc_key.specs.Items.{Item, item_cmp}
use Rattle.mvcc_key.proofs.EachLaws.{All-in_order, All-append}
use Rattle.mvcc_key.proofs.FindLaws.{find-holds}
use Rattle.mvcc_key.proofs.ItemLaws.{item_cmp-total}
use Rattle.mvcc_key.proofs.OrderLaws.{time_cmp-total}
use Rattle.mvcc_key.proofs.SortedLaws.{in_order-same, in_order-sorted, below_more}
use Rattle.mvcc_key.proofs.TimeLaws.{never_before, not_before, up_to_along, up_to_not_before}

-- the newer of two items, and the first of two with one timestamp
abbrev pub newer : Option Item → Option Item → Option Item
newer None b = b
newer (Some a) None = Some a
newer (Some a) (Some b) = cond (is_before a.ts b.ts) (Some b) (Some a)

-- no item of the list has its timestamp
abbrev pub IsApart : Item → List Item → Type 0
IsApart x ys = AllByRecursion (λ y. is_eq (item_cmp x y) ≡ false) ys

-- an item that is no older than another stands before it
keeps : (x : Item) (o : Option Item) → IfSome o (λ y. is_before x.ts y.ts ≡ false) → newer (Some x) o ≡ Some x
keeps x None h = refl
keeps x (Some y) h = ap (λ (b : Bool). cond b (Some y) (Some x)) h

-- what stands behind in the order is older
older : (x y : Item) → item_cmp x y ≡ Less → is_before x.ts y.ts ≡ false
older x y less = never_before y.ts x.ts (ap is_lt less)

all-older : (x : Item) (ys : List Item) → AllByRecursion (λ y. item_cmp x y ≡ Less) ys → AllByRecursion (λ y. is_before x.ts y.ts ≡ false) ys
all-older x [] all = tt
all-older x (y ∷ ys) all = (older x y all.0, all-older x ys all.1)

module _ (test : Item → Bool) where
  -- one item put among others
  find-put : (x : Item) (ys : List Item) → IsStrictlySortedBy item_cmp ys → IsApart x ys
      → find test (put_in_order item_cmp x ys) ≡ cond (test x) (newer (Some x) (find test ys)) (find test ys)
  unfolding IsStrictlySortedBy
  find-put x [] sorted apart = refl
  find-put x (y ∷ ys) sorted apart = by (item_cmp x y) refl (find-put x ys sorted.1 apart.1)
    where
      by : (o : Ordering) → item_cmp x y ≡ o → find test (put_in_order item_cmp x ys) ≡ cond (test x) (newer (Some x) (find test ys)) (find test ys)
          → find test (match_ordering o (x ∷ y ∷ ys) (x ∷ ys) (y ∷ put_in_order item_cmp x ys)) ≡ cond (test x) (newer (Some x) (find test (y ∷ ys))) (find test (y ∷ ys))
      by Less is rest =
          (let behind = all-older x (y ∷ ys) (is, below_more item_cmp-total x y ys is sorted.0) in
          ap (λ (o : Option Item). cond (test x) o (find test (y ∷ ys))) (sym (keeps x (find test (y ∷ ys)) (find-holds (λ z. is_before x.ts z.ts ≡ false) test (y ∷ ys) behind))))
      by Equal is rest = (let e : is_eq (item_cmp x y) ≡ true = ap is_eq is in let f = apart.0 in absurd cc)
      by Greater is rest = also (test y) refl (test x) refl rest
        where
          newer_there : is_before x.ts y.ts ≡ true
          newer_there = ap is_lt (time_cmp-total.antisymm x.ts y.ts ∙ ap ordering_reverse is)

          also : (b : Bool) → test y ≡ b → (c : Bool) → test x ≡ c → find test (put_in_order item_cmp x ys) ≡ cond c (newer (Some x) (find test ys)) (find test ys)
              → cond b (Some y) (find test (put_in_order item_cmp x ys)) ≡ cond c (newer (Some x) (cond b (Some y) (find test ys))) (cond b (Some y) (find test ys))
          also true there true here h = sym (ap (λ (b : Bool). cond b (Some y) (Some x)) newer_there)
          also true there false here h = refl
          also false there c here h = h

  -- the newer of three
  newer-of_three : (x : Item) (a b : Option Item) → IfSome a (λ y. is_before x.ts y.ts ≡ false) → newer (Some x) (newer a b) ≡ newer (Some x) b
  newer-of_three x None b h = refl
  newer-of_three x (Some y) None h = keeps x (Some y) h
  newer-of_three x (Some y) (Some z) h = by (is_before y.ts z.ts) refl
    where
      by : (c : Bool) → is_before y.ts z.ts ≡ c → newer (Some x) (cond c (Some z) (Some y)) ≡ newer (Some x) (Some z)
      by true is = refl
      by false is =
          keeps x (Some y) h
          ∙ sym (keeps x (Some z) (up_to_not_before z.ts x.ts (up_to_along z.ts y.ts x.ts (not_before y.ts z.ts is) (not_before x.ts y.ts h))))

  -- of items in order, put together with others in order
  pub find-together : (xs ys : List Item) → IsStrictlySortedBy item_cmp xs → IsStrictlySortedBy item_cmp ys → AllByRecursion (λ x. IsApart x ys) xs
      → find test (in_order item_cmp (xs ++ ys)) ≡ newer (find test xs) (find test ys)
  unfolding IsStrictlySortedBy
  find-together [] ys sorted sorted' apart = ap (find test) (in_order-same item_cmp ys sorted')
  find-together (x ∷ xs) ys sorted sorted' apart =
      find-put x (in_order item_cmp (xs ++ ys)) (in_order-sorted item_cmp-total (xs ++ ys))
      (All-in_order item_cmp (λ y. is_eq (item_cmp x y) ≡ false) (xs ++ ys) (All-append (λ y. is_eq (item_cmp x y) ≡ false) xs ys (less-apart xs sorted.0) apart.0))
      ∙ by (test x) refl (find-together xs ys sorted.1 sorted' apart.1)
    where
      less-apart : (zs : List Item) → AllByRecursion (λ z. item_cmp x z ≡ Less) zs → IsApart x zs
      less-apart [] all = tt
      less-apart (z ∷ zs) all = (ap is_eq all.0, less-apart zs all.1)

      by : (b : Bool) → test x ≡ b → find test (in_order item_cmp (xs ++ ys)) ≡ newer (find test xs) (find test ys)
          → cond b (newer (Some x) (find test (in_order item_cmp (xs ++ ys)))) (find test (in_order item_cmp (xs ++ ys))) ≡ newer (cond b (Some x) (find test xs)) (find test ys)
      by false is rest = rest
      by true is rest =
          ap (newer (Some x)) rest
          ∙ newer-of_three x (find test xs) (find test ys) (find-holds (λ z. is_before x.ts z.ts ≡ false) test xs (all-older x xs sorted.0))
