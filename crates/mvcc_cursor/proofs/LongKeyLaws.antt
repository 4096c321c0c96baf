-- Keys that are longer than any stored key and any bound.
use Rattle.std.proofs.Common.{◌≡◌, ℕ, zero, suc, ◌≤◌, Bool, true, false, [], ◌∷◌, ◌++◌, length, take, refl, sym, ap, ◌∙◌, arith, inl, inr}
use Rattle.std.specs.Prelude.{◌&&◌, map, filter}
use Rattle.std.specs.declared.cmp.Ordering.{Ordering}
use Rattle.std.specs.declared.cmp.Ordering.TheVariants.{Less, Equal, Greater}
use Rattle.std.specs.Ordering.{is_lt, is_le, nat_cmp, ordering_then}
use Rattle.std.proofs.lemmas.Bool.{cases_order}
use Rattle.std.proofs.lemmas.List.{take_all, length-take-le}
use Rattle.mvcc_key.specs.Lists.{first, in_order}
use Rattle.mvcc_key.specs.Order.{Key, key_cmp, is_same_key, newer_first}
use Rattle.mvcc_key.specs.History.{History, versions_of, intent_of}
use Rattle.mvcc_key.specs.Items.{item_cmp, version_item, tombstone_item, tombstones_over, covers, items}
use Rattle.mvcc_key.proofs.FilterLaws.{filter-same, filter-none}
use Rattle.mvcc_key.proofs.EachLaws.{All-weaker}
use Rattle.intent_meta.specs.Valid.{IsStoredVersion, IsStoredIntent, IsStoredTombstone, IsValid}
use Rattle.mvcc_cursor.specs.Standing.{sought_key}
use Rattle.mvcc_cursor.specs.KeyHistory.{LongKeysAreCut}
use Rattle.mvcc_cursor.proofs.OrderLaws.{key_is}

-- a bound of at most n bytes is compared with the first n
le-cut : (b k : Key) (n : ℕ) → length b ≤ n → is_le (key_cmp b (take n k)) ≡ is_le (key_cmp b k)
le-cut [] [] zero le = refl
le-cut [] [] (suc n) le = refl
le-cut [] (x ∷ xs) zero le = refl
le-cut [] (x ∷ xs) (suc n) le = refl
le-cut (y ∷ ys) [] zero le = refl
le-cut (y ∷ ys) [] (suc n) le = refl
le-cut (y ∷ ys) (x ∷ xs) zero le = absurd (omega arith)
le-cut (y ∷ ys) (x ∷ xs) (suc n) le = by (nat_cmp y x) (le-cut ys xs n (omega arith))
  where
    by : (o : Ordering) → is_le (key_cmp ys (take n xs)) ≡ is_le (key_cmp ys xs) → is_le (ordering_then o (key_cmp ys (take n xs))) ≡ is_le (ordering_then o (key_cmp ys xs))
    by Less rest = refl
    by Equal rest = rest
    by Greater rest = refl

lt-cut : (k b : Key) (n : ℕ) → length b ≤ n → is_lt (key_cmp (take n k) b) ≡ is_lt (key_cmp k b)
lt-cut [] b zero le = refl
lt-cut [] b (suc n) le = refl
lt-cut (x ∷ xs) [] zero le = refl
lt-cut (x ∷ xs) [] (suc n) le = refl
lt-cut (x ∷ xs) (y ∷ ys) zero le = absurd (omega arith)
lt-cut (x ∷ xs) (y ∷ ys) (suc n) le = by (nat_cmp x y) (lt-cut xs ys n (omega arith))
  where
    by : (o : Ordering) → is_lt (key_cmp (take n xs) ys) ≡ is_lt (key_cmp xs ys) → is_lt (ordering_then o (key_cmp (take n xs) ys)) ≡ is_lt (ordering_then o (key_cmp xs ys))
    by Less rest = refl
    by Equal rest = rest
    by Greater rest = refl

-- the same tombstones are over both
over-cut : (h : History) → IsValid h → (key : Key) → tombstones_over h.tombstones (sought_key key) ≡ tombstones_over h.tombstones key
over-cut h valid key =
    ap (λ ts. in_order newer_first (map (λ t. t.ts) ts))
    (filter-same (covers (sought_key key)) (covers key) h.tombstones
    (All-weaker IsStoredTombstone (λ t. covers (sought_key key) t ≡ covers key t) h.tombstones
    (λ t s. ap (λ b. b && is_lt (key_cmp (sought_key key) t.end)) (le-cut t.start key 4097 s.start) ∙ ap (λ b. is_le (key_cmp t.start key) && b) (lt-cut key t.end 4097 s.end)) valid.tombstones))

-- a stored key is no long one
other-key : (a k : Key) → length a ≤ 4096 → 4097 ≤ length k → is_same_key a k ≡ false
other-key a k short long = by (is_same_key a k) refl
  where
    by : (b : Bool) → is_same_key a k ≡ b → is_same_key a k ≡ false
    by false e = e
    by true e = absurd (let same : length a ≡ length k = ap length (key_is a k e) in omega arith)

none-versions : (h : History) → IsValid h → (k : Key) → 4097 ≤ length k → versions_of k h ≡ []
none-versions h valid k long = filter-none (λ v. is_same_key v.key k) h.versions (All-weaker IsStoredVersion (λ v. is_same_key v.key k ≡ false) h.versions (λ v s. other-key v.key k s.key.1 long) valid.versions)

none-intent : (h : History) → IsValid h → (k : Key) → 4097 ≤ length k → filter (λ i. is_same_key i.key k) h.intents ≡ []
none-intent h valid k long = filter-none (λ i. is_same_key i.key k) h.intents (All-weaker (IsStoredIntent h) (λ i. is_same_key i.key k ≡ false) h.intents (λ i s. other-key i.key k s.key.1 long) valid.intents)

pub long_keys-cut : LongKeysAreCut
unfolding items
long_keys-cut h key valid = elim (cases_order (length key) 4097) [
  | inl same ↦ (let e : sought_key key ≡ key = take_all 4097 key (omega arith) in record { intent = ap (λ k. intent_of k h) e; items = ap (items h) e })
  | inr (inl less) ↦ (let e : sought_key key ≡ key = take_all 4097 key (omega arith) in record { intent = ap (λ k. intent_of k h) e; items = ap (items h) e })
  | inr (inr more) ↦
      (let len : length (sought_key key) ≡ 4097 = length-take-le 4097 key (omega arith) in
      record {
        intent = ap first (none-intent h valid (sought_key key) (omega arith) ∙ sym (none-intent h valid key (omega arith)));
        items =
            ap (λ vs. in_order item_cmp (map version_item vs ++ map tombstone_item (tombstones_over h.tombstones (sought_key key)))) (none-versions h valid (sought_key key) (omega arith) ∙ sym (none-versions h valid key (omega arith)))
            ∙ ap (λ ts. in_order item_cmp (map version_item (versions_of key h) ++ map tombstone_item ts)) (over-cut h valid key);
      })
]
