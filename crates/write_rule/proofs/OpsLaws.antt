-- The operations of a write, in their order.
use Rattle.std.proofs.Common.{◌≡◌, ℕ, ◌≤◌, Bool, true, false, List, [], ◌∷◌, ◌++◌, length, refl, ap, subst, arith, rules, inl, inr}
use Rattle.std.specs.Prelude.{◌⊎◌, slice_get, Some}
use Rattle.std.specs.declared.cmp.Ordering.{Ordering}
use Rattle.std.specs.declared.cmp.Ordering.TheVariants.{Less, Equal, Greater}
use Rattle.std.specs.Ordering.{is_lt, is_le}
use Rattle.std.specs.Cmp.{tied_itself}
use Rattle.std.proofs.lemmas.Bool.{eq-eqb}
use Rattle.std.proofs.lemmas.List.{length-append}
use Rattle.mvcc_key.specs.Batches.{IsStorable, AreEntries}
use Rattle.mvcc_key.specs.Limits.{max_stored_length}
use Rattle.mvcc_key.specs.Order.{Timestamp, is_no_time, is_before, is_up_to, is_same_time, time_cmp, Key, key_cmp, Name, name_cmp}
use Rattle.mvcc_key.specs.Encoded.{name_in}
use Rattle.mvcc_key.specs.History.{Body, kept_local}
use Rattle.mvcc_key.specs.views.SeenPoint.{point_of, IsAboveLast}
use Rattle.mvcc_key.specs.declared.batch.PointOp.{PointOp}
use Rattle.mvcc_key.proofs.BatchLaws.{entries-push}
use Rattle.mvcc_key.proofs.OrderLaws.{key_cmp-total, time_cmp-IsAntisymmetric}
use Rattle.mvcc_key.proofs.TimeLaws.{before_less}
use Rattle.mvcc_value.specs.Encoding.{header_of, plain_bytes, value_bytes}
use Rattle.intent_meta.specs.Valid.{IsStoredBody}
use Rattle.mvcc_value.proofs.LengthLaws.{header_length-cases}
use Rattle.intent_meta.proofs.ReadBackLaws.{length-plain_bytes_le}
use Rattle.intent_meta.proofs.ListedLaws.{kept_again}

-- ---- values

-- a value is that of its kept local timestamp
pub value_kept : (body : Body) (local ts : Timestamp) → value_bytes body (kept_local local ts) ts ≡ value_bytes body local ts
unfolding value_bytes
value_kept body local ts = ap (λ t. header_of t ++ plain_bytes body) (kept_again local ts)

-- a value is short enough to be stored
pub value_short : (body : Body) (local ts : Timestamp) → IsStoredBody body → length (value_bytes body local ts) ≤ max_stored_length
unfolding value_bytes
value_short body local ts h = by (header_length-cases (kept_local local ts))
  where
    by : (length (header_of (kept_local local ts)) ≡ 0) ⊎ (length (header_of (kept_local local ts)) ≡ 17) → length (header_of (kept_local local ts) ++ plain_bytes body) ≤ max_stored_length
    by (inl none) = omega (arith, length-append (header_of (kept_local local ts)) (plain_bytes body), length-plain_bytes_le body h, none)
    by (inr some) = omega (arith, length-append (header_of (kept_local local ts)) (plain_bytes body), length-plain_bytes_le body h, some)

-- ---- operations

-- no operation stands before the first
none_before : (key : List ℕ) → IsAboveLast [] key
none_before key i last is found = absurd cc

-- above one operation
pub above_one : (a : PointOp) (key : List ℕ) → name_cmp (name_in a.key) (name_in key) ≡ Less → IsAboveLast (a ∷ []) key
above_one a key h i last is found =
    let zero : i ≡ 0 = omega arith in
    let first : slice_get (a ∷ []) 0 ≡ Some last = subst (λ n. slice_get (a ∷ []) n ≡ Some last) zero found in
    let same : a ≡ last = cc in
    subst (λ (op : PointOp). name_cmp (name_in op.key) (name_in key) ≡ Less) same h

-- above two
pub above_two : (a b : PointOp) (key : List ℕ) → name_cmp (name_in b.key) (name_in key) ≡ Less → IsAboveLast (a ∷ b ∷ []) key
above_two a b key h i last is found =
    let one : i ≡ 1 = omega arith in
    let second : slice_get (a ∷ b ∷ []) 1 ≡ Some last = subst (λ n. slice_get (a ∷ b ∷ []) n ≡ Some last) one found in
    let same : b ≡ last = cc in
    subst (λ (op : PointOp). name_cmp (name_in op.key) (name_in key) ≡ Less) same h

-- no operations
none_entries : AreEntries []
none_entries = record { storable = search rules; rising = λ i j x y lt p q. absurd cc }

-- one operation is a batch
pub one_entry : (a : PointOp) → IsStorable a → AreEntries (a ∷ [])
one_entry a h = entries-push [] a none_entries h (none_before a.key)

-- so are two that rise
pub two_entries : (a b : PointOp) → IsStorable a → IsStorable b → name_cmp (name_in a.key) (name_in b.key) ≡ Less → AreEntries (a ∷ b ∷ [])
two_entries a b h k less = entries-push (a ∷ []) b (one_entry a h) k (above_one a b.key less)

-- and three
pub three_entries : (a b c : PointOp) → IsStorable a → IsStorable b → IsStorable c → name_cmp (name_in a.key) (name_in b.key) ≡ Less → name_cmp (name_in b.key) (name_in c.key) ≡ Less → AreEntries (a ∷ b ∷ c ∷ [])
three_entries a b c h k l first second = entries-push (a ∷ b ∷ []) c (two_entries a b h k first) l (above_two a b c.key second)

-- ---- names of a key

-- a newer version stands before an older one
pub newer_before : (key : Key) (old ts : Timestamp) → is_no_time old ≡ false → is_no_time ts ≡ false → is_before old ts ≡ true → name_cmp (record { key = key; ts = ts }) (record { key = key; ts = old }) ≡ Less
newer_before key old ts some timed before =
    let same : key_cmp key key ≡ Equal = tied_itself key_cmp-total key in
    let less : time_cmp old ts ≡ Less = before_less old ts before in
    rw (same, some, timed, less) refl

-- names of operations, by those of their points
pub names_less : (a b : PointOp) (m n : Name) → (point_of a).name ≡ m → (point_of b).name ≡ n → name_cmp m n ≡ Less → name_cmp (name_in a.key) (name_in b.key) ≡ Less
names_less a b m n p q less = rw (p, q) less

-- ---- what was left behind

-- of two timestamps that differ the one that is up to the other is before it
pub up_to_apart : (s t : Timestamp) → is_up_to s t ≡ true → is_same_time s t ≡ false → is_before s t ≡ true
up_to_apart s t up apart = by (is_before s t) refl
  where
    by : (b : Bool) → is_before s t ≡ b → b ≡ true
    by true h = refl
    by false h = absurd (tie (time_cmp s t) refl up h)
      where
        tie : (o : Ordering) → time_cmp s t ≡ o → is_le o ≡ true → is_lt o ≡ false → ⊥
        tie Less e up' h' = cc
        tie Greater e up' h' = cc
        tie Equal e up' h' =
            let same : s ≡ t = time_cmp-IsAntisymmetric s t e in
            let one : is_same_time s t ≡ true = subst (λ u. is_same_time s u ≡ true) same (itself s) in
            cc
          where
            itself : (u : Timestamp) → is_same_time u u ≡ true
            itself u = rw (eq-eqb u.wall u.wall refl, eq-eqb u.logical u.logical refl) refl
