-- The names of one key among all names.
use Rattle.std.proofs.Common.{◌≡◌, ℕ, Bool, true, false, cond, List, [], ◌∷◌, ◌++◌, refl, sym, ap, ◌∙◌, arith}
use Rattle.std.specs.Prelude.{◌&&◌, not}
use Rattle.std.specs.declared.cmp.Ordering.{Ordering}
use Rattle.std.specs.declared.cmp.Ordering.TheVariants.{Less, Equal, Greater}
use Rattle.std.specs.Ordering.{is_lt, is_le, is_eq, nat_cmp, ordering_then, ordering_reverse}
use Rattle.std.specs.Cmp.Lexicographic.{slice_cmp}
use Rattle.std.proofs.lemmas.Slice.Eq.{bytes_eq-Decides}
use Rattle.std.proofs.lemmas.Bool.Decides.{nat_tests}
use Rattle.std.proofs.lemmas.Cmp.{nat_cmp_total}
use Rattle.mvcc_key.specs.Order.{Timestamp, no_time, is_no_time, is_in_range, is_up_to, time_cmp, Key, key_cmp, is_same_key, is_below, name_cmp, max_wall, max_logical}
use Rattle.mvcc_key.specs.Points.{Point, is_below_name}
use Rattle.mvcc_key.proofs.OrderLaws.{key_cmp-total, key_cmp-IsAntisymmetric, time_cmp-total, name_cmp-total}
use Rattle.mvcc_cursor.specs.KeyPoints.{record_name, is_of_key, is_version}

pub key_is : (a b : Key) → is_same_key a b ≡ true → a ≡ b
key_is a b same = (bytes_eq-Decides a b).0 same

pub key_same : (a b : Key) → a ≡ b → is_same_key a b ≡ true
key_same a b is = (bytes_eq-Decides a b).1 is

key-itself : (a : Key) → key_cmp a a ≡ Equal
key-itself a = by (key_cmp a a) refl
  where
    by : (o : Ordering) → key_cmp a a ≡ o → key_cmp a a ≡ Equal
    by Equal is = is
    by Less is = (let back : key_cmp a a ≡ ordering_reverse (key_cmp a a) = key_cmp-total.antisymm a a in cc)
    by Greater is = (let back : key_cmp a a ≡ ordering_reverse (key_cmp a a) = key_cmp-total.antisymm a a in cc)

-- keys that are ordered are not the same
pub not-same : (a b : Key) (o : Ordering) → key_cmp a b ≡ o → is_eq o ≡ false → is_same_key a b ≡ false
not-same a b o is unequal = by (is_same_key a b) refl
  where
    by : (s : Bool) → is_same_key a b ≡ s → is_same_key a b ≡ false
    by false h = h
    by true h = (let e : key_cmp a b ≡ Equal = ap (key_cmp a) (sym (key_is a b h)) ∙ key-itself a in let f : is_eq o ≡ true = ap is_eq (sym is ∙ e) in cc)

-- a pair that stands before the record of a key is of a lower key
pub below-record : (key : Key) (p : Point) → is_below_name (record_name key) p ≡ is_below p.name.key key
below-record key p = by (key_cmp p.name.key key) refl
  where
    ends : (b : Bool) → is_no_time p.name.ts ≡ b → is_lt (ordering_then (nat_cmp (cond b 0 1) 0) (time_cmp no_time p.name.ts)) ≡ false
    ends true is = grind (arith, nat_tests)
    ends false is = refl

    by : (o : Ordering) → key_cmp p.name.key key ≡ o → is_lt (name_cmp p.name (record_name key)) ≡ is_lt (key_cmp p.name.key key)
    by Less is = rw is refl
    by Equal is = rw is (ends (is_no_time p.name.ts) refl)
    by Greater is = rw is refl

-- what stands behind a pair that is not below the key's record, and not of the key, is not of the key either
pub behind-other : (key : Key) (p q : Point) → is_below_name (record_name key) p ≡ false → is_of_key key p ≡ false → name_cmp p.name q.name ≡ Less → is_of_key key q ≡ false
behind-other key p q from other less = by (is_of_key key q) refl (key_cmp p.name.key key) refl
  where
    by : (s : Bool) → is_of_key key q ≡ s → (o : Ordering) → key_cmp p.name.key key ≡ o → is_of_key key q ≡ false
    by false h o is = h
    by true h Less is = (let low : is_below_name (record_name key) p ≡ true = below-record key p ∙ ap is_lt is in cc)
    by true h Equal is = (let same : is_of_key key p ≡ true = key_same p.name.key key (key_cmp-IsAntisymmetric p.name.key key is) in cc)
    by true h Greater is =
        (let above : key_cmp p.name.key q.name.key ≡ Greater = ap (key_cmp p.name.key) (key_is q.name.key key h) ∙ is in
        let greater : name_cmp p.name q.name ≡ Greater = rw above refl in cc)

-- a pair before a version's name is no version of its key that is as old
pub ahead-of : (key : Key) (ts : Timestamp) (p : Point) → is_no_time ts ≡ false → is_below_name (record { key = key; ts = ts }) p ≡ true → (is_of_key key p && (is_version p && is_up_to p.name.ts ts)) ≡ false
ahead-of key ts p some below = by (is_of_key key p) refl (is_no_time p.name.ts) refl
  where
    older : (o : Ordering) → time_cmp ts p.name.ts ≡ o → is_lt o ≡ true → is_up_to p.name.ts ts ≡ false
    older Less is lt = (let back : time_cmp p.name.ts ts ≡ Greater = time_cmp-total.antisymm p.name.ts ts ∙ ap ordering_reverse is in ap is_le back)
    older Equal is lt = cc
    older Greater is lt = cc

    by : (s : Bool) → is_of_key key p ≡ s → (b : Bool) → is_no_time p.name.ts ≡ b → (s && (not b && is_up_to p.name.ts ts)) ≡ false
    by false same b timed = refl
    by true same true timed = refl
    by true same false timed =
        (let tie : key_cmp p.name.key key ≡ Equal = ap (key_cmp p.name.key) (sym (key_is p.name.key key same)) ∙ key-itself p.name.key in
        let order : is_below_name (record { key = key; ts = ts }) p ≡ is_lt (time_cmp ts p.name.ts) = rw (tie, timed, some) refl in
        older (time_cmp ts p.name.ts) refl (sym order ∙ below))

-- and a pair of the key that is not before it is
pub from-version : (key : Key) (ts : Timestamp) (p : Point) → is_no_time ts ≡ false → is_below_name (record { key = key; ts = ts }) p ≡ false → is_of_key key p ≡ (is_of_key key p && (is_version p && is_up_to p.name.ts ts))
from-version key ts p some from = by (is_of_key key p) refl (is_no_time p.name.ts) refl
  where
    older : (o : Ordering) → time_cmp ts p.name.ts ≡ o → is_lt o ≡ false → is_up_to p.name.ts ts ≡ true
    older Less is lt = cc
    older Equal is lt = (let back : time_cmp p.name.ts ts ≡ Equal = time_cmp-total.antisymm p.name.ts ts ∙ ap ordering_reverse is in ap is_le back)
    older Greater is lt = (let back : time_cmp p.name.ts ts ≡ Less = time_cmp-total.antisymm p.name.ts ts ∙ ap ordering_reverse is in ap is_le back)

    by : (s : Bool) → is_of_key key p ≡ s → (b : Bool) → is_no_time p.name.ts ≡ b → s ≡ (s && (not b && is_up_to p.name.ts ts))
    by false same b timed = refl
    by true same true timed =
        (let tie : key_cmp p.name.key key ≡ Equal = ap (key_cmp p.name.key) (sym (key_is p.name.key key same)) ∙ key-itself p.name.key in
        let below : is_below_name (record { key = key; ts = ts }) p ≡ true = rw (tie, timed, some) refl in cc)
    by true same false timed =
        (let tie : key_cmp p.name.key key ≡ Equal = ap (key_cmp p.name.key) (sym (key_is p.name.key key same)) ∙ key-itself p.name.key in
        let order : is_below_name (record { key = key; ts = ts }) p ≡ is_lt (time_cmp ts p.name.ts) = rw (tie, timed, some) refl in
        sym (older (time_cmp ts p.name.ts) refl (sym order ∙ from)))

-- what is before the record is before each version
pub below-both : (key : Key) (ts : Timestamp) (p : Point) → is_below_name (record_name key) p ≡ true → is_below_name (record { key = key; ts = ts }) p ≡ true
below-both key ts p below = by (key_cmp p.name.key key) refl
  where
    by : (o : Ordering) → key_cmp p.name.key key ≡ o → is_below_name (record { key = key; ts = ts }) p ≡ true
    by Less is = rw is refl
    by Equal is = (let e : is_below_name (record_name key) p ≡ false = below-record key p ∙ ap is_lt is in cc)
    by Greater is = (let e : is_below_name (record_name key) p ≡ false = below-record key p ∙ ap is_lt is in cc)

-- no timestamp is newer than the greatest
pub newest-of-all : (t : Timestamp) → is_in_range t ≡ true → is_up_to t (record { wall = max_wall; logical = max_logical }) ≡ true
newest-of-all t within = grind (arith, nat_tests)

-- a timestamp that is none
pub none-is : (t : Timestamp) → is_no_time t ≡ true → t ≡ no_time
none-is t none = (let wall : t.wall ≡ 0 = grind (arith, nat_tests) in let logical : t.logical ≡ 0 = grind (arith, nat_tests) in λ i. record { wall = wall i; logical = logical i })

-- the least key above a key is the key with a byte 0 behind it
pub nil-cmp : (ys : List ℕ) → is_lt (slice_cmp nat_cmp ys []) ≡ false
nil-cmp [] = refl
nil-cmp (y ∷ ys) = refl

above-cmp : (k key : Key) → is_lt (key_cmp k (key ++ 0 ∷ [])) ≡ not (is_lt (key_cmp key k))
above-cmp [] [] = refl
above-cmp [] (x ∷ xs) = refl
above-cmp (y ∷ ys) [] = by (nat_cmp y 0) refl
  where
    by : (o : Ordering) → nat_cmp y 0 ≡ o → is_lt (ordering_then (nat_cmp y 0) (slice_cmp nat_cmp ys [])) ≡ false
    by Less is = absurd (grind (arith, nat_tests))
    by Equal is = rw is (nil-cmp ys)
    by Greater is = rw is refl
above-cmp (y ∷ ys) (x ∷ xs) = by (nat_cmp y x) refl (above-cmp ys xs)
  where
    by : (o : Ordering) → nat_cmp y x ≡ o → is_lt (key_cmp ys (xs ++ 0 ∷ [])) ≡ not (is_lt (key_cmp xs ys))
        → is_lt (ordering_then (nat_cmp y x) (key_cmp ys (xs ++ 0 ∷ []))) ≡ not (is_lt (ordering_then (nat_cmp x y) (key_cmp xs ys)))
    by Less is rest = (let back : nat_cmp x y ≡ Greater = nat_cmp_total.antisymm x y ∙ ap ordering_reverse is in rw (is, back) refl)
    by Equal is rest = (let back : nat_cmp x y ≡ Equal = nat_cmp_total.antisymm x y ∙ ap ordering_reverse is in rw (is, back) rest)
    by Greater is rest = (let back : nat_cmp x y ≡ Less = nat_cmp_total.antisymm x y ∙ ap ordering_reverse is in rw (is, back) refl)

pub next-record : (key : Key) (p : Point) → is_below_name (record_name (key ++ 0 ∷ [])) p ≡ not (is_below key p.name.key)
next-record key p = below-record (key ++ 0 ∷ []) p ∙ above-cmp p.name.key key

-- what stands behind a pair is not before the record of its key
pub not-before-own : (p q : Point) → name_cmp p.name q.name ≡ Less → is_below_name (record_name p.name.key) q ≡ false
not-before-own p q less = below-record p.name.key q ∙ by (key_cmp q.name.key p.name.key) refl
  where
    by : (o : Ordering) → key_cmp q.name.key p.name.key ≡ o → is_lt (key_cmp q.name.key p.name.key) ≡ false
    by Equal is = ap is_lt is
    by Greater is = ap is_lt is
    by Less is =
        (let first : name_cmp q.name p.name ≡ Less = rw is refl in
        let back : name_cmp p.name q.name ≡ Greater = name_cmp-total.antisymm p.name q.name ∙ ap ordering_reverse first in
        cc)

-- nor does it itself
pub not-before-itself : (p : Point) → is_below_name (record_name p.name.key) p ≡ false
not-before-itself p = below-record p.name.key p ∙ ap is_lt (key-itself p.name.key)
