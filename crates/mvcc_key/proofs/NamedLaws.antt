-- What is known of bytes that encode a name, by their last byte, and the order of names by parts of their bytes.
use Rattle.std.proofs.Common.{◌≡◌, ◌≢◌, ℕ, ◌+◌, ◌-◌, ◌^◌, ◌<◌, ◌≤◌, Bool, true, false, cond, eqb, ltb, List, [], ◌∷◌, length, take, Result, Ok, Err, refl, sym, ap, ◌∙◌, subst, arith}
use Rattle.std.specs.Prelude.{IsOk}
use Rattle.std.specs.declared.cmp.Ordering.{Ordering}
use Rattle.std.specs.Ordering.{nat_cmp, ordering_then}
use Rattle.std.specs.Int.{w32, w64, from_be_bytes}
use Rattle.std.proofs.lemmas.Bool.{ltb-false, and_left, and_right, and_parts, eqb-true}
use Rattle.std.proofs.Math.Seq.{take-append-add}
use Rattle.std.proofs.lemmas.List.{length-take}
use Rattle.mvcc_key.specs.Order.{Timestamp, no_time, is_no_time, is_in_range, record_first, newer_first, key_cmp, Key, Name, name_cmp}
use Rattle.mvcc_key.specs.KeyFormat.{encoded_name, encoded_time, KeyFault, ZeroTime, ZeroLogical, name_of, without_last, last_bytes, byte_before, with_wall, with_counter}
use Rattle.mvcc_key.specs.Encoded.{IsBytes, IsName, name_in, known_name, rank_of, ReadingWasEncoded, RefusedIsNoEncoding}
use Rattle.mvcc_key.proofs.KeyFormatLaws.{Passed, tested-ok, Way, Bare, Wall, Counter, by_last-ok, some-length, in_range, IsEncoded-name_of, name_of-encoded_name}
use Rattle.mvcc_key.proofs.KeyOrderLaws.{nat_cmp_less, nat_cmp_greater}

-- the timestamp before a last byte 09, and before a last byte 0d
abbrev pub wall_at : List ℕ → Timestamp
wall_at bytes = record { wall = from_be_bytes w64 (take 8 (last_bytes 9 bytes)); logical = 0 }

-- the same with a counter
abbrev pub counter_at : List ℕ → Timestamp
counter_at bytes = record { wall = from_be_bytes w64 (take 8 (last_bytes 13 bytes)); logical = from_be_bytes w32 (take 4 (last_bytes 5 bytes)) }

-- the three ways in which bytes are a name, by their last byte
pub data Reading (bytes : List ℕ) (n : Name) : Type 0 where
  OfRecord : byte_before 0 bytes ≡ 0 → 0 < length bytes → n ≡ record { key = without_last 1 bytes; ts = no_time } → Reading bytes n
  OfWall : byte_before 0 bytes ≡ 9 → 10 ≤ length bytes → is_in_range (wall_at bytes) ≡ true → is_no_time (wall_at bytes) ≡ false
      → n ≡ record { key = without_last 10 bytes; ts = wall_at bytes } → Reading bytes n
  OfCounter : byte_before 0 bytes ≡ 13 → 14 ≤ length bytes → is_in_range (counter_at bytes) ≡ true → is_no_time (counter_at bytes) ≡ false
      → n ≡ record { key = without_last 14 bytes; ts = counter_at bytes } → Reading bytes n

-- a name is read in one of three ways
pub reading : (bytes : List ℕ) (n : Name) → name_of bytes ≡ Ok n → Reading bytes n
unfolding name_of
reading bytes n e =
    by (by_last-ok (eqb (length bytes) 0) (byte_before 0 bytes) (record { key = without_last 1 bytes; ts = no_time }) (with_wall bytes) (with_counter bytes) n e)
  where
    by : Way (eqb (length bytes) 0) (byte_before 0 bytes) (record { key = without_last 1 bytes; ts = no_time }) (with_wall bytes) (with_counter bytes) n → Reading bytes n
    by (Bare some end is) = OfRecord end (some-length bytes some) (sym is)
    by (Wall some end is) =
        let p : Passed (ltb (length bytes) 10) (eqb (byte_before 9 bytes) 0) (wall_at bytes) (eqb (wall_at bytes).wall 0) (without_last 10 bytes) n =
        tested-ok (ltb (length bytes) 10) (eqb (byte_before 9 bytes) 0) (wall_at bytes) (eqb (wall_at bytes).wall 0) ZeroTime (without_last 10 bytes) n is in
        OfWall end (ltb-false _ _ p.long) p.range (and_left _ _ p.something) (sym p.name)
    by (Counter some end is) =
        let p : Passed (ltb (length bytes) 14) (eqb (byte_before 13 bytes) 0) (counter_at bytes) (eqb (counter_at bytes).logical 0) (without_last 14 bytes) n =
        tested-ok (ltb (length bytes) 14) (eqb (byte_before 13 bytes) 0) (counter_at bytes) (eqb (counter_at bytes).logical 0) ZeroLogical (without_last 14 bytes) n is in
        OfCounter end (ltb-false _ _ p.long) p.range (and_right _ _ p.something) (sym p.name)

-- what was read
pub read-is : (r : Result Name KeyFault) → IsOk r → r ≡ Ok (known_name r)
read-is (Ok n) h = refl
read-is (Err fault) h = absurd cc

-- bytes that encode a name, by their last byte
pub IsName-reading : (bytes : List ℕ) → IsName bytes → Reading bytes (name_in bytes)
IsName-reading bytes h = reading bytes (name_in bytes) (read-is (name_of bytes) h.read)

-- where the key lies
pub record HasKey (bytes : List ℕ) : Type 0 where
  pub within : byte_before 0 bytes + 1 ≤ length bytes
  pub key : without_last (byte_before 0 bytes + 1) bytes ≡ (name_in bytes).key

-- the last byte tells how many bytes stand behind the key and its sentinel
pub IsName-HasKey : (bytes : List ℕ) → IsName bytes → HasKey bytes
IsName-HasKey bytes h = by (IsName-reading bytes h)
  where
    by : Reading bytes (name_in bytes) → HasKey bytes
    by (OfRecord end long is) = record { within = omega arith; key = ap (λ (b : ℕ). without_last (b + 1) bytes) end ∙ sym (ap (λ (n : Name). n.key) is) }
    by (OfWall end long range some is) = record { within = omega arith; key = ap (λ (b : ℕ). without_last (b + 1) bytes) end ∙ sym (ap (λ (n : Name). n.key) is) }
    by (OfCounter end long range some is) = record { within = omega arith; key = ap (λ (b : ℕ). without_last (b + 1) bytes) end ∙ sym (ap (λ (n : Name). n.key) is) }

-- a wall time and a counter are the rank of the name that the bytes encode
pub record AreRank (wall logical : ℕ) (bytes : List ℕ) : Type 0 where
  pub by_wall : wall ≡ rank_of (name_in bytes).ts
  pub by_logical : logical ≡ (name_in bytes).ts.logical

-- of a timestamp, and of none
rank_time : (bytes : List ℕ) (key : Key) (ts : Timestamp) → is_no_time ts ≡ false → name_in bytes ≡ record { key = key; ts = ts } → AreRank ts.wall ts.logical bytes
rank_time bytes key ts some is = record { by_wall = rw is (rw some refl); by_logical = sym (ap (λ (n : Name). n.ts.logical) is) }

rank_none : (bytes : List ℕ) (key : Key) → name_in bytes ≡ record { key = key; ts = no_time } → AreRank (2 ^ 64 - 1) 0 bytes
rank_none bytes key is = record { by_wall = rw is refl; by_logical = sym (ap (λ (n : Name). n.ts.logical) is) }

-- the rank of bytes that end with 09
pub rank-wall : (bytes : List ℕ) → IsName bytes → byte_before 0 bytes ≡ 9 → (10 ≤ length bytes) × AreRank (wall_at bytes).wall 0 bytes
rank-wall bytes h e = by (IsName-reading bytes h)
  where
    by : Reading bytes (name_in bytes) → (10 ≤ length bytes) × AreRank (wall_at bytes).wall 0 bytes
    by (OfRecord end long is) = absurd (omega arith)
    by (OfWall end long range some is) = (long, rank_time bytes _ _ some is)
    by (OfCounter end long range some is) = absurd (omega arith)

-- the rank of bytes that end with 0d
pub rank-counter : (bytes : List ℕ) → IsName bytes → byte_before 0 bytes ≡ 13 → (14 ≤ length bytes) × AreRank (counter_at bytes).wall (counter_at bytes).logical bytes
rank-counter bytes h e = by (IsName-reading bytes h)
  where
    by : Reading bytes (name_in bytes) → (14 ≤ length bytes) × AreRank (counter_at bytes).wall (counter_at bytes).logical bytes
    by (OfRecord end long is) = absurd (omega arith)
    by (OfWall end long range some is) = absurd (omega arith)
    by (OfCounter end long range some is) = (long, rank_time bytes _ _ some is)

-- the rank of other bytes
pub rank-record : (bytes : List ℕ) → IsName bytes → byte_before 0 bytes ≢ 9 → byte_before 0 bytes ≢ 13 → AreRank (2 ^ 64 - 1) 0 bytes
rank-record bytes h not_wall not_counter = by (IsName-reading bytes h)
  where
    by : Reading bytes (name_in bytes) → AreRank (2 ^ 64 - 1) 0 bytes
    by (OfRecord end long is) = rank_none bytes _ is
    by (OfWall end long range some is) = absurd (not_wall end)
    by (OfCounter end long range some is) = absurd (not_counter end)

-- a name that was read has a timestamp in range
pub named-range : (bytes : List ℕ) → IsName bytes → is_in_range (name_in bytes).ts ≡ true
named-range bytes h = by (IsName-reading bytes h)
  where
    by : Reading bytes (name_in bytes) → is_in_range (name_in bytes).ts ≡ true
    by (OfRecord end long is) = ap (λ (n : Name). is_in_range n.ts) is
    by (OfWall end long range some is) = ap (λ (n : Name). is_in_range n.ts) is ∙ range
    by (OfCounter end long range some is) = ap (λ (n : Name). is_in_range n.ts) is ∙ range

-- by the ranks, the greater ones first
abbrev pub rank_cmp : Timestamp → Timestamp → Ordering
rank_cmp s t = ordering_then (nat_cmp (rank_of t) (rank_of s)) (nat_cmp t.logical s.logical)

-- the record is first, and the newer version before the older one
rank_cmp-order : (s t : Timestamp) → s.wall < 2 ^ 63 → t.wall < 2 ^ 63
    → rank_cmp s t ≡ ordering_then (nat_cmp (record_first s) (record_first t)) (newer_first s t)
rank_cmp-order s t s_low t_low = by (is_no_time s) (is_no_time t) refl refl
  where
    by : (a b : Bool) → is_no_time s ≡ a → is_no_time t ≡ b
        → ordering_then (nat_cmp (cond b (2 ^ 64 - 1) t.wall) (cond a (2 ^ 64 - 1) s.wall)) (nat_cmp t.logical s.logical)
        ≡ ordering_then (nat_cmp (cond a 0 1) (cond b 0 1)) (newer_first s t)
    by false false p q = refl
    by true false p q = ap (λ (o : Ordering). ordering_then o (nat_cmp t.logical s.logical)) (nat_cmp_less t.wall (2 ^ 64 - 1) (omega arith))
    by false true p q = ap (λ (o : Ordering). ordering_then o (nat_cmp t.logical s.logical)) (nat_cmp_greater (2 ^ 64 - 1) s.wall (omega arith))
    by true true p q =
        let s-is = and_parts (eqb s.wall 0) (eqb s.logical 0) p in
        let t-is = and_parts (eqb t.wall 0) (eqb t.logical 0) q in
        let sw : s.wall ≡ 0 = eqb-true _ _ s-is.0 in
        let sl : s.logical ≡ 0 = eqb-true _ _ s-is.1 in
        let tw : t.wall ≡ 0 = eqb-true _ _ t-is.0 in
        let tl : t.logical ≡ 0 = eqb-true _ _ t-is.1 in
        rw (sw, sl, tw, tl) refl

-- names by their keys, and then by their ranks
pub name_cmp-ranks : (a b : List ℕ) → IsName a → IsName b
    → name_cmp (name_in a) (name_in b) ≡ ordering_then (key_cmp (name_in a).key (name_in b).key) (rank_cmp (name_in a).ts (name_in b).ts)
name_cmp-ranks a b h k =
    ap (ordering_then (key_cmp (name_in a).key (name_in b).key))
    (sym (rank_cmp-order (name_in a).ts (name_in b).ts (in_range _ (named-range a h)).0 (in_range _ (named-range b k)).0))

-- ---- what is read and what is refused

-- what is read was encoded
pub reading-encoded : ReadingWasEncoded
reading-encoded bytes n fits e = let h = IsEncoded-name_of bytes n fits e in (h.bytes_are, h.range)

-- what is refused is the encoding of no name
pub refused-encoded : RefusedIsNoEncoding
refused-encoded bytes fault n refused range is =
    let read : name_of bytes ≡ Ok n = ap name_of (sym is) ∙ name_of-encoded_name n range in
    absurd cc

-- bytes that are read as a name are its encoding
pub named-read : (bytes : List ℕ) → IsBytes bytes → IsOk (name_of bytes) → IsName bytes
named-read bytes fits h = record { read = h; spelled = sym (IsEncoded-name_of bytes (name_in bytes) fits (read-is (name_of bytes) h)).bytes_are }

-- the encoding of a name in range is read as it
pub named-encoded : (n : Name) → is_in_range n.ts ≡ true → IsName (encoded_name n)
named-encoded n range =
    let read = name_of-encoded_name n range in
    record { read = rw read refl; spelled = ap (λ (r : Result Name KeyFault). encoded_name (known_name r)) read }

-- ---- the record of a key

-- the bytes behind a key and its sentinel
abbrev tail_of : Name → List ℕ
tail_of n = cond (is_no_time n.ts) [] (encoded_time n.ts)

-- the front of an encoded key, up to and with its sentinel, is the encoding of the record
record-bytes : (bytes : List ℕ) → IsName bytes → take (length (name_in bytes).key + 1) bytes ≡ encoded_name (record { key = (name_in bytes).key; ts = no_time })
unfolding encoded_name
record-bytes bytes h =
    let n : Name = name_in bytes in
    ap (λ (b : List ℕ). take (length n.key + 1) b) (sym h.spelled) ∙ take-append-add n.key (0 ∷ tail_of n) 1

-- so it is read as the record
pub record-front : (bytes : List ℕ) → IsName bytes → name_of (take (length (name_in bytes).key + 1) bytes) ≡ Ok (record { key = (name_in bytes).key; ts = no_time })
record-front bytes h = ap name_of (record-bytes bytes h) ∙ name_of-encoded_name (record { key = (name_in bytes).key; ts = no_time }) refl

-- and is a name
pub record-named : (bytes : List ℕ) → IsName bytes → IsName (take (length (name_in bytes).key + 1) bytes)
record-named bytes h = subst IsName (sym (record-bytes bytes h)) (named-encoded (record { key = (name_in bytes).key; ts = no_time }) refl)

-- it is within the bytes
pub record-within : (bytes : List ℕ) → IsName bytes → length (name_in bytes).key + 1 ≤ length bytes
record-within bytes h =
    let k = IsName-HasKey bytes h in
    let e : length (without_last (byte_before 0 bytes + 1) bytes) ≡ length (name_in bytes).key = ap (λ (xs : List ℕ). length xs) k.key in
    omega (arith, k.within, e, length-take (length bytes - (byte_before 0 bytes + 1)) bytes)
