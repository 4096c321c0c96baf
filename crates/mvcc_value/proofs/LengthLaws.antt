-- What the bytes of a value tell by their number, and by the mark of a header alone.
use Rattle.std.proofs.Common.{◌≡◌, ◌≢◌, ℕ, ◌<◌, Bool, true, false, cond, leb, List, [], ◌∷◌, ◌++◌, length, refl, ap, ◌⊎◌, inl, inr, arith}
use Rattle.std.specs.Prelude.{slice_index, ◌==◌}
use Rattle.std.proofs.lemmas.Bool.{le-leb}
use Rattle.std.proofs.lemmas.Bool.Decides.{nat_tests}
use Rattle.std.proofs.lemmas.List.{length-append}
use Rattle.mvcc_key.specs.Order.{Timestamp, is_no_time}
use Rattle.mvcc_key.specs.History.{Body, Deletion, Bytes, Int, is_deletion, kept_local}
use Rattle.mvcc_value.specs.Encoding.{zigzag, varint, plain_bytes, header, header_of, value_bytes, is_deletion_value, is_value_length}

-- a header has seventeen bytes, or there is none
pub header_length-cases : (t : Timestamp) → (length (header_of t) ≡ 0) ⊎ (length (header_of t) ≡ 17)
header_length-cases t = by (is_no_time t)
  where
    none : List ℕ
    none = []

    by : (b : Bool) → (length (cond b none (header t)) ≡ 0) ⊎ (length (cond b none (header t)) ≡ 17)
    by true = inl refl
    by false = inr refl

-- a value that is no deletion has at least the bytes of a plain value
five_or_more : (front behind : List ℕ) (a b c d tag : ℕ) → leb 5 (length (front ++ a ∷ b ∷ c ∷ d ∷ tag ∷ behind)) ≡ true
five_or_more front behind a b c d tag = le-leb _ _ (omega (arith, length-append front (a ∷ b ∷ c ∷ d ∷ tag ∷ behind)))

-- the length of a value is one that it may have
pub is_value_length-value_bytes : (body : Body) (local ts : Timestamp) → is_value_length (is_deletion body) (length (value_bytes body local ts)) ≡ true
unfolding value_bytes
is_value_length-value_bytes Deletion local ts = by (header_length-cases (kept_local local ts))
  where
    by : (length (header_of (kept_local local ts)) ≡ 0) ⊎ (length (header_of (kept_local local ts)) ≡ 17) → is_value_length true (length (header_of (kept_local local ts) ++ [])) ≡ true
    by (inl none) =
        let n : length (header_of (kept_local local ts) ++ []) ≡ 0 = omega (arith, length-append (header_of (kept_local local ts)) [], none) in
        ap (is_value_length true) n
    by (inr some) =
        let n : length (header_of (kept_local local ts) ++ []) ≡ 17 = omega (arith, length-append (header_of (kept_local local ts)) [], some) in
        ap (is_value_length true) n
is_value_length-value_bytes (Bytes bytes) local ts = five_or_more (header_of (kept_local local ts)) bytes 0 0 0 0 3
is_value_length-value_bytes (Int number) local ts = five_or_more (header_of (kept_local local ts)) (varint (zigzag number)) 0 0 0 0 1

-- neither of no bytes, nor of so many that those of a header stand alone
no_deletion : (bytes : List ℕ) → 0 < length bytes → (length bytes ≡ 17 → slice_index bytes 4 ≢ 0x7f) → is_deletion_value bytes ≡ false
no_deletion bytes some other = by (length bytes == 0) (length bytes == 17) (slice_index bytes 4 == 0x7f) refl refl refl
  where
    by : (a b c : Bool) → (length bytes == 0) ≡ a → (length bytes == 17) ≡ b → (slice_index bytes 4 == 0x7f) ≡ c → is_deletion_value bytes ≡ false
    by true b c none is this = absurd (let e : length bytes ≡ 0 = grind (arith, nat_tests) in omega (arith, e, some))
    by false false c none is this = rw (none, is) refl
    by false true false none is this = rw (none, is, this) refl
    by false true true none is this = absurd (let e : length bytes ≡ 17 = grind (arith, nat_tests) in let f : slice_index bytes 4 ≡ 0x7f = grind (arith, nat_tests) in other e f)

-- a header alone is a deletion
a_deletion : (bytes : List ℕ) → length bytes ≡ 17 → slice_index bytes 4 ≡ 0x7f → is_deletion_value bytes ≡ true
a_deletion bytes long mark = rw (long, mark) refl

-- the bytes of a value are those of a deletion just where it is one
pub is_deletion_value-value_bytes : (body : Body) (local ts : Timestamp) → is_deletion_value (value_bytes body local ts) ≡ is_deletion body
unfolding value_bytes
is_deletion_value-value_bytes body local ts = by body (is_no_time (kept_local local ts)) refl
  where
    by : (body : Body) (b : Bool) → is_no_time (kept_local local ts) ≡ b → is_deletion_value (cond b [] (header (kept_local local ts)) ++ plain_bytes body) ≡ is_deletion body
    by Deletion true is = refl
    by (Bytes bytes) true is = no_deletion (plain_bytes (Bytes bytes)) (omega arith) (λ e f. cc)
    by (Int number) true is = no_deletion (plain_bytes (Int number)) (omega arith) (λ e f. cc)
    by Deletion false is = (let e = length-append (header (kept_local local ts)) [] in a_deletion (header (kept_local local ts) ++ []) (omega (arith, e)) refl)
    by (Bytes bytes) false is = (let e = length-append (header (kept_local local ts)) (plain_bytes (Bytes bytes)) in no_deletion (header (kept_local local ts) ++ plain_bytes (Bytes bytes)) (omega (arith, e)) (λ f g. absurd (omega (arith, e, f))))
    by (Int number) false is = (let e = length-append (header (kept_local local ts)) (plain_bytes (Int number)) in no_deletion (header (kept_local local ts) ++ plain_bytes (Int number)) (omega (arith, e)) (λ f g. absurd (omega (arith, e, f))))
