-- Which way the reading of a value goes.
use Rattle.std.proofs.Common.{◌≡◌, ℕ, ◌≤◌, Bool, true, false, cond, eqb, ltb, leb, List, length, get_or, Result, Ok, Err, refl, sym, ap, arith}
use Rattle.std.specs.Prelude.{◌&&◌}
use Rattle.std.proofs.lemmas.Bool.{le-ltb, ltb-false, le-leb, leb-true, ne_eqb, and_parts}
use Rattle.mvcc_key.specs.Order.{Timestamp, no_time}
use Rattle.mvcc_key.specs.History.{Body, Deletion}
use Rattle.mvcc_value.specs.declared.fault.ValueFault.{ValueFault}
use Rattle.mvcc_value.specs.declared.fault.ValueFault.TheVariants.{Short}
use Rattle.mvcc_value.specs.Encoding.{plain_body, body_of, Value, with_local, headed_value, value_of}

-- five bytes or more, with the mark of a header
abbrev pub is_headed : List ℕ → Bool
is_headed bytes = leb 5 (length bytes) && eqb (get_or bytes 4 0) 0x7f

-- with the mark it is a value with a header
pub value_of-headed : (ts : Timestamp) (bytes : List ℕ) → is_headed bytes ≡ true → value_of ts bytes ≡ headed_value ts bytes
unfolding value_of
value_of-headed ts bytes e =
    let parts = and_parts (leb 5 (length bytes)) (eqb (get_or bytes 4 0) 0x7f) e in
    let long : 5 ≤ length bytes = leb-true _ _ parts.0 in
    rw (ne_eqb (length bytes) 0 (λ z. omega arith), le-ltb (length bytes) 5 long, parts.1) refl

-- fewer than five bytes are no plain value
short : (bytes : List ℕ) → ltb (length bytes) 5 ≡ true → plain_body bytes ≡ Err Short
unfolding plain_body
short bytes e = rw e refl

-- the ways, by their tests
ways : (none few marked : Bool) (plain : Result Body ValueFault) (headed : Result Value ValueFault) → (few ≡ true → plain ≡ Err Short) → (none ≡ false → few ≡ false → marked ≡ false)
    → cond none (Ok (record { local = no_time; body = Deletion })) (cond few (Err Short) (cond marked headed (with_local no_time plain)))
    ≡ with_local no_time (cond none (Ok Deletion) plain)
ways true few marked plain headed is_short unmarked = refl
ways false true marked plain headed is_short unmarked = ap (with_local no_time) (sym (is_short refl))
ways false false marked plain headed is_short unmarked = ap (λ (b : Bool). cond b headed (with_local no_time plain)) (unmarked refl refl)

-- without the mark it is nothing or a plain value
pub value_of-plain : (ts : Timestamp) (bytes : List ℕ) → is_headed bytes ≡ false → value_of ts bytes ≡ with_local no_time (body_of bytes)
unfolding value_of
value_of-plain ts bytes e =
    ways (eqb (length bytes) 0) (ltb (length bytes) 5) (eqb (get_or bytes 4 0) 0x7f) (plain_body bytes) (headed_value ts bytes) (short bytes)
    (λ some long. rw (le-leb 5 (length bytes) (ltb-false _ _ long)) at e)
