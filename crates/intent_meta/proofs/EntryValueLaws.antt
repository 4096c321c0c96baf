-- A value with no local timestamp is nothing or a plain value: a header is refused where the version's timestamp is none.
use Rattle.std.proofs.Common.{◌≡◌, ℕ, ◌≤◌, Bool, true, false, cond, eqb, leb, ltb, List, [], ◌∷◌, length, get_or, take, Result, Ok, Err, refl, sym, ap, ◌∙◌, arith}
use Rattle.std.specs.Prelude.{◌&&◌, not, is_ok, bytes_eq, MatchResult}
use Rattle.std.specs.declared.cmp.Ordering.{Ordering}
use Rattle.std.specs.declared.cmp.Ordering.TheVariants.{Less, Equal, Greater}
use Rattle.std.specs.Ordering.{is_lt, ordering_then, nat_cmp}
use Rattle.std.proofs.lemmas.Bool.{le-ltb, leb-true, eqb-true, ne_eqb, and_parts}
use Rattle.mvcc_key.specs.Order.{Timestamp, no_time, is_no_time, is_in_range, is_before}
use Rattle.mvcc_key.specs.History.{Body}
use Rattle.mvcc_value.specs.declared.fault.ValueFault.{ValueFault}
use Rattle.mvcc_value.specs.declared.fault.ValueFault.TheVariants.{Short, Header, LocalRange, Checksum, Tag}
use Rattle.mvcc_value.specs.Encoding.{header_length, plain_body, body_of, Value, with_local, header_time, is_local, headed_value, value_of}
use Rattle.mvcc_value.proofs.DecodingLaws.{value_of-headed, value_of-plain}
use Rattle.intent_meta.specs.Record.{is_entry_value}

-- a number is not below 0
not_below_zero : (n : ℕ) → is_lt (nat_cmp n 0) ≡ false
not_below_zero n = grind arith

-- nothing is before none
not_before_none : (t : Timestamp) → is_before t no_time ≡ false
not_before_none t = by (nat_cmp t.wall 0) (not_below_zero t.wall)
  where
    by : (o : Ordering) → is_lt o ≡ false → is_lt (ordering_then o (nat_cmp t.logical 0)) ≡ false
    by Less h = h
    by Equal h = not_below_zero t.logical
    by Greater h = refl

-- so no header has a local timestamp before none
no_local : (t : Timestamp) → is_local no_time t ≡ false
no_local t = by (not (is_no_time t) && is_in_range t) (is_before t no_time) (not_before_none t)
  where
    by : (a b : Bool) → b ≡ false → (a && b) ≡ false
    by true b h = h
    by false b h = refl

-- a value with a header is refused
headed_refused : (bytes : List ℕ) → is_ok (headed_value no_time bytes) ≡ false
headed_refused bytes =
    by (not (bytes_eq (take 4 bytes) (0 ∷ 0 ∷ 0 ∷ 0x0c ∷ []))) (ltb (length bytes) header_length) (is_local no_time (header_time bytes)) _ (no_local (header_time bytes))
  where
    by : (front short fine : Bool) (x : Result Value ValueFault) → fine ≡ false
        → is_ok (cond front (Err Header) (cond short (Err Short) (cond (not fine) (Err LocalRange) x))) ≡ false
    by true short fine x h = refl
    by false true fine x h = refl
    by false false true x h = absurd cc
    by false false false x h = refl

-- bytes with the mark of a header are no plain value
marked_refused : (bytes : List ℕ) → 5 ≤ length bytes → get_or bytes 4 0 ≡ 0x7f → is_ok (body_of bytes) ≡ false
unfolding plain_body
marked_refused bytes long mark = rw (ne_eqb (length bytes) 0 (λ z. omega arith), le-ltb (length bytes) 5 long, mark) (by (not (bytes_eq (take 4 bytes) (0 ∷ 0 ∷ 0 ∷ 0 ∷ []))))
  where
    refused : Result Body ValueFault
    refused = Err Tag

    by : (front : Bool) → is_ok (cond front (Err Checksum) refused) ≡ false
    by true = refl
    by false = refl

-- a body with a local timestamp is read where the body is
is_ok-with_local : (t : Timestamp) (body : Result Body ValueFault) → is_ok (with_local t body) ≡ is_ok body
is_ok-with_local t (Ok body) = refl
is_ok-with_local t (Err fault) = refl

-- what is read with no timestamp above it is nothing or a plain value
pub is_ok-value_of : (bytes : List ℕ) → is_ok (value_of no_time bytes) ≡ is_entry_value bytes
is_ok-value_of bytes = by (leb 5 (length bytes) && eqb (get_or bytes 4 0) 0x7f) refl
  where
    by : (b : Bool) → (leb 5 (length bytes) && eqb (get_or bytes 4 0) 0x7f) ≡ b → is_ok (value_of no_time bytes) ≡ is_entry_value bytes
    by true e =
        let parts = and_parts (leb 5 (length bytes)) (eqb (get_or bytes 4 0) 0x7f) e in
        ap is_ok (value_of-headed no_time bytes e) ∙ headed_refused bytes
        ∙ sym (marked_refused bytes (leb-true _ _ parts.0) (eqb-true _ _ parts.1))
    by false e = ap is_ok (value_of-plain no_time bytes e) ∙ is_ok-with_local no_time (body_of bytes)

-- two readings that answer alike
pub is_ok-alike : {A B E : Type 0} (r : Result A E) (x : Result B E) (f : A → B) → MatchResult r (λ v. x ≡ Ok (f v)) (λ e. x ≡ Err e) → is_ok r ≡ is_ok x
is_ok-alike (Ok v) x f h = sym (ap is_ok h)
is_ok-alike (Err e) x f h = sym (ap is_ok h)
