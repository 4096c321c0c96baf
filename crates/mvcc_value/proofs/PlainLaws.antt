-- Where the plain value lies in the bytes of a value.
use Rattle.std.proofs.Common.{◌≡◌, ℕ, ◌≤◌, true, false, List, ◌++◌, length, drop, refl, inl, inr, arith}
use Rattle.std.proofs.lemmas.List.{length-append}
use Rattle.mvcc_key.specs.Order.{Timestamp}
use Rattle.mvcc_key.specs.History.{Body, Deletion, Bytes, Int}
use Rattle.mvcc_value.specs.Encoding.{plain_bytes, header, value_bytes}
use Rattle.mvcc_value.proofs.DecodingLaws.{is_headed}
use Rattle.mvcc_value.proofs.ValueLaws.{kept_local-cases}

-- a plain value has no mark of a header
not_headed : (body : Body) → is_headed (plain_bytes body) ≡ false
not_headed Deletion = refl
not_headed (Bytes bytes) = grind arith
not_headed (Int number) = grind arith

-- the plain value is all of the bytes, or what is behind a header
pub record HasPlain (bytes : List ℕ) (body : Body) : Type 0 where
  pub behind : is_headed bytes ≡ true → drop 17 bytes ≡ plain_bytes body
  pub long : is_headed bytes ≡ true → 17 ≤ length bytes
  pub whole : is_headed bytes ≡ false → bytes ≡ plain_bytes body

whole_plain : (body : Body) → HasPlain (plain_bytes body) body
whole_plain body = record {
  behind = λ h. absurd (let no = not_headed body in cc);
  long = λ h. absurd (let no = not_headed body in cc);
  whole = λ h. refl;
}

behind_header : (local : Timestamp) (body : Body) → HasPlain (header local ++ plain_bytes body) body
behind_header local body = record {
  behind = λ h. refl;
  long = λ h. omega (arith, length-append (header local) (plain_bytes body));
  whole = λ h. absurd (let yes : is_headed (header local ++ plain_bytes body) ≡ true = grind arith in cc);
}

pub value_bytes-plain : (body : Body) (local ts : Timestamp) → HasPlain (value_bytes body local ts) body
unfolding value_bytes
value_bytes-plain body local ts =
    elim (kept_local-cases local ts) [
      | inl none ↦ rw none (whole_plain body)
      | inr kept ↦ rw (kept.0, kept.1) (behind_header local body)
    ]
