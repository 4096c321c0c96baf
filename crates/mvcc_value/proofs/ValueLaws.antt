-- A value that is encoded is read again, and what is read was encoded.
use Rattle.std.proofs.Common.{◌≡◌, ℕ, zero, suc, ◌+◌, ◌*◌, ◌/◌, ◌%◌, ◌^◌, ◌<◌, ◌≤◌, ℤ, pos, negsuc, Bool, true, false, cond, eqb, ltb, List, [], ◌∷◌, ◌++◌, length, get_or, take, drop, Result, Ok, Err, refl, sym, ap, subst, ◌∙◌, arith, inl, inr, ◌⊎◌}
use Rattle.std.specs.Prelude.{not, ◌&&◌, bytes_eq, ⊤, FitsSigned}
use Rattle.std.specs.Int.{w32, w64, from_be_bytes, to_be_bytes}
use Rattle.std.proofs.lemmas.Bool.{cases_lt, lt-ltb, le-ltb, ltb-true, ltb-false, eqb-true, eqb-false, ne_eqb, and_parts, and_from, not-true, not-false, not_from_false}
use Rattle.std.proofs.lemmas.List.{take-append-drop, length-append, length-drop, drop_more, drop-drop, nil_from_length}
use Rattle.std.proofs.lemmas.Slice.Eq.{bytes_eq-Decides}
use Rattle.std.proofs.Math.Nat.{pow-suc}
use Rattle.mvcc_key.specs.Order.{Timestamp, no_time, is_no_time, is_in_range, is_before}
use Rattle.mvcc_key.specs.History.{Body, Deletion, Bytes, Int, kept_local}
use Rattle.mvcc_key.proofs.ByteLaws.{IsBytes, IsBytes-drop, wide32, wide64, front-back, chosen, passed}
use Rattle.mvcc_key.proofs.KeyFormatLaws.{in_range}
use Rattle.mvcc_value.specs.declared.fault.ValueFault.{ValueFault}
use Rattle.mvcc_value.specs.declared.fault.ValueFault.TheVariants.{Short, Header, LocalRange, Checksum, Tag, IntForm}
use Rattle.mvcc_value.specs.Encoding.{zigzag, from_zigzag, groups, varint, number_of, plain_bytes, header, header_of, value_bytes, int_body, plain_body, body_of, Value, with_local, header_time, is_local, headed_value, value_of, IsEncodable, IsValueOf}

-- ---- signed numbers

-- a signed number stands for itself
pub from_zigzag-zigzag : (z : ℤ) → from_zigzag (zigzag z) ≡ z
from_zigzag-zigzag (pos n) =
    let even : 2 * n % 2 ≡ 0 = omega arith in
    let half : 2 * n / 2 ≡ n = omega arith in
    rw (even, half) refl
from_zigzag-zigzag (negsuc n) =
    let odd : (2 * n + 1) % 2 ≡ 1 = omega arith in
    let half : (2 * n + 1) / 2 ≡ n = omega arith in
    rw (odd, half) refl

-- an unsigned number stands for itself
pub zigzag-from_zigzag : (n : ℕ) → zigzag (from_zigzag n) ≡ n
zigzag-from_zigzag n = by (eqb (n % 2) 0) refl
  where
    by : (b : Bool) → eqb (n % 2) 0 ≡ b → zigzag (cond b (pos (n / 2)) (negsuc (n / 2))) ≡ n
    by true e = let even : n % 2 ≡ 0 = eqb-true _ _ e in omega arith
    by false e = let odd = eqb-false (n % 2) 0 e in grind arith

-- the numbers of 64 bits are those that a signed one of 64 bits stands for
pub zigzag-fits : (z : ℤ) → FitsSigned w64 z → zigzag z < 2 ^ 64
zigzag-fits (pos n) fits = omega arith
zigzag-fits (negsuc n) fits = omega arith

-- the other way round
pub FitsSigned-zigzag : (z : ℤ) → zigzag z < 2 ^ 64 → FitsSigned w64 z
FitsSigned-zigzag (pos n) lt = omega arith
FitsSigned-zigzag (negsuc n) lt = omega arith

-- ---- groups of 7 bits

-- a number in groups is read again, where the groups hold it
pub number_of-groups : (k n : ℕ) → n < 128 ^ k → number_of (groups k n) ≡ n
number_of-groups zero n lt = omega arith
number_of-groups (suc k) n lt =
    elim (cases_lt n 128) [
      | inl small ↦ rw (lt-ltb n 128 small) (omega arith)
      | inr large ↦
          let power : 128 ^ suc k ≡ 128 ^ k * 128 = pow-suc 128 k in
          let rest = number_of-groups k (n / 128) (omega arith) in
          rw (le-ltb n 128 large) (rw rest (omega arith))
    ]

-- the shortest form of a number of 64 bits is read again
pub number_of-varint : (n : ℕ) → n < 2 ^ 64 → number_of (varint n) ≡ n
unfolding varint
number_of-varint n lt = number_of-groups 10 n (omega arith)

-- ---- plain values

-- bytes are the same as themselves
same : (xs : List ℕ) → bytes_eq xs xs ≡ true
same xs = (bytes_eq-Decides xs xs).1 refl

-- the data of a number is read again
int_again : (number : ℤ) → zigzag number < 2 ^ 64 → int_body (varint (zigzag number)) ≡ Ok (Int number)
int_again number lt =
    let read : number_of (varint (zigzag number)) ≡ zigzag number = number_of-varint (zigzag number) lt in
    ap (λ (n : ℕ). cond (ltb n (2 ^ 64) && bytes_eq (varint n) (varint (zigzag number))) (Ok (Int (from_zigzag n))) (Err IntForm)) read
    ∙ ap (λ (b : Bool). cond b (Ok (Int (from_zigzag (zigzag number)))) (Err IntForm)) (and_from _ _ (lt-ltb _ _ lt) (same (varint (zigzag number))))
    ∙ ap (λ (z : ℤ). Ok (Int z)) (from_zigzag-zigzag number)

-- a body that is not a deletion
abbrev pub IsPlain : Body → Type 0
IsPlain Deletion = ⊥
IsPlain (Bytes bytes) = ⊤
IsPlain (Int number) = ⊤

-- a plain value is read again
pub plain_body-plain_bytes : (body : Body) → IsPlain body → IsEncodable body → plain_body (plain_bytes body) ≡ Ok body
unfolding plain_body
plain_body-plain_bytes Deletion plain coded = absurd plain
plain_body-plain_bytes (Bytes bytes) plain coded = rw (le-ltb (length (0 ∷ 0 ∷ 0 ∷ 0 ∷ 3 ∷ bytes)) 5 (omega arith)) refl
plain_body-plain_bytes (Int number) plain coded =
    rw (le-ltb (length (0 ∷ 0 ∷ 0 ∷ 0 ∷ 1 ∷ varint (zigzag number))) 5 (omega arith)) (int_again number (zigzag-fits number coded))

-- a plain value or a deletion is read again
pub body_of-plain_bytes : (body : Body) → IsEncodable body → body_of (plain_bytes body) ≡ Ok body
body_of-plain_bytes Deletion coded = refl
body_of-plain_bytes (Bytes bytes) coded = rw (ne_eqb (length (0 ∷ 0 ∷ 0 ∷ 0 ∷ 3 ∷ bytes)) 0 (λ e. omega arith)) (plain_body-plain_bytes (Bytes bytes) tt coded)
body_of-plain_bytes (Int number) coded =
    rw (ne_eqb (length (0 ∷ 0 ∷ 0 ∷ 0 ∷ 1 ∷ varint (zigzag number))) 0 (λ e. omega arith)) (plain_body-plain_bytes (Int number) tt coded)

-- ---- plain values, back

-- a body whose plain bytes these are
pub record IsPlainOf (bytes : List ℕ) (body : Body) : Type 0 where
  pub bytes_are : bytes ≡ plain_bytes body
  pub encodable : IsEncodable body
  pub some : 0 < length bytes → IsPlain body

-- the data of a number that is read was encoded
int_back : (bytes : List ℕ) (body : Body) → int_body bytes ≡ Ok body → IsPlainOf (0 ∷ 0 ∷ 0 ∷ 0 ∷ 1 ∷ bytes) body
int_back bytes body e =
    elim (chosen (ltb (number_of bytes) (2 ^ 64) && bytes_eq (varint (number_of bytes)) bytes) (Ok (Int (from_zigzag (number_of bytes)))) (Err IntForm) body e) [
      | inl is ↦
          let tests = and_parts (ltb (number_of bytes) (2 ^ 64)) (bytes_eq (varint (number_of bytes)) bytes) is.0 in
          let again : varint (number_of bytes) ≡ bytes = (bytes_eq-Decides (varint (number_of bytes)) bytes).0 tests.1 in
          let number : zigzag (from_zigzag (number_of bytes)) ≡ number_of bytes = zigzag-from_zigzag (number_of bytes) in
          let body-is : Int (from_zigzag (number_of bytes)) ≡ body = cc in
          subst (IsPlainOf (0 ∷ 0 ∷ 0 ∷ 0 ∷ 1 ∷ bytes)) body-is (record {
            bytes_are = ap (λ (xs : List ℕ). 0 ∷ 0 ∷ 0 ∷ 0 ∷ 1 ∷ xs) (sym again ∙ ap varint (sym number));
            encodable = FitsSigned-zigzag (from_zigzag (number_of bytes)) (subst (λ (n : ℕ). n < 2 ^ 64) (sym number) (ltb-true _ _ tests.0));
            some = λ h. tt;
          })
      | inr isnt ↦ absurd cc
    ]

-- the first four bytes, the fifth, and the others
pub five : (bytes front : List ℕ) (b : ℕ) → 5 ≤ length bytes → take 4 bytes ≡ front → get_or bytes 4 0 ≡ b → bytes ≡ front ++ b ∷ drop 5 bytes
five bytes front b long front-is b-is =
    sym (take-append-drop 4 bytes) ∙ ap (λ (xs : List ℕ). take 4 bytes ++ xs) (drop_more bytes 4 0 (omega arith)) ∙ rw (front-is, b-is) refl

-- a plain value that is read was encoded
pub IsPlainOf-plain_body : (bytes : List ℕ) (body : Body) → plain_body bytes ≡ Ok body → IsPlainOf bytes body
unfolding plain_body
IsPlainOf-plain_body bytes body e =
    let a = passed (ltb (length bytes) 5) Short _ body e in
    let b = passed (not (bytes_eq (take 4 bytes) (0 ∷ 0 ∷ 0 ∷ 0 ∷ []))) Checksum _ body a.1 in
    let long : 5 ≤ length bytes = ltb-false _ _ a.0 in
    let front : take 4 bytes ≡ 0 ∷ 0 ∷ 0 ∷ 0 ∷ [] = (bytes_eq-Decides (take 4 bytes) (0 ∷ 0 ∷ 0 ∷ 0 ∷ [])).0 (not-false _ b.0) in
    elim (chosen (eqb (get_or bytes 4 0) 3) (Ok (Bytes (drop 5 bytes))) _ body b.1) [
      | inl is ↦
          let body-is : Bytes (drop 5 bytes) ≡ body = cc in
          subst (IsPlainOf bytes) body-is (record { bytes_are = five bytes (0 ∷ 0 ∷ 0 ∷ 0 ∷ []) 3 long front (eqb-true _ _ is.0); encodable = tt; some = λ h. tt })
      | inr isnt ↦ elim (chosen (eqb (get_or bytes 4 0) 1) (int_body (drop 5 bytes)) (Err Tag) body isnt.1) [
        | inl is ↦ subst (λ (xs : List ℕ). IsPlainOf xs body) (sym (five bytes (0 ∷ 0 ∷ 0 ∷ 0 ∷ []) 1 long front (eqb-true _ _ is.0))) (int_back (drop 5 bytes) body is.1)
        | inr isnt ↦ absurd cc
      ]
    ]

-- a plain value or a deletion that is read was encoded
pub IsPlainOf-body_of : (bytes : List ℕ) (body : Body) → body_of bytes ≡ Ok body → IsPlainOf bytes body
IsPlainOf-body_of bytes body e =
    elim (chosen (eqb (length bytes) 0) (Ok Deletion) (plain_body bytes) body e) [
      | inl is ↦
          let nothing : length bytes ≡ 0 = eqb-true _ _ is.0 in
          let body-is : Deletion ≡ body = cc in
          subst (IsPlainOf bytes) body-is (record { bytes_are = nil_from_length bytes nothing; encodable = tt; some = λ h. absurd (omega arith) })
      | inr isnt ↦ IsPlainOf-plain_body bytes body isnt.1
    ]

-- ---- local timestamps

-- a local timestamp is kept, or it is not
pub kept_local-cases : (local ts : Timestamp)
    → (kept_local local ts ≡ no_time) ⊎ ((kept_local local ts ≡ local) × (is_no_time local ≡ false) × (is_before local ts ≡ true))
kept_local-cases local ts = by (is_no_time local) (is_before local ts) refl refl
  where
    by : (a b : Bool) → is_no_time local ≡ a → is_before local ts ≡ b
        → (cond (not a && b) local no_time ≡ no_time) ⊎ ((cond (not a && b) local no_time ≡ local) × (is_no_time local ≡ false) × (is_before local ts ≡ true))
    by true b p q = inl refl
    by false true p q = inr (refl, p, q)
    by false false p q = inl refl

-- a local timestamp that is one and below ts is kept
pub kept_local_kept : (local ts : Timestamp) → is_no_time local ≡ false → is_before local ts ≡ true → kept_local local ts ≡ local
kept_local_kept local ts p q = rw (p, q) refl

-- a value with a header, by its tests
abbrev headed : Bool → Bool → Bool → Timestamp → Result Body ValueFault → Result Value ValueFault
headed front short fine t body = cond (not front) (Err Header) (cond short (Err Short) (cond (not fine) (Err LocalRange) (with_local t body)))

-- a value whose header passes its tests
headed_is : (front short fine : Bool) (t : Timestamp) (body : Body) → front ≡ true → short ≡ false → fine ≡ true
    → headed front short fine t (Ok body) ≡ Ok (record { local = t; body = body })
headed_is front short fine t body a b c = rw (a, b, c) refl

-- ---- whole values

-- a value with a header is read again
header_again : (ts t : Timestamp) (body : Body) → is_no_time t ≡ false → is_in_range t ≡ true → is_before t ts ≡ true → IsEncodable body
    → value_of ts (header t ++ plain_bytes body) ≡ Ok (record { local = t; body = body })
unfolding value_of
header_again ts t body some range before coded =
    let bytes : List ℕ = header t ++ plain_bytes body in
    let far = in_range t range in
    let long : 17 ≤ length bytes = omega (arith, length-append (header t) (plain_bytes body)) in
    let wall : from_be_bytes w64 (take 8 (drop 5 bytes)) ≡ t.wall = wide64.again t.wall (omega arith) in
    let logical : from_be_bytes w32 (take 4 (drop 13 bytes)) ≡ t.logical = wide32.again t.logical (omega arith) in
    let time : header_time bytes ≡ t = λ i. record { wall = wall i; logical = logical i } in
    let fine : is_local ts t ≡ true = and_from _ _ (and_from _ _ (not_from_false _ some) range) before in
    ap (λ (b : Bool). cond b (Ok (record { local = no_time; body = Deletion })) (cond (ltb (length bytes) 5) (Err Short) (headed_value ts bytes))) (ne_eqb (length bytes) 0 (λ e. omega arith))
    ∙ ap (λ (b : Bool). cond b (Err Short) (headed_value ts bytes)) (le-ltb (length bytes) 5 (omega arith))
    ∙ ap (λ (u : Timestamp). headed true (ltb (length bytes) 17) (is_local ts u) u (body_of (plain_bytes body))) time
    ∙ ap (λ (b : Result Body ValueFault). headed true (ltb (length bytes) 17) (is_local ts t) t b) (body_of-plain_bytes body coded)
    ∙ headed_is true (ltb (length bytes) 17) (is_local ts t) t body refl (le-ltb (length bytes) 17 long) fine

-- a value without a header is read again
plain_again : (ts : Timestamp) (body : Body) → IsEncodable body → value_of ts (plain_bytes body) ≡ Ok (record { local = no_time; body = body })
unfolding value_of
plain_again ts Deletion coded = refl
plain_again ts (Bytes bytes) coded =
    let whole : List ℕ = 0 ∷ 0 ∷ 0 ∷ 0 ∷ 3 ∷ bytes in
    ap (λ (b : Bool). cond b (Ok (record { local = no_time; body = Deletion })) (cond (ltb (length whole) 5) (Err Short) (with_local no_time (plain_body whole)))) (ne_eqb (length whole) 0 (λ e. omega arith))
    ∙ ap (λ (b : Bool). cond b (Err Short) (with_local no_time (plain_body whole))) (le-ltb (length whole) 5 (omega arith))
    ∙ ap (with_local no_time) (plain_body-plain_bytes (Bytes bytes) tt coded)
plain_again ts (Int number) coded =
    let whole : List ℕ = 0 ∷ 0 ∷ 0 ∷ 0 ∷ 1 ∷ varint (zigzag number) in
    ap (λ (b : Bool). cond b (Ok (record { local = no_time; body = Deletion })) (cond (ltb (length whole) 5) (Err Short) (with_local no_time (plain_body whole)))) (ne_eqb (length whole) 0 (λ e. omega arith))
    ∙ ap (λ (b : Bool). cond b (Err Short) (with_local no_time (plain_body whole))) (le-ltb (length whole) 5 (omega arith))
    ∙ ap (with_local no_time) (plain_body-plain_bytes (Int number) tt coded)

-- a value is read again, with its local timestamp where that was kept
pub value_of-value_bytes : (body : Body) (local ts : Timestamp) → IsEncodable body → is_in_range local ≡ true
    → value_of ts (value_bytes body local ts) ≡ Ok (record { local = kept_local local ts; body = body })
unfolding value_bytes
value_of-value_bytes body local ts coded range =
    elim (kept_local-cases local ts) [
      | inl none ↦
          ap (λ (t : Timestamp). value_of ts (header_of t ++ plain_bytes body)) none ∙ plain_again ts body coded
          ∙ ap (λ (t : Timestamp). Ok (record { local = t; body = body })) (sym none)
      | inr kept ↦
          ap (λ (t : Timestamp). value_of ts (header_of t ++ plain_bytes body)) kept.0
          ∙ ap (λ (b : Bool). value_of ts (cond b [] (header local) ++ plain_bytes body)) kept.1
          ∙ header_again ts local body kept.1 range kept.2 coded
          ∙ ap (λ (t : Timestamp). Ok (record { local = t; body = body })) (sym kept.0)
    ]

-- the body beside a local timestamp
with_local_ok : (local : Timestamp) (r : Result Body ValueFault) (v : Value) → with_local local r ≡ Ok v → (body : Body) × (r ≡ Ok body) × (record { local = local; body = body } ≡ v)
with_local_ok local (Ok body) v e = (body, refl, cc)
with_local_ok local (Err fault) v e = absurd cc

-- a value without a header
plain_back : (ts : Timestamp) (bytes : List ℕ) (v : Value) → with_local no_time (plain_body bytes) ≡ Ok v → IsValueOf ts bytes v
unfolding value_bytes
plain_back ts bytes v e =
    let b = with_local_ok no_time (plain_body bytes) v e in
    let plain : IsPlainOf bytes b.0 = IsPlainOf-plain_body bytes b.0 b.1 in
    subst (IsValueOf ts bytes) b.2 (record { bytes_are = plain.bytes_are; kept = refl; range = refl; encodable = plain.encodable })

-- the bytes of a header, where they are ones
header_back : (bytes : List ℕ) → IsBytes bytes → 17 ≤ length bytes → take 4 bytes ≡ 0 ∷ 0 ∷ 0 ∷ 0x0c ∷ [] → get_or bytes 4 0 ≡ 0x7f
    → bytes ≡ header (header_time bytes) ++ drop 17 bytes
header_back bytes fits long front mark =
    let wall : to_be_bytes w64 (header_time bytes).wall ≡ take 8 (drop 5 bytes) =
    front-back w64 (2 ^ 64) wide64 (drop 5 bytes) (omega (arith, length-drop 5 bytes)) (IsBytes-drop 5 bytes fits) in
    let logical : to_be_bytes w32 (header_time bytes).logical ≡ take 4 (drop 13 bytes) =
    front-back w32 (2 ^ 32) wide32 (drop 13 bytes) (omega (arith, length-drop 13 bytes)) (IsBytes-drop 13 bytes fits) in
    let end : drop 13 bytes ≡ to_be_bytes w32 (header_time bytes).logical ++ drop 17 bytes =
    sym (take-append-drop 4 (drop 13 bytes)) ∙ ap (λ (xs : List ℕ). xs ++ drop 4 (drop 13 bytes)) (sym logical)
    ∙ ap (λ (xs : List ℕ). to_be_bytes w32 (header_time bytes).logical ++ xs) (drop-drop 4 13 bytes) in
    let rest : drop 5 bytes ≡ to_be_bytes w64 (header_time bytes).wall ++ (to_be_bytes w32 (header_time bytes).logical ++ drop 17 bytes) =
    sym (take-append-drop 8 (drop 5 bytes)) ∙ ap (λ (xs : List ℕ). xs ++ drop 8 (drop 5 bytes)) (sym wall)
    ∙ ap (λ (xs : List ℕ). to_be_bytes w64 (header_time bytes).wall ++ xs) (drop-drop 8 5 bytes ∙ end) in
    five bytes (0 ∷ 0 ∷ 0 ∷ 0x0c ∷ []) 0x7f (omega arith) front mark
    ∙ ap (λ (xs : List ℕ). 0 ∷ 0 ∷ 0 ∷ 0x0c ∷ 0x7f ∷ xs) rest

-- a value with a header that is read was encoded
headed_back : (ts : Timestamp) (bytes : List ℕ) (v : Value) → IsBytes bytes → get_or bytes 4 0 ≡ 0x7f → headed_value ts bytes ≡ Ok v → IsValueOf ts bytes v
unfolding value_bytes
headed_back ts bytes v fits mark e =
    let a = passed (not (bytes_eq (take 4 bytes) (0 ∷ 0 ∷ 0 ∷ 0x0c ∷ []))) Header _ v e in
    let b = passed (ltb (length bytes) 17) Short _ v a.1 in
    let c = passed (not (is_local ts (header_time bytes))) LocalRange _ v b.1 in
    let d = with_local_ok (header_time bytes) (body_of (drop 17 bytes)) v c.1 in
    let t : Timestamp = header_time bytes in
    let tests = and_parts (not (is_no_time t) && is_in_range t) (is_before t ts) (not-false _ c.0) in
    let times = and_parts (not (is_no_time t)) (is_in_range t) tests.0 in
    let some : is_no_time t ≡ false = not-true _ times.0 in
    let kept : kept_local t ts ≡ t = kept_local_kept t ts some tests.1 in
    let front : take 4 bytes ≡ 0 ∷ 0 ∷ 0 ∷ 0x0c ∷ [] = (bytes_eq-Decides (take 4 bytes) (0 ∷ 0 ∷ 0 ∷ 0x0c ∷ [])).0 (not-false _ a.0) in
    let plain : IsPlainOf (drop 17 bytes) d.0 = IsPlainOf-body_of (drop 17 bytes) d.0 d.1 in
    let whole : bytes ≡ header_of (kept_local t ts) ++ plain_bytes d.0 =
    header_back bytes fits (ltb-false _ _ b.0) front mark
    ∙ ap (λ (xs : List ℕ). header t ++ xs) plain.bytes_are
    ∙ ap (λ (b : Bool). cond b [] (header t) ++ plain_bytes d.0) (sym some)
    ∙ ap (λ (u : Timestamp). header_of u ++ plain_bytes d.0) (sym kept) in
    subst (IsValueOf ts bytes) d.2 (record { bytes_are = whole; kept = kept; range = times.1; encodable = plain.encodable })

-- what is read was encoded
pub IsValueOf-value_of : (ts : Timestamp) (bytes : List ℕ) (v : Value) → IsBytes bytes → value_of ts bytes ≡ Ok v → IsValueOf ts bytes v
unfolding value_of value_bytes
IsValueOf-value_of ts bytes v fits e =
    elim (chosen (eqb (length bytes) 0) (Ok (record { local = no_time; body = Deletion })) _ v e) [
      | inl is ↦
          let nothing : bytes ≡ [] = nil_from_length bytes (eqb-true _ _ is.0) in
          let v-is : record { local = no_time; body = Deletion } ≡ v = cc in
          subst (IsValueOf ts bytes) v-is (record { bytes_are = nothing; kept = refl; range = refl; encodable = tt })
      | inr isnt ↦
          let a = passed (ltb (length bytes) 5) Short _ v isnt.1 in
          elim (chosen (eqb (get_or bytes 4 0) 0x7f) (headed_value ts bytes) (with_local no_time (plain_body bytes)) v a.1) [
            | inl is ↦ headed_back ts bytes v fits (eqb-true _ _ is.0) is.1
            | inr isnt ↦ plain_back ts bytes v isnt.1
          ]
    ]
