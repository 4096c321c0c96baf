-- Ids as numbers and as bytes.
use Rattle.std.proofs.Common.{◌≡◌, ℕ, ◌/◌, ◌%◌, ◌^◌, ◌<◌, List, [], ◌∷◌, length, get_or, sym, ap, ◌∙◌, bytes_eq, nat_eq, arith}
use Rattle.std.specs.Int.{w128, to_be_bytes, from_be_bytes}
use Rattle.std.proofs.lemmas.Bool.Decides.{Decides-eqb, Decides-like, same_from_decides}
use Rattle.std.proofs.lemmas.Slice.Eq.{bytes_eq-Decides}
use Rattle.uuid.proofs.OrderLemmas.{from_be_bytes-to_be_bytes_16}
use Rattle.txn_state.specs.views.SeenId.{id_of}
use Rattle.txn_state.specs.declared.id.TxnId.{TxnId}

-- sixteen bytes are those of the number that they make
sixteen : (bs : List ℕ) (n : ℕ) → length bs ≡ 16 → ((i : ℕ) → get_or bs i 0 < 256) → n ≡ from_be_bytes w128 bs → to_be_bytes w128 n ≡ bs
sixteen (b0 ∷ b1 ∷ b2 ∷ b3 ∷ b4 ∷ b5 ∷ b6 ∷ b7 ∷ b8 ∷ b9 ∷ b10 ∷ b11 ∷ b12 ∷ b13 ∷ b14 ∷ b15 ∷ []) n l small is =
    let l0 : b0 < 256 = small 0 in
    let l1 : b1 < 256 = small 1 in
    let l2 : b2 < 256 = small 2 in
    let l3 : b3 < 256 = small 3 in
    let l4 : b4 < 256 = small 4 in
    let l5 : b5 < 256 = small 5 in
    let l6 : b6 < 256 = small 6 in
    let l7 : b7 < 256 = small 7 in
    let l8 : b8 < 256 = small 8 in
    let l9 : b9 < 256 = small 9 in
    let l10 : b10 < 256 = small 10 in
    let l11 : b11 < 256 = small 11 in
    let l12 : b12 < 256 = small 12 in
    let l13 : b13 < 256 = small 13 in
    let l14 : b14 < 256 = small 14 in
    let l15 : b15 < 256 = small 15 in
    let at0 : n / 1329227995784915872903807060280344576 % 256 ≡ b0 = omega arith in
    let at1 : n / 5192296858534827628530496329220096 % 256 ≡ b1 = omega arith in
    let at2 : n / 20282409603651670423947251286016 % 256 ≡ b2 = omega arith in
    let at3 : n / 79228162514264337593543950336 % 256 ≡ b3 = omega arith in
    let at4 : n / 309485009821345068724781056 % 256 ≡ b4 = omega arith in
    let at5 : n / 1208925819614629174706176 % 256 ≡ b5 = omega arith in
    let at6 : n / 4722366482869645213696 % 256 ≡ b6 = omega arith in
    let at7 : n / 18446744073709551616 % 256 ≡ b7 = omega arith in
    let at8 : n / 72057594037927936 % 256 ≡ b8 = omega arith in
    let at9 : n / 281474976710656 % 256 ≡ b9 = omega arith in
    let at10 : n / 1099511627776 % 256 ≡ b10 = omega arith in
    let at11 : n / 4294967296 % 256 ≡ b11 = omega arith in
    let at12 : n / 16777216 % 256 ≡ b12 = omega arith in
    let at13 : n / 65536 % 256 ≡ b13 = omega arith in
    let at14 : n / 256 % 256 ≡ b14 = omega arith in
    let at15 : n % 256 ≡ b15 = omega arith in
    λ i. at0 i ∷ at1 i ∷ at2 i ∷ at3 i ∷ at4 i ∷ at5 i ∷ at6 i ∷ at7 i ∷ at8 i ∷ at9 i ∷ at10 i ∷ at11 i ∷ at12 i ∷ at13 i ∷ at14 i ∷ at15 i ∷ []
sixteen bs n l small is = absurd (omega (arith, l))

-- a number is read again from its bytes
again : (n : ℕ) → n < 2 ^ 128 → from_be_bytes w128 (to_be_bytes w128 n) ≡ n
again = from_be_bytes-to_be_bytes_16

-- the id with the number of sixteen bytes has these bytes
pub id_of-bytes : (bs : List ℕ) (id : TxnId) → length bs ≡ 16 → ((i : ℕ) → get_or bs i 0 < 256) → id.bits ≡ from_be_bytes w128 bs → id_of id ≡ bs
unfolding id_of
id_of-bytes bs id l small is = sixteen bs id.bits l small is

-- two ids have the same number where they have the same bytes
pub nat_eq-bits : (a b : TxnId) → a.bits < 2 ^ 128 → b.bits < 2 ^ 128 → nat_eq a.bits b.bits ≡ bytes_eq (id_of a) (id_of b)
unfolding id_of
nat_eq-bits a b a_fits b_fits =
    same_from_decides (nat_eq a.bits b.bits) (bytes_eq (id_of a) (id_of b)) (Decides-eqb a.bits b.bits)
    (Decides-like (bytes_eq (id_of a) (id_of b))
    (λ e. sym (again a.bits a_fits) ∙ ap (from_be_bytes w128) e ∙ again b.bits b_fits)
    (λ e. ap (to_be_bytes w128) e)
    (bytes_eq-Decides (id_of a) (id_of b)))
