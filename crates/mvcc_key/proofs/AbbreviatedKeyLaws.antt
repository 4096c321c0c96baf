-- Keys by their abbreviated keys.
use Rattle.std.proofs.Common.{◌≡◌, ◌≢◌, ℕ, zero, suc, ◌+◌, ◌-◌, ◌*◌, ◌/◌, ◌%◌, ◌^◌, ◌<◌, ◌≤◌, List, [], ◌∷◌, ◌++◌, length, take, drop, Result, refl, sym, ap, ap₂, subst, ◌∙◌, append-nil, arith, ◌⊎◌, inl, inr}
use Rattle.std.specs.Prelude.{Option, Some, None, IfSome, slice_get, true, false}
use Rattle.std.specs.declared.cmp.Ordering.{Ordering}
use Rattle.std.specs.declared.cmp.Ordering.TheVariants.{Less, Equal, Greater}
use Rattle.std.specs.Ordering.{nat_cmp, ordering_then, is_lt}
use Rattle.std.specs.Cmp.Lexicographic.{slice_cmp}
use Rattle.std.specs.Int.{w64, from_be_bytes}
use Rattle.std.proofs.lemmas.Bool.{cases_order}
use Rattle.std.proofs.lemmas.Cmp.{ranked}
use Rattle.std.proofs.lemmas.List.{length-append, take-append-drop}
use Rattle.std.proofs.lemmas.Nat.{pow-add, div-mul-add}
use Rattle.std.proofs.Math.Nat.{add-mul, mul-le-mul_right, mul_assoc, mod-eq_of_lt, div-mul-le_self, pow-succ'}
use Rattle.mvcc_key.specs.Order.{key_cmp, Name, name_cmp}
use Rattle.mvcc_key.specs.views.AbbreviatedKey.{abbreviated_to, abbreviated_key, IsAbbreviatedKey}
use Rattle.mvcc_key.proofs.ByteLaws.{IsBytes, IsBytes-rest, IsBytes-take, IsBytes-drop}
use Rattle.mvcc_key.specs.KeyFormat.{KeyFault, byte_before}
use Rattle.mvcc_key.specs.Encoded.{name_in, known_name, IsName}
use Rattle.mvcc_key.specs.Points.{Point, is_below_name}
use Rattle.mvcc_key.proofs.NamedLaws.{IsName-HasKey}
use Rattle.mvcc_key.proofs.PointLaws.{HasPoint}
use Rattle.mvcc_key.proofs.KeyOrderLaws.{nat_cmp_less, nat_cmp_equal, nat_cmp_greater, nat_cmp-add, nat_cmp-digits, pow-some}

-- ---- abbreviated keys as numbers

-- an abbreviated key of n bytes has n digits
pub abbreviated-below : (n : ℕ) (key : List ℕ) → IsBytes key → abbreviated_to n key < 256 ^ n
abbreviated-below zero key fits = omega arith
abbreviated-below (suc n) [] fits = pow-some (suc n)
abbreviated-below (suc n) (b ∷ key) fits =
    let rest = abbreviated-below n key (IsBytes-rest b key fits) in
    let byte : b < 256 = fits 0 in
    let top : (b + 1) * 256 ^ n ≤ 256 * 256 ^ n = mul-le-mul_right (256 ^ n) (omega arith) in
    let expand : (b + 1) * 256 ^ n ≡ b * 256 ^ n + 1 * 256 ^ n = add-mul b 1 (256 ^ n) in
    let more : 256 ^ suc n ≡ 256 * 256 ^ n = pow-succ' 256 n in
    omega arith

-- the abbreviated key of nothing
pub abbreviated-nil : (n : ℕ) → abbreviated_to n [] ≡ 0
abbreviated-nil zero = refl
abbreviated-nil (suc n) = refl

-- an abbreviated key is the number in the first bytes
pub abbreviated-number : (bytes : List ℕ) → 8 ≤ length bytes → from_be_bytes w64 (take 8 bytes) ≡ abbreviated_to 8 bytes
abbreviated-number [] long = absurd (omega arith)
abbreviated-number (a ∷ []) long = absurd (omega arith)
abbreviated-number (a ∷ b ∷ []) long = absurd (omega arith)
abbreviated-number (a ∷ b ∷ c ∷ []) long = absurd (omega arith)
abbreviated-number (a ∷ b ∷ c ∷ d ∷ []) long = absurd (omega arith)
abbreviated-number (a ∷ b ∷ c ∷ d ∷ e ∷ []) long = absurd (omega arith)
abbreviated-number (a ∷ b ∷ c ∷ d ∷ e ∷ f ∷ []) long = absurd (omega arith)
abbreviated-number (a ∷ b ∷ c ∷ d ∷ e ∷ f ∷ g ∷ []) long = absurd (omega arith)
abbreviated-number (a ∷ b ∷ c ∷ d ∷ e ∷ f ∷ g ∷ h ∷ bytes) long = omega arith

-- the abbreviated key of bytes in two parts
pub abbreviated-append : (key rest : List ℕ) (m : ℕ) → abbreviated_to (length key + m) (key ++ rest) ≡ abbreviated_to (length key) key * 256 ^ m + abbreviated_to m rest
abbreviated-append [] rest m =
    let same : 0 + m ≡ m = omega arith in
    let none : abbreviated_to m rest ≡ 0 * 256 ^ m + abbreviated_to m rest = omega arith in
    ap (λ (n : ℕ). abbreviated_to n rest) same ∙ none
abbreviated-append (b ∷ key) rest m =
    let n = length key in
    let high : b * 256 ^ (n + m) ≡ b * 256 ^ n * 256 ^ m = ap (λ (x : ℕ). b * x) (pow-add 256 n m) ∙ sym (mul_assoc b (256 ^ n) (256 ^ m)) in
    let parts : (b * 256 ^ n + abbreviated_to n key) * 256 ^ m ≡ b * 256 ^ n * 256 ^ m + abbreviated_to n key * 256 ^ m = add-mul (b * 256 ^ n) (abbreviated_to n key) (256 ^ m) in
    let more = abbreviated-append key rest m in
    let longer : length (b ∷ key) + m ≡ suc (n + m) = omega arith in
    ap (λ (k : ℕ). abbreviated_to k (b ∷ (key ++ rest))) longer ∙ sums (b * 256 ^ (n + m)) (abbreviated_to (n + m) (key ++ rest)) (b * 256 ^ n * 256 ^ m) (abbreviated_to n key * 256 ^ m) (abbreviated_to m rest) ((b * 256 ^ n + abbreviated_to n key) * 256 ^ m) high more parts
  where
    sums : (a t x y z w : ℕ) → a ≡ x → t ≡ y + z → w ≡ x + y → a + t ≡ w + z
    sums a t x y z w p q r = omega arith

-- zeros stand behind a short key
pub abbreviated-short : (key : List ℕ) (m : ℕ) → abbreviated_to (length key + m) key ≡ abbreviated_to (length key) key * 256 ^ m
abbreviated-short key m =
    let parts = abbreviated-append key [] m in
    let none = abbreviated-nil m in
    ap (abbreviated_to (length key + m)) (sym (append-nil key)) ∙ omega arith

-- the highest bytes of the number at the front of longer bytes
pub abbreviated-upper : (key rest : List ℕ) (m : ℕ) → IsBytes rest
    → abbreviated_to (length key + m) (key ++ rest) / 256 ^ m * 256 ^ m ≡ abbreviated_to (length key + m) key
abbreviated-upper key rest m fits =
    ap (λ (x : ℕ). x / 256 ^ m * 256 ^ m) (abbreviated-append key rest m)
    ∙ ap (λ (x : ℕ). x * 256 ^ m) (div-mul-add (abbreviated_to (length key) key) (256 ^ m) (abbreviated_to m rest) (abbreviated-below m rest fits))
    ∙ sym (abbreviated-short key m)

-- ---- keys by their abbreviated keys

-- where the abbreviated keys differ they decide
pub abbreviated-apart : (n : ℕ) (a b : List ℕ) → IsBytes a → IsBytes b → abbreviated_to n a ≢ abbreviated_to n b → slice_cmp nat_cmp a b ≡ nat_cmp (abbreviated_to n a) (abbreviated_to n b)
abbreviated-apart zero a b fa fb apart = absurd (apart refl)
abbreviated-apart (suc n) [] [] fa fb apart = absurd (apart refl)
abbreviated-apart (suc n) [] (y ∷ b) fa fb apart = sym (nat_cmp_less 0 (y * 256 ^ n + abbreviated_to n b) (let some : 0 ≢ y * 256 ^ n + abbreviated_to n b = apart in omega arith))
abbreviated-apart (suc n) (x ∷ a) [] fa fb apart = sym (nat_cmp_greater (x * 256 ^ n + abbreviated_to n a) 0 (let some : x * 256 ^ n + abbreviated_to n a ≢ 0 = apart in omega arith))
abbreviated-apart (suc n) (x ∷ a) (y ∷ b) fa fb apart =
    let r = abbreviated_to n a in
    let s = abbreviated_to n b in
    elim (cases_order x y) [
      | inl is ↦ ap (ordering_then (nat_cmp x y)) (abbreviated-apart n a b (IsBytes-rest x a fa) (IsBytes-rest y b fb) (λ same. apart (ap₂ (λ (z h : ℕ). z * 256 ^ n + h) is same)))
      | inr (inl lt) ↦ rw (nat_cmp_less x y lt) refl
      | inr (inr lt) ↦ rw (nat_cmp_greater x y lt) refl
    ]
    ∙ sym (nat_cmp-digits x y r s (256 ^ n) (abbreviated-below n a (IsBytes-rest x a fa)) (abbreviated-below n b (IsBytes-rest y b fb)))

-- two digits to one number are those of the other
digits-one : (x y r s c : ℕ) → r < c → s < c → x * c + r ≡ y * c + s → (x ≡ y) × (r ≡ s)
digits-one x y r s c p q same =
    let above : x ≡ y = sym (div-mul-add x c r p) ∙ ap (λ (z : ℕ). z / c) same ∙ div-mul-add y c s q in
    let high : x * c ≡ y * c = ap (λ (z : ℕ). z * c) above in
    (above, omega arith)

-- of two keys with one abbreviated key, one of which ends there, the shorter comes first
pub abbreviated-one : (n : ℕ) (a b : List ℕ) → IsBytes a → IsBytes b → abbreviated_to n a ≡ abbreviated_to n b → (length a ≤ n) ⊎ (length b ≤ n) → slice_cmp nat_cmp a b ≡ nat_cmp (length a) (length b)
abbreviated-one n [] [] fa fb same short = refl
abbreviated-one n [] (y ∷ b) fa fb same short = sym (nat_cmp_less 0 (suc (length b)) (omega arith))
abbreviated-one n (x ∷ a) [] fa fb same short = sym (nat_cmp_greater (suc (length a)) 0 (omega arith))
abbreviated-one zero (x ∷ a) (y ∷ b) fa fb same (inl short) = absurd (omega arith)
abbreviated-one zero (x ∷ a) (y ∷ b) fa fb same (inr short) = absurd (omega arith)
abbreviated-one (suc n) (x ∷ a) (y ∷ b) fa fb same short =
    let rest_a = IsBytes-rest x a fa in
    let rest_b = IsBytes-rest y b fb in
    let parts = digits-one x y (abbreviated_to n a) (abbreviated_to n b) (256 ^ n) (abbreviated-below n a rest_a) (abbreviated-below n b rest_b) same in
    ap (λ (z : ℕ). ordering_then (nat_cmp z y) (slice_cmp nat_cmp a b)) parts.0
    ∙ ap (λ (o : Ordering). ordering_then o (slice_cmp nat_cmp a b)) (nat_cmp_equal y)
    ∙ abbreviated-one n a b rest_a rest_b parts.1 (shorter short)
    ∙ sym (one_more (length a) (length b))
  where
    one_more : (m n : ℕ) → nat_cmp (suc m) (suc n) ≡ nat_cmp m n
    one_more m n =
        let a : suc m ≡ 1 + m = omega arith in
        let b : suc n ≡ 1 + n = omega arith in
        ap₂ nat_cmp a b ∙ nat_cmp-add 1 m n

    shorter : (suc (length a) ≤ suc n) ⊎ (suc (length b) ≤ suc n) → (length a ≤ n) ⊎ (length b ≤ n)
    shorter (inl le) = inl (omega arith)
    shorter (inr le) = inr (omega arith)

-- of two keys with one abbreviated key and more, the bytes behind it decide
pub abbreviated-before : (n : ℕ) (a b : List ℕ) → IsBytes a → IsBytes b → abbreviated_to n a ≡ abbreviated_to n b → n ≤ length a → n ≤ length b → slice_cmp nat_cmp a b ≡ slice_cmp nat_cmp (drop n a) (drop n b)
abbreviated-before zero a b fa fb same p q = refl
abbreviated-before (suc n) [] b fa fb same p q = absurd (omega arith)
abbreviated-before (suc n) (x ∷ a) [] fa fb same p q = absurd (omega arith)
abbreviated-before (suc n) (x ∷ a) (y ∷ b) fa fb same p q =
    let rest_a = IsBytes-rest x a fa in
    let rest_b = IsBytes-rest y b fb in
    let parts = digits-one x y (abbreviated_to n a) (abbreviated_to n b) (256 ^ n) (abbreviated-below n a rest_a) (abbreviated-below n b rest_b) same in
    ap (λ (z : ℕ). ordering_then (nat_cmp z y) (slice_cmp nat_cmp a b)) parts.0
    ∙ ap (λ (o : Ordering). ordering_then o (slice_cmp nat_cmp a b)) (nat_cmp_equal y)
    ∙ abbreviated-before n a b rest_a rest_b parts.1 (omega arith) (omega arith)

-- ---- the same for whole abbreviated keys

-- where the abbreviated keys differ they decide
pub keys-apart : (a b : List ℕ) (g h : ℕ) → IsAbbreviatedKey a g → IsAbbreviatedKey b h → g ≢ h → key_cmp a b ≡ nat_cmp g h
unfolding abbreviated_key
keys-apart a b g h p q apart =
    abbreviated-apart 8 a b p.bytes q.bytes (λ same. apart (p.is ∙ same ∙ sym q.is)) ∙ sym (ap₂ nat_cmp p.is q.is)

-- of two keys with one abbreviated key, one of which ends there, the shorter comes first
pub keys-one : (a b : List ℕ) → IsBytes a → IsBytes b → abbreviated_key a ≡ abbreviated_key b → (length a ≤ 8) ⊎ (length b ≤ 8) → key_cmp a b ≡ nat_cmp (length a) (length b)
unfolding abbreviated_key
keys-one a b fa fb same short = abbreviated-one 8 a b fa fb same short

-- of two keys with one abbreviated key and more, the bytes behind it decide
pub keys-past : (a b : List ℕ) → IsBytes a → IsBytes b → abbreviated_key a ≡ abbreviated_key b → 8 ≤ length a → 8 ≤ length b → key_cmp a b ≡ key_cmp (drop 8 a) (drop 8 b)
unfolding abbreviated_key
keys-past a b fa fb same p q = abbreviated-before 8 a b fa fb same p q

-- names whose keys have other abbreviated keys
pub names-less : (m n : Name) (g h : ℕ) → IsAbbreviatedKey m.key g → IsAbbreviatedKey n.key h → g < h → name_cmp m n ≡ Less
names-less m n g h p q lt = rw (keys-apart m.key n.key g h p q (λ same. omega arith), nat_cmp_less g h lt) refl

pub names-greater : (m n : Name) (g h : ℕ) → IsAbbreviatedKey m.key g → IsAbbreviatedKey n.key h → h < g → name_cmp m n ≡ Greater
names-greater m n g h p q lt = rw (keys-apart m.key n.key g h p q (λ same. omega arith), nat_cmp_greater g h lt) refl

-- names by their abbreviated keys, which are not equal
pub names-apart : (m n : Name) (g h : ℕ) → IsAbbreviatedKey m.key g → IsAbbreviatedKey n.key h → nat_cmp g h ≢ Equal → name_cmp m n ≡ nat_cmp g h
names-apart m n g h p q apart =
    elim (cases_order g h) [
      | inl is ↦ absurd (apart (ap (nat_cmp g) (sym is) ∙ nat_cmp_equal g))
      | inr (inl lt) ↦ names-less m n g h p q lt ∙ sym (nat_cmp_less g h lt)
      | inr (inr lt) ↦ names-greater m n g h p q lt ∙ sym (nat_cmp_greater g h lt)
    ]

-- a point by its abbreviated key and that of a name
pub point-less : (name : Name) (o : Option Point) (g h : ℕ) → IfSome o (λ p. IsAbbreviatedKey p.name.key g) → IsAbbreviatedKey name.key h → nat_cmp g h ≡ Less → IfSome o (λ p. true ≡ is_below_name name p)
point-less name None g h is q lt = tt
point-less name (Some p) g h is q lt = sym (ap is_lt (names-less p.name name g h is q (ranked g h Less (sym lt))))

pub point-greater : (name : Name) (o : Option Point) (g h : ℕ) → IfSome o (λ p. IsAbbreviatedKey p.name.key g) → IsAbbreviatedKey name.key h → nat_cmp g h ≡ Greater → IfSome o (λ p. false ≡ is_below_name name p)
point-greater name None g h is q lt = tt
point-greater name (Some p) g h is q lt = sym (ap is_lt (names-greater p.name name g h is q (ranked g h Greater (sym lt))))

-- an encoded key of the points has the abbreviated key of its point
pub abbreviated-key : (points : List Point) (i : ℕ) (key : List ℕ) (g : ℕ) → HasPoint points i key → IfSome (slice_get points i) (λ p. IsAbbreviatedKey p.name.key g) → g ≡ abbreviated_key (name_in key).key
abbreviated-key points i key g h is =
    let named : IsAbbreviatedKey h.point.name.key g = subst (λ (o : Option Point). IfSome o (λ p. IsAbbreviatedKey p.name.key g)) h.here is in
    named.is ∙ sym (ap (λ (r : Result Name KeyFault). abbreviated_key (known_name r).key) h.read)

-- ---- abbreviated keys as they lie in bytes

-- a key of eight bytes and more
pub abbreviated-long : (key : List ℕ) → 8 ≤ length key → from_be_bytes w64 (take 8 key) ≡ abbreviated_key key
unfolding abbreviated_key
abbreviated-long key long = abbreviated-number key long

-- a short key with zeros behind it
pub abbreviated-zeros : (key zeros : List ℕ) → length key + length zeros ≡ 8 → abbreviated_to (length zeros) zeros ≡ 0 → from_be_bytes w64 (take 8 (key ++ zeros)) ≡ abbreviated_key key
unfolding abbreviated_key
abbreviated-zeros key zeros len none =
    let long : 8 ≤ length (key ++ zeros) = omega (arith, length-append key zeros) in
    abbreviated-number (key ++ zeros) long
    ∙ ap (λ (n : ℕ). abbreviated_to n (key ++ zeros)) (sym len)
    ∙ abbreviated-append key zeros (length zeros)
    ∙ ap (λ (h : ℕ). abbreviated_to (length key) key * 256 ^ length zeros + h) none
    ∙ sym (abbreviated-short key (length zeros) ∙ sym (plus-zero (abbreviated_to (length key) key * 256 ^ length zeros)))
    ∙ ap (λ (n : ℕ). abbreviated_to n key) len
  where
    plus-zero : (n : ℕ) → n + 0 ≡ n
    plus-zero n = omega arith

-- a short key with other bytes behind it, which are put to zero
pub abbreviated-front : (key rest bytes : List ℕ) → bytes ≡ key ++ rest → IsBytes rest → length key ≤ 8 → 8 ≤ length bytes
    → from_be_bytes w64 (take 8 bytes) / 256 ^ (8 - length key) * 256 ^ (8 - length key) ≡ abbreviated_key key
unfolding abbreviated_key
abbreviated-front key rest bytes parts fits short long =
    let m : ℕ = 8 - length key in
    let whole : length key + m ≡ 8 = omega arith in
    ap (λ (x : ℕ). x / 256 ^ m * 256 ^ m) (abbreviated-number bytes long ∙ ap (λ (n : ℕ). abbreviated_to n bytes) (sym whole) ∙ ap (abbreviated_to (length key + m)) parts)
    ∙ abbreviated-upper key rest m fits
    ∙ ap (λ (n : ℕ). abbreviated_to n key) whole

-- so many bytes as digits of two
bytes-bits : (m : ℕ) → 2 ^ (8 * m) ≡ 256 ^ m
bytes-bits zero = refl
bytes-bits (suc m) =
    let more : 8 * suc m ≡ 8 + 8 * m = omega arith in
    ap (λ (n : ℕ). 2 ^ n) more ∙ pow-add 2 8 (8 * m) ∙ ap (λ (x : ℕ). 256 * x) (bytes-bits m) ∙ sym (pow-succ' 256 m)

-- the highest bytes of a number by shifts
pub upper-shifted : (number m : ℕ) → number < 2 ^ 64 → number / 2 ^ (8 * m) * 2 ^ (8 * m) % 2 ^ 64 ≡ number / 256 ^ m * 256 ^ m
upper-shifted number m small =
    let le = div-mul-le_self number (256 ^ m) in
    ap (λ (c : ℕ). number / c * c % 2 ^ 64) (bytes-bits m) ∙ mod-eq_of_lt (omega arith)

-- the key lies at the front of the bytes of a name
pub record KeyInFront (bytes : List ℕ) : Type 0 where
  pub rest : List ℕ
  pub parts : bytes ≡ (name_in bytes).key ++ rest
  pub bytes_are : IsBytes (name_in bytes).key
  pub rest_are : IsBytes rest

pub key-in-front : (bytes : List ℕ) → IsName bytes → IsBytes bytes → KeyInFront bytes
key-in-front bytes read fits =
    let has = IsName-HasKey bytes read in
    let n : ℕ = length bytes - (byte_before 0 bytes + 1) in
    let key : take n bytes ≡ (name_in bytes).key = has.key in
    record {
      rest = drop n bytes;
      parts = sym (take-append-drop n bytes) ∙ ap (λ (k : List ℕ). k ++ drop n bytes) key;
      bytes_are = subst IsBytes key (IsBytes-take n bytes fits);
      rest_are = IsBytes-drop n bytes fits;
    }

-- eight zeros
abbrev pub zeros : List ℕ
zeros = 0 ∷ 0 ∷ 0 ∷ 0 ∷ 0 ∷ 0 ∷ 0 ∷ 0 ∷ []

-- the abbreviated key of the last of them
abbreviated-drop : (k : ℕ) → k ≤ 8 → abbreviated_to (length (drop k zeros)) (drop k zeros) ≡ 0
abbreviated-drop zero few = refl
abbreviated-drop (suc zero) few = refl
abbreviated-drop (suc (suc zero)) few = refl
abbreviated-drop (suc (suc (suc zero))) few = refl
abbreviated-drop (suc (suc (suc (suc zero)))) few = refl
abbreviated-drop (suc (suc (suc (suc (suc zero))))) few = refl
abbreviated-drop (suc (suc (suc (suc (suc (suc zero)))))) few = refl
abbreviated-drop (suc (suc (suc (suc (suc (suc (suc zero))))))) few = refl
abbreviated-drop (suc (suc (suc (suc (suc (suc (suc (suc zero)))))))) few = refl
abbreviated-drop (suc (suc (suc (suc (suc (suc (suc (suc (suc k))))))))) few = absurd (omega arith)

-- a short key written over the first zeros
pub abbreviated-padded : (key front back : List ℕ) → front ≡ key → back ≡ drop (length key) zeros → length key ≤ 8 → length back + length key ≡ 8 → from_be_bytes w64 (take 8 (front ++ back)) ≡ abbreviated_key key
abbreviated-padded key front back front_is back_is short whole =
    let none : abbreviated_to (length back) back ≡ 0 = ap (λ (b : List ℕ). abbreviated_to (length b) b) back_is ∙ abbreviated-drop (length key) short in
    ap (λ (f : List ℕ). from_be_bytes w64 (take 8 (f ++ back))) front_is ∙ abbreviated-zeros key back (omega arith) none
