-- The points at which parts stand, and their keys.
use Rattle.std.proofs.Common.{◌≡◌, ℕ, zero, suc, Bool, true, false, List, length, refl, sym, ap, subst, ◌∙◌, arith, eqb, Decides}
use Rattle.std.specs.Prelude.{slice_get, Some, None, Ok}
use Rattle.std.proofs.lemmas.Slice.Eq.{bytes_eq-Decides}
use lib.Pointwise.{pointwise}
use Rattle.std.specs.declared.option.Option.{Option}
use Rattle.std.specs.Option.{option_map, option_and_then}
use Rattle.std.proofs.lemmas.Option.{slice_get-map}
use Rattle.std.proofs.lemmas.List.{length-map}
use Rattle.mvcc_key.specs.Order.{is_in_range, is_same_name}
use Rattle.mvcc_key.specs.KeyFormat.{encoded_name, name_of}
use Rattle.mvcc_key.specs.Encoded.{name_in, IsName}
use Rattle.mvcc_key.specs.Points.{Point, AreEncodable, point_at, key_at}
use Rattle.mvcc_key.proofs.KeyFormatLaws.{name_of-encoded_name}
use Rattle.mvcc_key.proofs.NamedLaws.{named-encoded}
use Rattle.mvcc_key.proofs.PointLaws.{point_at-next}
use Rattle.merge_cursor.specs.views.Moves.{is_at}
use Rattle.merge_cursor.proofs.OrderLaws.{is_same_name-itself, is_same_name-one}
use Rattle.merge_cursor.proofs.LeadingLaws.{refused}
use Rattle.merge_cursor.specs.views.Standing.{Standing, standings, head, heads, head_of, leads}

-- the point at which a part of a number stands
pub head_of-part : {X : Type 0} (points : X → List Point) (place : X → ℕ) (is_part : X → Bool) (parts : List X) (i : ℕ) (x : X) → slice_get parts i ≡ Some x
    → head_of (heads (standings points place is_part parts)) i ≡ point_at (points x) (place x)
head_of-part points place is_part parts i x at =
    ap (option_and_then (λ p. p)) (slice_get-map head (standings points place is_part parts) i)
    ∙ ap (λ (o : Option Standing). option_and_then (λ p. p) (option_map head o)) (slice_get-map _ parts i)
    ∙ ap (λ (o : Option _). option_and_then (λ p. p) (option_map head (option_map (λ y. record { points = points y; place = place y; is_part = is_part y }) o))) at

-- how many there are
pub length-heads : {X : Type 0} (points : X → List Point) (place : X → ℕ) (is_part : X → Bool) (parts : List X) → length (heads (standings points place is_part parts)) ≡ length parts
length-heads points place is_part parts =
    length-map (standings points place is_part parts) head ∙ length-map parts (λ y. record { points = points y; place = place y; is_part = is_part y })

-- a point at a place has a timestamp in range
pub in_range-at : (points : List Point) (k : ℕ) (p : Point) → AreEncodable points → point_at points k ≡ Some p → is_in_range p.name.ts ≡ true
in_range-at points zero p e at = absurd cc
in_range-at points (suc k) p e at = e k p (sym (point_at-next points k) ∙ ap (point_at points) (omega arith) ∙ at)

-- the point whose encoded key stands at a place
pub record HasHead (points : List Point) (k : ℕ) (key : List ℕ) : Type 0 where
  pub point : Point
  pub here : point_at points k ≡ Some point
  pub spelled : encoded_name point.name ≡ key
  pub read : name_of key ≡ Ok point.name

-- an encoded key at a place is read as the name of the point there
pub has_head : (points : List Point) (k : ℕ) (key : List ℕ) → AreEncodable points → Some key ≡ key_at points k → HasHead points k key
has_head points k key e is = by (point_at points k) refl is
  where
    by : (o : Option Point) → point_at points k ≡ o → Some key ≡ option_map (λ p. encoded_name p.name) o → HasHead points k key
    by None at h = absurd cc
    by (Some p) at h =
        let bytes : encoded_name p.name ≡ key = cc in
        record { point = p; here = at; spelled = bytes; read = rw (← bytes) (name_of-encoded_name p.name (in_range-at points k p e at)) }

-- where no key stands there is no point
pub no_head : (points : List Point) (k : ℕ) → None ≡ key_at points k → point_at points k ≡ None
no_head points k is = by (point_at points k) refl is
  where
    by : (o : Option Point) → point_at points k ≡ o → None ≡ option_map (λ p. encoded_name p.name) o → point_at points k ≡ None
    by None at h = at
    by (Some p) at h = absurd cc

-- the name in the key is the point's
pub head_name : (points : List Point) (k : ℕ) (key : List ℕ) (h : HasHead points k key) → name_in key ≡ h.point.name
head_name points k key h = rw h.read refl

-- which of two parts comes first, by the points at which they stand
pub leads-is : (ahead : Bool) (points : List (Option Point)) (i j : ℕ) (a b : Option Point) → head_of points i ≡ a → head_of points j ≡ b
    → leads ahead a b ≡ leads ahead (head_of points i) (head_of points j)
leads-is ahead points i j a b p q = sym (ap (λ (o : Option Point). leads ahead o (head_of points j)) p ∙ ap (leads ahead a) q)

-- whether keys are the same bytes is whether their names are one
pub is_at-bytes : (points : List Point) (k : ℕ) (key other : List ℕ) (b : Bool) → AreEncodable points → IsName key → Some other ≡ key_at points k
    → b ≡ pointwise eqb other key → b ≡ is_at (name_in key) (point_at points k)
is_at-bytes points k key other b e name is test =
    sym (ap (is_at (name_in key)) h.here ∙ by b (subst (λ (r : Bool). Decides r (other ≡ key)) (sym test) (bytes_eq-Decides other key)))
  where
    h : HasHead points k other
    h = has_head points k other e is

    by : (r : Bool) → Decides r (other ≡ key) → is_same_name h.point.name (name_in key) ≡ r
    by true d =
        let same : name_in key ≡ h.point.name = ap name_in (sym (d.0 refl)) ∙ head_name points k other h in
        rw same (is_same_name-itself h.point.name)
    by false d =
        refused (is_same_name h.point.name (name_in key)) (λ one.
        (let same : other ≡ key = sym h.spelled ∙ ap encoded_name (is_same_name-one h.point.name (name_in key) one) ∙ name.spelled in
        let yes = d.1 same in
        cc))

-- an encoded key at a place is a name's
pub head-IsName : (points : List Point) (k : ℕ) (key : List ℕ) → AreEncodable points → Some key ≡ key_at points k → IsName key
head-IsName points k key e is =
    let h = has_head points k key e is in
    subst IsName h.spelled (named-encoded h.point.name (in_range-at points k h.point e h.here))
