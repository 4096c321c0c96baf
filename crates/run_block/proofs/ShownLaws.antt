-- What a cursor shows at a place, as its entry is added.
use Rattle.std.proofs.Common.{◌≡◌, ℕ, ◌+◌, ◌-◌, ◌^◌, ◌<◌, ◌≤◌, List, [], ◌∷◌, ◌++◌, length, get_or, take, min, refl, sym, ap, subst, ◌∙◌, arith}
use Rattle.std.specs.Prelude.{Option, Some, None, Ok, Result, All, slice_get}
use Rattle.std.specs.Option.{ForSome, option_map, option_and_then}
use Rattle.std.proofs.lemmas.List.{take_more}
use Rattle.std.proofs.lemmas.Option.{slice_get_within, get_or_from_slice_get}
use Rattle.mvcc_key.specs.Order.{Name}
use Rattle.mvcc_key.specs.Limits.{max_stored_length}
use Rattle.mvcc_key.specs.KeyFormat.{KeyFault, encoded_name, name_of}
use Rattle.mvcc_key.specs.Encoded.{IsName, name_in, known_name}
use Rattle.mvcc_key.specs.Points.{Point, point_at, key_at, value_at}
use Rattle.mvcc_key.proofs.KeyFormatLaws.{name_of-encoded_name, length-encoded_name_le}
use Rattle.mvcc_key.proofs.PointLaws.{point_at-next, point_at-none}
use Rattle.mvcc_key.specs.Batches.{IsStoredPoint}
use Rattle.run_block.specs.views.Writing.{point_with}

-- a key and a value that can be added as the next point
pub record IsShown (points : List Point) (done : ℕ) (key : List ℕ) (value : Option (List ℕ)) : Type 0 where
  pub name : IsName key
  pub short : length key < 2 ^ 32
  pub fits : ForSome value (λ v. length v ≤ max_stored_length)
  pub within : done < length points
  pub more : take (done + 1) points ≡ take done points ++ point_with key value ∷ []

-- the encoding of a name is read as that name
named : (n : Name) → name_of (encoded_name n) ≡ Ok n → IsName (encoded_name n)
named n read = record { read = rw read refl; spelled = ap (λ (r : Result Name KeyFault). encoded_name (known_name r)) read }

shown-point : (points : List Point) (done : ℕ) (key : List ℕ) (value : Option (List ℕ)) (p : Point) → All IsStoredPoint points
    → slice_get points done ≡ Some p → key ≡ encoded_name p.name → value ≡ p.value → IsShown points done key value
shown-point points done key value p stored at k v =
    let within = slice_get_within points done p at in
    let is : get_or points done p ≡ p = get_or_from_slice_get points done p p at in
    let here : IsStoredPoint p = subst IsStoredPoint is (stored done p within) in
    let read = name_of-encoded_name p.name here.range in
    let name : name_in key ≡ p.name = ap name_in k ∙ ap known_name read in
    let same : point_with key value ≡ p = λ i. record { name = name i; value = v i } in
    record {
      name = subst IsName (sym k) (named p.name read);
      short = (let size = ap length k in let few = length-encoded_name_le p.name in let short = here.short in omega arith);
      fits = subst (λ (o : Option (List ℕ)). ForSome o (λ x. length x ≤ max_stored_length)) (sym v) here.value;
      within = within;
      more = take_more points done p within ∙ ap (λ (q : Point). take done points ++ q ∷ []) (is ∙ sym same);
    }

-- what is shown at a place of points, which are those here, is the next point
pub shown : (points here : List Point) (place : ℕ) (key : List ℕ) (value : Option (List ℕ)) → here ≡ points → All IsStoredPoint points → 0 < place
    → Some key ≡ key_at here place → value ≡ value_at here place → IsShown points (place - 1) key value
shown points here place key value same stored some k v =
    by (point_at points place) refl (subst (λ (ps : List Point). Some key ≡ key_at ps place) same k) (subst (λ (ps : List Point). value ≡ value_at ps place) same v)
  where
    by : (o : Option Point) → point_at points place ≡ o → Some key ≡ option_map (λ p. encoded_name p.name) o → value ≡ option_and_then (λ p. p.value) o → IsShown points (place - 1) key value
    by None at k v = absurd cc
    by (Some p) at k v =
        let next : place - 1 + 1 ≡ place = omega arith in
        let key_is : key ≡ encoded_name p.name = cc in
        shown-point points (place - 1) key value p stored (sym (point_at-next points (place - 1)) ∙ ap (point_at points) next ∙ at) key_is v

-- where nothing is shown all points are done
pub none-shown : (points here : List Point) (place : ℕ) → here ≡ points → 0 < place → None ≡ key_at here place → length points ≤ place - 1
none-shown points here place same some k = by (point_at points place) refl (subst (λ (ps : List Point). None ≡ key_at ps place) same k)
  where
    by : (o : Option Point) → point_at points place ≡ o → None ≡ option_map (λ p. encoded_name p.name) o → length points ≤ place - 1
    by None at k = (let past = point_at-none points place at some in omega arith)
    by (Some p) at k = absurd cc

-- the next place
pub next_place : (points here : List Point) (place next : ℕ) → here ≡ points → 0 < place → place - 1 < length points → next ≡ min (place + 1) (length here + 1) → next ≡ place + 1
next_place points here place next same some within is = (let size = ap length same in omega arith)
