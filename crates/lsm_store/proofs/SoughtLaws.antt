-- What a seek to a name comes to.
use Rattle.std.proofs.Common.{◌≡◌, ℕ, suc, ◌+◌, ◌<◌, Bool, true, false, cond, List, [], ◌∷◌, length, map, drop, get_or, refl, sym, ap, ◌∙◌, arith, drop-cons}
use Rattle.std.specs.Prelude.{find, not, slice_get, Some, None, Ok, bytes_eq}
use Rattle.std.specs.List.{AllByRecursion}
use Rattle.std.specs.List.Sorted.{IsStrictlySortedBy}
use Rattle.std.specs.declared.option.Option.{Option}
use Rattle.std.specs.declared.result.Result.{Result}
use Rattle.std.specs.Option.{option_map, option_and_then}
use Rattle.std.specs.declared.cmp.Ordering.{Ordering}
use Rattle.std.specs.declared.cmp.Ordering.TheVariants.{Less, Equal, Greater}
use Rattle.std.specs.Ordering.{is_lt, is_eq}
use Rattle.std.proofs.lemmas.Slice.Eq.{bytes_eq-Decides}
use Rattle.mvcc_key.specs.Order.{Name, name_cmp, is_same_name, is_in_range}
use Rattle.mvcc_key.specs.KeyFormat.{KeyFault, encoded_name, name_of}
use Rattle.mvcc_key.specs.Encoded.{IsName, name_in, known_name}
use Rattle.mvcc_key.specs.Points.{Point, point_cmp, IsRising, AreEncodable, point_at, key_at, value_at, is_below_name, count_below}
use Rattle.mvcc_key.proofs.OrderLaws.{name_cmp-total}
use Rattle.mvcc_key.proofs.KeyFormatLaws.{name_of-encoded_name}
use Rattle.mvcc_key.proofs.PointLaws.{point_at-next, slice_get-count_below, sorted-rising}
use Rattle.mem_table.specs.Table.{state_of}
use Rattle.merge_cursor.proofs.OrderLaws.{is_same_name-one, is_same_name-itself, back-less}
use Rattle.merge_cursor.specs.Merged.{joined}
use Rattle.lsm_store.specs.views.Changing.{is_same_value, is_change}
use Rattle.lsm_store.proofs.KnownLaws.{newer, keep, known-above, known-append}

-- two tests that hold together are the same
pub same-test : (a b : Bool) → (a ≡ true → b ≡ true) → (b ≡ true → a ≡ true) → a ≡ b
same-test true true h k = refl
same-test true false h k = sym (h refl)
same-test false true h k = k refl
same-test false false h k = refl

-- a key is the encoding of the name that it encodes, and of no other
pub key-name : (key : List ℕ) (n : Name) → IsName key → is_in_range n.ts ≡ true → bytes_eq key (encoded_name n) ≡ is_same_name n (name_in key)
key-name key n named range = same-test _ _ there back
  where
    there : bytes_eq key (encoded_name n) ≡ true → is_same_name n (name_in key) ≡ true
    there h =
        let bytes : key ≡ encoded_name n = (bytes_eq-Decides key (encoded_name n)).0 h in
        let read : name_of key ≡ Ok n = ap name_of bytes ∙ name_of-encoded_name n range in
        ap (λ (r : Result Name KeyFault). is_same_name n (known_name r)) read ∙ is_same_name-itself n

    back : is_same_name n (name_in key) ≡ true → bytes_eq key (encoded_name n) ≡ true
    back h =
        (bytes_eq-Decides key (encoded_name n)).1 (sym named.spelled ∙ ap encoded_name (sym (is_same_name-one n (name_in key) h)))

-- among points that rise a name is known where the first point that is not below it has it
known-first : (n : Name) (points : List Point) → IsStrictlySortedBy point_cmp points
    → state_of n points ≡ keep (λ p. is_same_name p.name n) (find (λ p. not (is_below_name n p)) points)
unfolding IsStrictlySortedBy
known-first n [] sorted = refl
known-first n (p ∷ ps) sorted = by (name_cmp p.name n) refl (known-first n ps sorted.1)
  where
    above : (qs : List Point) → name_cmp n p.name ≡ Less → AllByRecursion (λ q. name_cmp p.name q.name ≡ Less) qs → AllByRecursion (λ q. name_cmp n q.name ≡ Less) qs
    above [] h a = tt
    above (q ∷ qs) h a = (name_cmp-total.trans n p.name q.name h a.0, above qs h a.1)

    by : (o : Ordering) → name_cmp p.name n ≡ o → state_of n ps ≡ keep (λ p. is_same_name p.name n) (find (λ p. not (is_below_name n p)) ps)
        → cond (is_eq o) (Some p) (state_of n ps)
        ≡ keep (λ p. is_same_name p.name n) (cond (not (is_lt o)) (Some p) (find (λ p. not (is_below_name n p)) ps))
    by Less h rest = rest
    by Equal h rest = ap (λ (o : Ordering). cond (is_eq o) (Some p) None) (sym h)
    by Greater h rest =
        known-above (λ (q : Point). q.name) n ps (above ps (back-less p.name n h) sorted.0)
        ∙ ap (λ (o : Ordering). cond (is_eq o) (Some p) None) (sym h)

-- what an operation changes of a name, by the point at which a seek to it stops
sought : (key : List ℕ) (value : Option (List ℕ)) (points : List Point) (place : ℕ) → IsName key → IsRising points → AreEncodable points
    → place ≡ count_below (name_in key) points + 1
    → cond (is_same_value (Some key) (key_at points place)) (Some (not (is_same_value value (value_at points place)))) None
    ≡ option_map (λ p. is_change value (Some p)) (state_of (name_in key) points)
sought key value points place named rising encodable is =
    by (slice_get points (count_below (name_in key) points)) refl
  where
    n : Name
    n = name_in key

    answer : Option Point → Option Bool
    answer o = cond (is_same_value (Some key) (option_map (λ p. encoded_name p.name) o)) (Some (not (is_same_value value (option_and_then (λ p. p.value) o)))) None

    by : (o : Option Point) → slice_get points (count_below (name_in key) points) ≡ o
        → answer (point_at points place) ≡ option_map (λ p. is_change value (Some p)) (state_of n points)
    by o at =
        ap answer (ap (point_at points) is ∙ point_at-next points (count_below n points) ∙ at)
        ∙ which o at
        ∙ ap (option_map (λ p. is_change value (Some p)))
        (ap (keep (λ p. is_same_name p.name n)) (sym at ∙ slice_get-count_below n points rising) ∙ sym (known-first n points (sorted-rising points rising)))
      where
        which : (o : Option Point) → slice_get points (count_below (name_in key) points) ≡ o
            → answer o ≡ option_map (λ p. is_change value (Some p)) (keep (λ p. is_same_name p.name n) o)
        which None at = refl
        which (Some p) at =
            ap (λ (b : Bool). cond b (Some (not (is_same_value value p.value))) None) (key-name key p.name named (encodable _ p at))
            ∙ same (is_same_name p.name n)
          where
            same : (b : Bool) → cond b (Some (not (is_same_value value p.value))) None ≡ option_map (λ p. is_change value (Some p)) (cond b (Some p) None)
            same true = refl
            same false = refl

-- a cursor over these points stands where a seek to the key led
pub record IsSought (key : List ℕ) (points before : List Point) (place : ℕ) : Type 0 where
  pub named : IsName key
  pub rising : IsRising points
  pub encodable : AreEncodable points
  pub same : points ≡ before
  pub at : place ≡ count_below (name_in key) before + 1

sought-moved : (key : List ℕ) (value : Option (List ℕ)) (points before : List Point) (place : ℕ) → IsSought key points before place
    → cond (is_same_value (Some key) (key_at points place)) (Some (not (is_same_value value (value_at points place)))) None
    ≡ option_map (λ p. is_change value (Some p)) (state_of (name_in key) before)
sought-moved key value points before place s =
    sought key value points place s.named s.rising s.encodable (s.at ∙ ap (λ (ps : List Point). count_below (name_in key) ps + 1) (sym s.same))
    ∙ ap (λ (ps : List Point). option_map (λ p. is_change value (Some p)) (state_of (name_in key) ps)) s.same

-- where it stands at the key its value decides
pub sought-there : (key : List ℕ) (value : Option (List ℕ)) (points before : List Point) (place : ℕ) (here same : Bool) → IsSought key points before place
    → here ≡ is_same_value (Some key) (key_at points place) → here ≡ true → same ≡ is_same_value value (value_at points place)
    → Some (not same) ≡ option_map (λ p. is_change value (Some p)) (state_of (name_in key) before)
sought-there key value points before place here same s here_is at_key same_is =
    ap (λ (b : Bool). Some (not b)) same_is
    ∙ ap (λ (b : Bool). cond b (Some (not (is_same_value value (value_at points place)))) None) (sym at_key ∙ here_is)
    ∙ sought-moved key value points before place s

-- and else nothing is known of its name
pub sought-gone : (key : List ℕ) (value : Option (List ℕ)) (points before : List Point) (place : ℕ) (here : Bool) → IsSought key points before place
    → here ≡ is_same_value (Some key) (key_at points place) → here ≡ false
    → None ≡ option_map (λ p. is_change value (Some p)) (state_of (name_in key) before)
sought-gone key value points before place here s here_is at_other =
    ap (λ (b : Bool). cond b (Some (not (is_same_value value (value_at points place)))) None) (sym at_other ∙ here_is)
    ∙ sought-moved key value points before place s

-- what an operation changes of a name, by the value that is known of it
pub value-change : (value : Option (List ℕ)) (known : Option (Option (List ℕ))) (state : Option Point) → known ≡ option_map (λ p. p.value) state
    → option_map (λ v. not (is_same_value value v)) known ≡ option_map (λ p. is_change value (Some p)) state
value-change value known None h = ap (option_map (λ v. not (is_same_value value v))) h
value-change value known (Some p) h = ap (option_map (λ v. not (is_same_value value v))) h

-- ---- several parts

-- the next of those that are left
pub next-left : {X Y : Type 0} (f : X → Y) (xs : List X) (i : ℕ) (x : X) → i < length xs → x ≡ get_or xs i x → map f (drop i xs) ≡ f x ∷ map f (drop (i + 1) xs)
next-left f xs i x lt is =
    let more : suc i ≡ i + 1 = omega arith in
    ap (map f) (drop-cons xs i x lt ∙ ap (λ (y : _). y ∷ drop (suc i) xs) (sym is)) ∙ ap (λ (n : ℕ). f x ∷ map f (drop n xs)) more

-- a part that does not know the name says nothing of what is known of it
pub known-behind : (name : Name) (value : Option (List ℕ)) (points : List Point) (lists : List (List Point))
    → None ≡ option_map (λ p. is_change value (Some p)) (state_of name points) → state_of name (joined (points ∷ lists)) ≡ state_of name (joined lists)
known-behind name value points lists h = known-append (λ (p : Point). p.name) name points (joined lists) ∙ by (state_of name points) h
  where
    by : (o : Option Point) → None ≡ option_map (λ p. is_change value (Some p)) o → newer o (state_of name (joined lists)) ≡ state_of name (joined lists)
    by None k = refl
    by (Some p) k = absurd cc

-- one that knows it decides
pub known-here : (name : Name) (value : Option (List ℕ)) (points : List Point) (lists : List (List Point)) (change : Bool)
    → Some change ≡ option_map (λ p. is_change value (Some p)) (state_of name points) → change ≡ is_change value (state_of name (joined (points ∷ lists)))
known-here name value points lists change h = by (state_of name points) h ∙ ap (is_change value) (sym (known-append (λ (p : Point). p.name) name points (joined lists)))
  where
    by : (o : Option Point) → Some change ≡ option_map (λ p. is_change value (Some p)) o → change ≡ is_change value (newer o (state_of name (joined lists)))
    by None k = absurd cc
    by (Some p) k = cc
