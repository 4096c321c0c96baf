-- What words say by their names, word by word.
use Rattle.std.specs.Prelude.{◌≡◌, ℕ, ◌<◌, ◌+◌, cond, Bool, true, false, ◌&&◌, ◌||◌, not, List, [], ◌∷◌, ◌++◌, map, length, position, take, drop, Option, option_map, Some, None, is_some, bytes_eq, slice_set, ◌⊎◌}
use Rattle.std.specs.List.{list_any, list_all, prefix_len}
use Rattle.std.proofs.Common.{refl, sym, ap, ap₂, ◌∙◌, subst, zero, suc, arith, get_or, inl, inr, Bor}
use Rattle.std.proofs.lemmas.List.{get_or-map, length-map}
use Rattle.std.proofs.lemmas.List.Folds.{list_any-append, list_all-append}
use Rattle.std.proofs.lemmas.List.Quantifiers.{position-Some}
use Rattle.std.proofs.lemmas.Slice.Eq.{bytes_eq-Decides}
use Rattle.std.proofs.lemmas.Bool.{and_parts, and_from, or_parts, or_from, not-true, not_from_false, false≢true}
use Rattle.script_words.proofs.CutLaws.{none_any, some_any, none-position}
use Rattle.script_words.specs.Words.{Word, is_named, is_allowed, are_distinct, are_only, only, has, value_of}
use Rattle.script_words.specs.declared.words.Word as code
use Rattle.script_words.specs.views.SeenWord.{word_of}
use Rattle.script_words.specs.views.Named.{are_apart, IsNamed}

-- names
same : (m n : List ℕ) → bytes_eq m n ≡ true → m ≡ n
same m n is = (bytes_eq-Decides m n).0 is

itself : (m : List ℕ) → bytes_eq m m ≡ true
itself m = (bytes_eq-Decides m m).1 refl

other_way : (m n : List ℕ) → bytes_eq m n ≡ false → bytes_eq n m ≡ false
other_way m n other = by (bytes_eq n m) refl
  where
    by : (b : Bool) → bytes_eq n m ≡ b → bytes_eq n m ≡ false
    by true is = absurd (false≢true (sym other ∙ subst (λ k. bytes_eq m k ≡ true) (sym (same n m is)) (itself m)))
    by false is = is

-- a name of the list is none of others that are apart from it
apart-none : (n : List ℕ) (ns : List (List ℕ)) (i : ℕ) → list_any (bytes_eq n) ns ≡ false → i < length ns → bytes_eq n (get_or ns i []) ≡ false
apart-none n ns i none within = by (bytes_eq n (get_or ns i [])) refl
  where
    by : (b : Bool) → bytes_eq n (get_or ns i []) ≡ b → bytes_eq n (get_or ns i []) ≡ false
    by true is = absurd (false≢true (sym none ∙ some_any (bytes_eq n) ns i [] within is))
    by false is = is

apart-left : (m : List ℕ) (ns fs : List (List ℕ)) (i : ℕ) → are_apart (ns ++ fs) ≡ true → i < length ns → bytes_eq m (get_or ns i []) ≡ true → list_any (bytes_eq m) fs ≡ false
apart-left m [] fs i apart within is = absurd (omega arith)
apart-left m (n ∷ ns) fs zero apart within is =
    let both = and_parts (not (list_any (bytes_eq n) (ns ++ fs))) (are_apart (ns ++ fs)) apart in
    let none = sym (list_any-append (bytes_eq n) ns fs) ∙ not-true (list_any (bytes_eq n) (ns ++ fs)) both.0 in
    subst (λ k. list_any (bytes_eq k) fs ≡ false) (sym (same m n is)) (or_parts (list_any (bytes_eq n) ns) (list_any (bytes_eq n) fs) none).1
apart-left m (n ∷ ns) fs (suc i) apart within is = apart-left m ns fs i (and_parts (not (list_any (bytes_eq n) (ns ++ fs))) (are_apart (ns ++ fs)) apart).1 (omega arith) is

apart-right : (m : List ℕ) (ns fs : List (List ℕ)) (i : ℕ) → are_apart (ns ++ fs) ≡ true → i < length fs → bytes_eq m (get_or fs i []) ≡ true → list_any (bytes_eq m) ns ≡ false
apart-right m [] fs i apart within is = refl
apart-right m (n ∷ ns) fs i apart within is =
    let both = and_parts (not (list_any (bytes_eq n) (ns ++ fs))) (are_apart (ns ++ fs)) apart in
    let none = sym (list_any-append (bytes_eq n) ns fs) ∙ not-true (list_any (bytes_eq n) (ns ++ fs)) both.0 in
    let other = apart-none n fs i (or_parts (list_any (bytes_eq n) ns) (list_any (bytes_eq n) fs) none).1 within in
    let not_n = other_way n m (subst (λ k. bytes_eq n k ≡ false) (sym (same m (get_or fs i []) is)) other) in
    or_from (bytes_eq m n) (list_any (bytes_eq m) ns) not_n (apart-right m ns fs i both.1 within is)

apart-front : (ns fs : List (List ℕ)) → are_apart (ns ++ fs) ≡ true → are_apart ns ≡ true
apart-front [] fs apart = refl
apart-front (n ∷ ns) fs apart =
    let both = and_parts (not (list_any (bytes_eq n) (ns ++ fs))) (are_apart (ns ++ fs)) apart in
    let none = sym (list_any-append (bytes_eq n) ns fs) ∙ not-true (list_any (bytes_eq n) (ns ++ fs)) both.0 in
    and_from (not (list_any (bytes_eq n) ns)) (are_apart ns) (not_from_false (list_any (bytes_eq n) ns) (or_parts (list_any (bytes_eq n) ns) (list_any (bytes_eq n) fs) none).0) (apart-front ns fs both.1)

apart-back : (ns fs : List (List ℕ)) → are_apart (ns ++ fs) ≡ true → are_apart fs ≡ true
apart-back [] fs apart = apart
apart-back (n ∷ ns) fs apart = apart-back ns fs (and_parts (not (list_any (bytes_eq n) (ns ++ fs))) (are_apart (ns ++ fs)) apart).1

-- what changes at one name changes at its place alone
module _ {A : Type 0} (f g : List ℕ → A) (m : List ℕ) (x : A) (others : (n : List ℕ) → bytes_eq m n ≡ false → g n ≡ f n) (here : g m ≡ x) where
  map-same : (ns : List (List ℕ)) → list_any (bytes_eq m) ns ≡ false → map g ns ≡ map f ns
  map-same [] none = refl
  map-same (n ∷ ns) none =
      let both = or_parts (bytes_eq m n) (list_any (bytes_eq m) ns) none in
      ap₂ (λ y ys. y ∷ ys) (others n both.0) (map-same ns both.1)

  map-at : (ns : List (List ℕ)) (i : ℕ) → are_apart ns ≡ true → i < length ns → bytes_eq m (get_or ns i []) ≡ true → map g ns ≡ slice_set (map f ns) i x
  map-at [] i apart within is = absurd (omega arith)
  map-at (n ∷ ns) zero apart within is =
      let both = and_parts (not (list_any (bytes_eq n) ns)) (are_apart ns) apart in
      let none = subst (λ k. list_any (bytes_eq k) ns ≡ false) (sym (same m n is)) (not-true (list_any (bytes_eq n) ns) both.0) in
      ap₂ (λ y ys. y ∷ ys) (ap g (sym (same m n is)) ∙ here) (map-same ns none)
  map-at (n ∷ ns) (suc i) apart within is =
      let both = and_parts (not (list_any (bytes_eq n) ns)) (are_apart ns) apart in
      let other = apart-none n ns i (not-true (list_any (bytes_eq n) ns) both.0) (omega arith) in
      let not_n = other_way n m (subst (λ k. bytes_eq n k ≡ false) (sym (same m (get_or ns i []) is)) other) in
      ap₂ (λ y ys. y ∷ ys) (others n not_n) (map-at ns i both.1 (omega arith) is)

-- one word more
module _ (w : Word) where
  value_of-other : (ws : List Word) (n : List ℕ) → bytes_eq w.name n ≡ false → value_of n (ws ++ w ∷ []) ≡ value_of n ws
  unfolding value_of
  value_of-other [] n other = rw other refl
  value_of-other (x ∷ xs) n other = by (bytes_eq x.name n) refl (value_of-other xs n other)
    where
      by : (b : Bool) → bytes_eq x.name n ≡ b → value_of n (xs ++ w ∷ []) ≡ value_of n xs → value_of n (x ∷ (xs ++ w ∷ [])) ≡ value_of n (x ∷ xs)
      by true is rest = rw is refl
      by false is rest = rw is rest

  value_of-new : (ws : List Word) → has w.name ws ≡ false → value_of w.name (ws ++ w ∷ []) ≡ w.value
  unfolding value_of has
  value_of-new [] new = rw (itself w.name) refl
  value_of-new (x ∷ xs) new =
      let both = or_parts (bytes_eq x.name w.name) (list_any (is_named w.name) xs) new in
      rw both.0 (value_of-new xs both.1)

  has-more : (ws : List Word) (n : List ℕ) → has n (ws ++ w ∷ []) ≡ (has n ws || bytes_eq w.name n)
  unfolding has
  has-more ws n = list_any-append (is_named n) ws (w ∷ []) ∙ by (list_any (is_named n) ws) (bytes_eq w.name n)
    where
      by : (a b : Bool) → (a || (b || false)) ≡ (a || b)
      by true b = refl
      by false true = refl
      by false false = refl

  has-other : (ws : List Word) (n : List ℕ) → bytes_eq w.name n ≡ false → has n (ws ++ w ∷ []) ≡ has n ws
  has-other ws n other = has-more ws n ∙ by (has n ws) (bytes_eq w.name n) other
    where
      by : (a b : Bool) → b ≡ false → (a || b) ≡ a
      by true b none = refl
      by false b none = none

  has-new : (ws : List Word) → has w.name (ws ++ w ∷ []) ≡ true
  has-new ws = has-more ws w.name ∙ by (has w.name ws) (bytes_eq w.name w.name) (itself w.name)
    where
      by : (a b : Bool) → b ≡ true → (a || b) ≡ true
      by true b is = refl
      by false b is = is

  distinct-more : (ws : List Word) → are_distinct ws ≡ true → has w.name ws ≡ false → are_distinct (ws ++ w ∷ []) ≡ true
  unfolding has
  distinct-more [] distinct new = refl
  distinct-more (x ∷ xs) distinct new =
      let both = and_parts (not (has x.name xs)) (are_distinct xs) distinct in
      let parts = or_parts (bytes_eq x.name w.name) (list_any (is_named w.name) xs) new in
      let none : has x.name (xs ++ w ∷ []) ≡ false =
      has-more xs x.name ∙ or_from (has x.name xs) (bytes_eq w.name x.name) (not-true (has x.name xs) both.0) (other_way x.name w.name parts.0) in
      and_from (not (has x.name (xs ++ w ∷ []))) (are_distinct (xs ++ w ∷ [])) (not_from_false (has x.name (xs ++ w ∷ [])) none) (distinct-more xs both.1 parts.1)

  distinct-front : (ws rest : List Word) → are_distinct (ws ++ w ∷ rest) ≡ true → has w.name ws ≡ false
  unfolding has
  distinct-front [] rest distinct = refl
  distinct-front (x ∷ xs) rest distinct =
      let both = and_parts (not (has x.name (xs ++ w ∷ rest))) (are_distinct (xs ++ w ∷ rest)) distinct in
      let none = sym (list_any-append (is_named x.name) xs (w ∷ rest)) ∙ not-true (has x.name (xs ++ w ∷ rest)) both.0 in
      let behind = (or_parts (list_any (is_named x.name) xs) (list_any (is_named x.name) (w ∷ rest)) none).1 in
      let other = (or_parts (bytes_eq w.name x.name) (list_any (is_named x.name) rest) behind).0 in
      or_from (bytes_eq x.name w.name) (list_any (is_named w.name) xs) (other_way w.name x.name other) (distinct-front xs rest both.1)

-- what is said of a name tells whether it stands
module _ (names flags : List (List ℕ)) (m : List ℕ) where
  value-has : (ws : List Word) (v : List ℕ) → value_of m ws ≡ Some v → has m ws ≡ true
  unfolding value_of has
  value-has [] v is = cc
  value-has (x ∷ xs) v is = by (bytes_eq x.name m) refl (value-has xs v)
    where
      by : (b : Bool) → bytes_eq x.name m ≡ b → (value_of m xs ≡ Some v → has m xs ≡ true) → has m (x ∷ xs) ≡ true
      by true named rest = rw named refl
      by false named rest = rw named (rest (rw named at is))

  none-has : (ws : List Word) → list_all (is_allowed names flags) ws ≡ true → list_any (bytes_eq m) flags ≡ false → value_of m ws ≡ None → has m ws ≡ false
  unfolding value_of has
  none-has [] allowed apart none = refl
  none-has (x ∷ xs) allowed apart none = by (bytes_eq x.name m) refl x.value refl (λ all. none-has xs all apart)
    where
      by : (b : Bool) → bytes_eq x.name m ≡ b → (v : Option (List ℕ)) → x.value ≡ v → (list_all (is_allowed names flags) xs ≡ true → value_of m xs ≡ None → has m xs ≡ false) → has m (x ∷ xs) ≡ false
      by true named (Some v) is later = let stands : Some v ≡ None = sym is ∙ (rw named at none) in cc
      by true named None is later =
          let first = (and_parts (is_allowed names flags x) (list_all (is_allowed names flags) xs) allowed).0 in
          let flag : list_any (bytes_eq x.name) flags ≡ true = rw is at first in
          absurd (false≢true (sym (subst (λ k. list_any (bytes_eq k) flags ≡ false) (sym (same x.name m named)) apart) ∙ flag))
      by false named v is later =
          let rest = (and_parts (is_allowed names flags x) (list_all (is_allowed names flags) xs) allowed).1 in
          rw named (later rest (rw named at none))

-- the words so far, and one that is allowed and new
only-more : (names flags : List (List ℕ)) (ws : List Word) (w : Word) → are_only names flags ws ≡ true → is_allowed names flags w ≡ true → has w.name ws ≡ false → are_only names flags (ws ++ w ∷ []) ≡ true
unfolding are_only
only-more names flags ws w only allowed new =
    let both = and_parts (list_all (is_allowed names flags) ws) (are_distinct ws) only in
    let all = list_all-append (is_allowed names flags) ws (w ∷ []) ∙ and_from (list_all (is_allowed names flags) ws) (is_allowed names flags w && true) both.0 (and_from (is_allowed names flags w) true allowed refl) in
    and_from (list_all (is_allowed names flags) (ws ++ w ∷ [])) (are_distinct (ws ++ w ∷ [])) all (distinct-more w ws both.1 new)

-- a word that is not so, wherever it stands
pub only-fails : (names flags : List (List ℕ)) (ws rest : List Word) (w : Word) → (is_allowed names flags w ≡ false) ⊎ (has w.name ws ≡ true) → are_only names flags (ws ++ w ∷ rest) ≡ false
unfolding are_only
only-fails names flags ws rest w wrong = by (are_only names flags (ws ++ w ∷ rest)) refl wrong
  where
    by : (b : Bool) → are_only names flags (ws ++ w ∷ rest) ≡ b → (is_allowed names flags w ≡ false) ⊎ (has w.name ws ≡ true) → are_only names flags (ws ++ w ∷ rest) ≡ false
    by false is wrong = is
    by true is (inl bad) =
        let both = and_parts (list_all (is_allowed names flags) (ws ++ w ∷ rest)) (are_distinct (ws ++ w ∷ rest)) is in
        let all = sym (list_all-append (is_allowed names flags) ws (w ∷ rest)) ∙ both.0 in
        let behind = (and_parts (list_all (is_allowed names flags) ws) (list_all (is_allowed names flags) (w ∷ rest)) all).1 in
        absurd (false≢true (sym bad ∙ (and_parts (is_allowed names flags w) (list_all (is_allowed names flags) rest) behind).0))
    by true is (inr twice) =
        let both = and_parts (list_all (is_allowed names flags) (ws ++ w ∷ rest)) (are_distinct (ws ++ w ∷ rest)) is in
        absurd (false≢true (sym (distinct-front w ws rest both.1) ∙ twice))

prefix-map : {X Y : Type 0} (p : Y → Bool) (f : X → Y) (xs : List X) → prefix_len p (map f xs) ≡ prefix_len (λ x. p (f x)) xs
prefix-map p f [] = refl
prefix-map p f (x ∷ xs) = ap (λ n. cond (p (f x)) (1 + n) 0) (prefix-map p f xs)

-- the place among names that are lent
pub position-lent : (m : List ℕ) (ns : List (Bor (List ℕ))) → position (λ n. bytes_eq m n.now) ns ≡ position (bytes_eq m) (map (λ n. n.now) ns)
position-lent m ns = rw (prefix-map (λ n. not (bytes_eq m n)) (λ n. n.now) ns, length-map ns (λ (n : Bor (List ℕ)). n.now)) refl

-- a name has a place exactly where it is among the names
placed : (m : List ℕ) (ns : List (List ℕ)) (i : ℕ) → position (bytes_eq m) ns ≡ Some i → (i < length ns) × (bytes_eq m (get_or ns i []) ≡ true)
placed m ns i at = let found = position-Some (bytes_eq m) ns i [] at in (found.0, found.1)

unplaced : (m : List ℕ) (ns : List (List ℕ)) → position (bytes_eq m) ns ≡ None → list_any (bytes_eq m) ns ≡ false
unplaced m ns none = none_any (bytes_eq m) ns (none-position (bytes_eq m) ns none)

allowed-value : (names flags : List (List ℕ)) (m v : List ℕ) → is_allowed names flags (record { name = m; value = Some v }) ≡ list_any (bytes_eq m) names
allowed-value names flags m v = by (list_any (bytes_eq m) names)
  where
    by : (b : Bool) → (b || false) ≡ b
    by true = refl
    by false = refl

module _ (names flags : List (List ℕ)) (ws : List Word) (values : List (Option (List ℕ))) (given : List Bool) (apart : are_apart (names ++ flags) ≡ true)
    (named : IsNamed names flags ws values given) (m : List ℕ) (i : ℕ) where
  -- a name with a value whose place is empty
  pub value-taken : (v : List ℕ) → position (bytes_eq m) names ≡ Some i → get_or values i None ≡ None
      → IsNamed names flags (ws ++ record { name = m; value = Some v } ∷ []) (slice_set values i (Some v)) given
  unfolding are_only
  value-taken v at empty =
      let w : Word = record { name = m; value = Some v } in
      let p = placed m names i at in
      let no_flag = apart-left m names flags i apart p.0 p.1 in
      let unsaid : value_of m ws ≡ None =
      ap (λ n. value_of n ws) (same m (get_or names i []) p.1) ∙ sym (get_or-map (λ n. value_of n ws) names i [] None p.0) ∙ ap (λ l. get_or l i None) (sym named.are) ∙ empty in
      let new = none-has names flags m ws (all_allowed named.only) no_flag unsaid in record {
        only = only-more names flags ws w named.only (allowed-value names flags m v ∙ some_any (bytes_eq m) names i [] p.0 p.1) new;
        are = ap (λ l. slice_set l i (Some v)) named.are
            ∙ sym (map-at (λ n. value_of n ws) (λ n. value_of n (ws ++ w ∷ [])) m (Some v) (value_of-other w ws) (value_of-new w ws new) names i (apart-front names flags apart) p.0 p.1);
        stand = named.stand ∙ sym (map-same (λ n. has n ws) (λ n. has n (ws ++ w ∷ [])) m true (has-other w ws) (has-new w ws) flags no_flag);
      }
    where
      all_allowed : are_only names flags ws ≡ true → list_all (is_allowed names flags) ws ≡ true
      all_allowed only = (and_parts (list_all (is_allowed names flags) ws) (are_distinct ws) only).0

  -- one whose place is taken
  pub value-twice : (v x : List ℕ) (rest : List Word) → position (bytes_eq m) names ≡ Some i → get_or values i None ≡ Some x → are_only names flags (ws ++ record { name = m; value = Some v } ∷ rest) ≡ false
  value-twice v x rest at full =
      let p = placed m names i at in
      let said : value_of m ws ≡ Some x =
      ap (λ n. value_of n ws) (same m (get_or names i []) p.1) ∙ sym (get_or-map (λ n. value_of n ws) names i [] None p.0) ∙ ap (λ l. get_or l i None) (sym named.are) ∙ full in
      only-fails names flags ws rest (record { name = m; value = Some v }) (inr (value-has names flags m ws x said))

  -- a flag that does not stand so far
  pub flag-taken : position (bytes_eq m) flags ≡ Some i → get_or given i false ≡ false → IsNamed names flags (ws ++ record { name = m; value = None } ∷ []) values (slice_set given i true)
  flag-taken at empty =
      let w : Word = record { name = m; value = None } in
      let p = placed m flags i at in
      let no_name = apart-right m names flags i apart p.0 p.1 in
      let new : has m ws ≡ false =
      ap (λ n. has n ws) (same m (get_or flags i []) p.1) ∙ sym (get_or-map (λ n. has n ws) flags i [] false p.0) ∙ ap (λ l. get_or l i false) (sym named.stand) ∙ empty in record {
        only = only-more names flags ws w named.only (some_any (bytes_eq m) flags i [] p.0 p.1) new;
        are = named.are ∙ sym (map-same (λ n. value_of n ws) (λ n. value_of n (ws ++ w ∷ [])) m None (value_of-other w ws) (value_of-new w ws new) names no_name);
        stand = ap (λ l. slice_set l i true) named.stand
            ∙ sym (map-at (λ n. has n ws) (λ n. has n (ws ++ w ∷ [])) m true (has-other w ws) (has-new w ws) flags i (apart-back names flags apart) p.0 p.1);
      }

  -- one that stands
  pub flag-twice : (rest : List Word) → position (bytes_eq m) flags ≡ Some i → get_or given i false ≡ true → are_only names flags (ws ++ record { name = m; value = None } ∷ rest) ≡ false
  flag-twice rest at full =
      let p = placed m flags i at in
      let stands : has m ws ≡ true =
      ap (λ n. has n ws) (same m (get_or flags i []) p.1) ∙ sym (get_or-map (λ n. has n ws) flags i [] false p.0) ∙ ap (λ l. get_or l i false) (sym named.stand) ∙ full in
      only-fails names flags ws rest (record { name = m; value = None }) (inr stands)

-- a name that has no place
pub value-unknown : (names flags : List (List ℕ)) (ws rest : List Word) (m v : List ℕ) → position (bytes_eq m) names ≡ None → are_only names flags (ws ++ record { name = m; value = Some v } ∷ rest) ≡ false
value-unknown names flags ws rest m v none =
    only-fails names flags ws rest (record { name = m; value = Some v }) (inl (allowed-value names flags m v ∙ unplaced m names none))

pub flag-unknown : (names flags : List (List ℕ)) (ws rest : List Word) (m : List ℕ) → position (bytes_eq m) flags ≡ None → are_only names flags (ws ++ record { name = m; value = None } ∷ rest) ≡ false
flag-unknown names flags ws rest m none = only-fails names flags ws rest (record { name = m; value = None }) (inl (unplaced m flags none))

-- places that are lent
module _ (values : List (Option (Bor (List ℕ)))) (i : ℕ) (within : i < length values) where
  pub place-empty : is_some (get_or values i None) ≡ false → get_or (map (option_map (λ v. v.now)) values) i None ≡ None
  place-empty empty = get_or-map (option_map (λ v. v.now)) values i None None within ∙ by (get_or values i None) empty
    where
      by : (o : Option (Bor (List ℕ))) → is_some o ≡ false → option_map (λ v. v.now) o ≡ None
      by None empty = refl
      by (Some v) empty = cc

  pub place-full : is_some (get_or values i None) ≡ true → (x : List ℕ) × (get_or (map (option_map (λ v. v.now)) values) i None ≡ Some x)
  place-full full = by (get_or values i None) refl full
    where
      by : (o : Option (Bor (List ℕ))) → get_or values i None ≡ o → is_some o ≡ true → (x : List ℕ) × (get_or (map (option_map (λ v. v.now)) values) i None ≡ Some x)
      by None is full = cc
      by (Some v) is full = (v.now, get_or-map (option_map (λ v. v.now)) values i None None within ∙ ap (option_map (λ v. v.now)) is)

map-map : {X Y Z : Type 0} (g : Y → Z) (f : X → Y) (xs : List X) → map g (map f xs) ≡ map (λ x. g (f x)) xs
map-map g f [] = refl
map-map g f (x ∷ xs) = ap (λ ys. g (f x) ∷ ys) (map-map g f xs)

-- no word says anything
pub named-none : (names flags : List (Bor (List ℕ))) (values : List (Option (List ℕ))) (given : List Bool) → values ≡ map (λ n. None) names → given ≡ map (λ n. false) flags
    → IsNamed (map (λ n. n.now) names) (map (λ n. n.now) flags) [] values given
unfolding are_only value_of has
named-none names flags values given empty low = record { only = refl; are = empty ∙ sym (map-map (λ n. value_of n []) (λ n. n.now) names); stand = low ∙ sym (map-map (λ n. has n []) (λ n. n.now) flags) }

-- what all words say, by names that are lent
pub named-values : (names : List (Bor (List ℕ))) (flags : List (List ℕ)) (ws : List Word) (values : List (Option (List ℕ))) (given : List Bool) → IsNamed (map (λ n. n.now) names) flags ws values given
    → values ≡ map (λ n. value_of n.now ws) names
named-values names flags ws values given named = named.are ∙ map-map (λ n. value_of n ws) (λ n. n.now) names

pub named-flags : (names : List (List ℕ)) (flags : List (Bor (List ℕ))) (ws : List Word) (values : List (Option (List ℕ))) (given : List Bool) → IsNamed names (map (λ n. n.now) flags) ws values given
    → given ≡ map (λ n. has n.now ws) flags
named-flags names flags ws values given named = named.stand ∙ map-map (λ n. has n ws) (λ n. n.now) flags

parted : (words : List code.Word) (i : ℕ) (d : code.Word) → i < length words → map word_of words ≡ map word_of (take i words) ++ word_of (get_or words i d) ∷ map word_of (drop (suc i) words)
parted [] i d within = absurd (omega arith)
parted (x ∷ xs) zero d within = refl
parted (x ∷ xs) (suc i) d within = ap (λ l. word_of x ∷ l) (parted xs i d (omega arith))

-- the first word that is not taken
pub not-taken : (names flags : List (List ℕ)) (words : List code.Word) (i : ℕ) (d : code.Word) → i < length words
    → ((rest : List Word) → are_only names flags (map word_of (take i words) ++ word_of (get_or words i d) ∷ rest) ≡ false) → are_only names flags (map word_of words) ≡ false
not-taken names flags words i d within fails = ap (are_only names flags) (parted words i d within) ∙ fails (map word_of (drop (suc i) words))
