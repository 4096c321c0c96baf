-- Where a walk begins, how it goes on, and where it ends.
use Rattle.std.specs.Prelude.{Bool, true, false, ◌&&◌, List, [], ◌∷◌, ◌++◌, map, filter, find, reverse, Option, Some, None, cond}
use Rattle.std.specs.declared.cmp.Ordering.{Ordering}
use Rattle.std.specs.declared.cmp.Ordering.TheVariants.{Less, Equal, Greater}
use Rattle.std.specs.Ordering.{is_lt, is_le, ordering_reverse}
use Rattle.std.specs.Cmp.{IsTotalOrder, tied_itself}
use Rattle.std.specs.List.Sorted.{IsStrictlySortedBy}
use Rattle.std.proofs.Common.{◌≡◌, refl, sym, ap, ◌∙◌}
use Rattle.std.proofs.lemmas.Cmp.{back_total}
use Rattle.mvcc_key.specs.Order.{Key, key_cmp, is_below, is_at_or_below, is_within}
use Rattle.mvcc_key.specs.History.{History}
use Rattle.mvcc_key.proofs.OrderLaws.{key_cmp-total}
use Rattle.mvcc_key.proofs.SortedLaws.{in_order-sorted}
use Rattle.mvcc_key.proofs.EachLaws.{All-weaker, all_pass}
use Rattle.mvcc_key.proofs.FilterLaws.{filter-swap, filter-follows, filter-none}
use Rattle.mvcc_key.proofs.TimeLaws.{less_from}
use Rattle.read_rule.specs.Scan.{stored_keys, walked_keys}
use Rattle.mvcc_cursor.specs.Standing.{Place, AtKey, or_past, or_before}
use Rattle.mvcc_scan.specs.views.Walking.{Bounds, all_keys, way_cmp, is_on, is_beyond, is_near, is_far, ahead_from}
use Rattle.mvcc_scan.proofs.ListLaws.{filter-reverse, sorted-reverse, from_option, passing-from}

-- ---- the order of keys

-- of two keys the one is below the other, or the other is at or below it
pub le-turned : (a b : Key) → is_at_or_below a b ≡ false → is_below b a ≡ true
le-turned a b h = ap is_lt (key_cmp-total.antisymm b a) ∙ by (key_cmp a b) h
  where
    by : (o : Ordering) → is_le o ≡ false → is_lt (ordering_reverse o) ≡ true
    by Less h = absurd cc
    by Equal h = absurd cc
    by Greater h = refl

-- a key is at or below itself
pub le-self : (a : Key) → is_at_or_below a a ≡ true
le-self a = ap is_le (tied_itself key_cmp-total a)

-- at or below, and below
pub le-lt : (a b c : Key) → is_at_or_below a b ≡ true → key_cmp b c ≡ Less → is_at_or_below a c ≡ true
le-lt a b c h less = by (key_cmp a b) refl h
  where
    by : (o : Ordering) → key_cmp a b ≡ o → is_le o ≡ true → is_at_or_below a c ≡ true
    by Less e h = ap is_le (key_cmp-total.trans a b c e less)
    by Equal e h = ap is_le (key_cmp-total.congr a b c e ∙ less)
    by Greater e h = absurd cc

-- what is at or below is not above
pub not-both : (a b : Key) → is_at_or_below a b ≡ true → is_below b a ≡ true → ⊥
not-both a b h k = by (key_cmp b a) (key_cmp a b) (key_cmp-total.antisymm b a) k h
  where
    by : (o p : Ordering) → o ≡ ordering_reverse p → is_lt o ≡ true → is_le p ≡ true → ⊥
    by Less Less e k h = absurd cc
    by Less Equal e k h = absurd cc
    by Less Greater e k h = absurd cc
    by Equal p e k h = absurd cc
    by Greater p e k h = absurd cc

-- the order of a walk is total
pub way-total : (b : Bool) → IsTotalOrder (way_cmp b)
way-total false = key_cmp-total
way-total true = back_total key_cmp-total

-- all keys are in it
pub all_keys-sorted : (b : Bool) (h : History) → IsStrictlySortedBy (way_cmp b) (all_keys b h)
all_keys-sorted false h = in_order-sorted key_cmp-total (map (λ v. v.key) h.versions ++ map (λ i. i.key) h.intents)
all_keys-sorted true h =
    sorted-reverse key_cmp (way_cmp true) (λ x y. refl) (stored_keys h) (in_order-sorted key_cmp-total (map (λ v. v.key) h.versions ++ map (λ i. i.key) h.intents))

-- ---- the bounds

abbrev pub within_bounds : Bounds → Key → Bool
within_bounds b = is_within b.start b.end

-- the walk's keys are those of all that are within
pub walked-all : (b : Bounds) (h : History) → walked_keys h b.start b.end b.backwards ≡ filter (within_bounds b) (all_keys b.backwards h)
walked-all b h = by b.backwards
  where
    by : (d : Bool) → cond d (reverse (filter (within_bounds b) (stored_keys h))) (filter (within_bounds b) (stored_keys h)) ≡ filter (within_bounds b) (all_keys d h)
    by false = refl
    by true = sym (filter-reverse (within_bounds b) (stored_keys h))

-- a key within both bounds is within
both-within : (b : Bounds) (k : Key) → is_near b k ≡ true → is_far b k ≡ true → within_bounds b k ≡ true
both-within b k = by b.backwards
  where
    by : (d : Bool) → cond d (is_below k b.end) (is_at_or_below b.start k) ≡ true → cond d (is_at_or_below b.start k) (is_below k b.end) ≡ true → (is_at_or_below b.start k && is_below k b.end) ≡ true
    by false near far = ap (λ t. t && is_below k b.end) near ∙ far
    by true near far = ap (λ t. t && is_below k b.end) far ∙ near

-- a key within is within the near bound
within-near : (b : Bounds) (k : Key) → within_bounds b k ≡ true → is_near b k ≡ true
within-near b k = by b.backwards (is_at_or_below b.start k) (is_below k b.end)
  where
    by : (d s e : Bool) → (s && e) ≡ true → cond d e s ≡ true
    by false true e h = refl
    by false false e h = h
    by true true e h = h
    by true false e h = absurd cc

-- a key that is not within the far bound is not within
not-far-within : (b : Bounds) (k : Key) → is_far b k ≡ false → within_bounds b k ≡ false
not-far-within b k = by b.backwards (is_at_or_below b.start k) (is_below k b.end)
  where
    by : (d s e : Bool) → cond d s e ≡ false → (s && e) ≡ false
    by false true e h = h
    by false false e h = refl
    by true true e h = absurd cc
    by true false e h = refl

-- what is further on is within the near bound too
pub near-on : (b : Bounds) (x y : Key) → way_cmp b.backwards x y ≡ Less → is_near b x ≡ true → is_near b y ≡ true
near-on b x y = by b.backwards
  where
    by : (d : Bool) → way_cmp d x y ≡ Less → cond d (is_below x b.end) (is_at_or_below b.start x) ≡ true → cond d (is_below y b.end) (is_at_or_below b.start y) ≡ true
    by false less near = le-lt b.start x y near less
    by true less near = ap is_lt (key_cmp-total.trans y x b.end less (less_from _ near))

-- and where one is not within the far bound, no further one is
far-back : (b : Bounds) (x y : Key) → is_far b x ≡ false → way_cmp b.backwards x y ≡ Less → is_far b y ≡ false
far-back b x y = by b.backwards
  where
    no : (t : Bool) → (t ≡ true → ⊥) → t ≡ false
    no true h = absurd (h refl)
    no false h = refl

    by : (d : Bool) → cond d (is_at_or_below b.start x) (is_below x b.end) ≡ false → way_cmp d x y ≡ Less → cond d (is_at_or_below b.start y) (is_below y b.end) ≡ false
    by false far less = no (is_below y b.end) (λ h. let e : is_below x b.end ≡ true = ap is_lt (key_cmp-total.trans x y b.end less (less_from _ h)) in let f : true ≡ false = sym e ∙ far in absurd cc)
    by true far less = no (is_at_or_below b.start y) (λ h. let e : is_at_or_below b.start x ≡ true = le-lt b.start y x h less in let f : true ≡ false = sym e ∙ far in absurd cc)

-- ---- a place on the way

-- the place at a key, or past the end of the walk where there is none
abbrev pub place_at : Bool → Option Key → Place
place_at false o = or_past o
place_at true o = or_before o

-- what is ahead of it
ahead-at : (d : Bool) (o : Option Key) (ks : List Key) → ahead_from d (place_at d o) ks ≡ from_option (way_cmp d) o ks
ahead-at false None ks = refl
ahead-at false (Some k) ks = refl
ahead-at true None ks = refl
ahead-at true (Some k) ks = refl

module _ (b : Bounds) (h : History) where
  abbrev all : List Key
  all = all_keys b.backwards h

  abbrev walked : List Key
  walked = walked_keys h b.start b.end b.backwards

  -- of the walk's keys those from a key on are those within of all from it on
  from-walked : (o : Option Key) → from_option (way_cmp b.backwards) o walked ≡ filter (within_bounds b) (from_option (way_cmp b.backwards) o all)
  from-walked None = refl
  from-walked (Some k) = ap (filter (is_on b.backwards k)) (walked-all b h) ∙ filter-swap (is_on b.backwards k) (within_bounds b) all

  -- those ahead of the first key that passes a test that holds from there on
  ahead-passing : (test : Key → Bool) → ((x y : Key) → way_cmp b.backwards x y ≡ Less → test x ≡ true → test y ≡ true)
      → ahead_from b.backwards (place_at b.backwards (find test all)) walked ≡ filter (within_bounds b) (filter test all)
  ahead-passing test on =
      ahead-at b.backwards (find test all) walked ∙ from-walked (find test all)
      ∙ ap (filter (within_bounds b)) (sym (passing-from (way-total b.backwards) test on all (all_keys-sorted b.backwards h)))

  -- ahead of the first key of the near bound is the whole walk
  pub ahead-begun : ahead_from b.backwards (place_at b.backwards (find (is_near b) all)) walked ≡ walked
  ahead-begun =
      ahead-passing (is_near b) (near-on b) ∙ filter-follows (within_bounds b) (is_near b) all (within-near b) ∙ sym (walked-all b h)

  -- nothing within is behind a key that is not within the far bound
  none-far : (k : Key) → is_far b k ≡ false → filter (within_bounds b) (filter (is_beyond b.backwards k) all) ≡ []
  none-far k far =
      filter-none (within_bounds b) (filter (is_beyond b.backwards k) all)
      (All-weaker (λ x. is_beyond b.backwards k x ≡ true) (λ x. within_bounds b x ≡ false) (filter (is_beyond b.backwards k) all)
      (λ x h. not-far-within b x (far-back b k x far (less_from _ h))) (all_pass (is_beyond b.backwards k) all))

  -- what is ahead of a stored key
  ahead-there : (k : Key) → filter (is_on b.backwards k) all ≡ k ∷ filter (is_beyond b.backwards k) all
      → ahead_from b.backwards (AtKey k) walked ≡ cond (within_bounds b k) (k ∷ filter (within_bounds b) (filter (is_beyond b.backwards k) all)) (filter (within_bounds b) (filter (is_beyond b.backwards k) all))
  ahead-there k among = from-walked (Some k) ∙ ap (filter (within_bounds b)) among

  -- within the far bound the key is the first
  pub ahead-first : (k : Key) → is_near b k ≡ true → filter (is_on b.backwards k) all ≡ k ∷ filter (is_beyond b.backwards k) all → is_far b k ≡ true
      → ahead_from b.backwards (AtKey k) walked ≡ k ∷ filter (within_bounds b) (filter (is_beyond b.backwards k) all)
  ahead-first k near among far =
      ahead-there k among ∙ ap (λ t. cond t (k ∷ filter (within_bounds b) (filter (is_beyond b.backwards k) all)) (filter (within_bounds b) (filter (is_beyond b.backwards k) all))) (both-within b k near far)

  -- and else none is
  pub ahead-none : (k : Key) → filter (is_on b.backwards k) all ≡ k ∷ filter (is_beyond b.backwards k) all → is_far b k ≡ false → ahead_from b.backwards (AtKey k) walked ≡ []
  ahead-none k among far =
      ahead-there k among
      ∙ ap (λ t. cond t (k ∷ filter (within_bounds b) (filter (is_beyond b.backwards k) all)) (filter (within_bounds b) (filter (is_beyond b.backwards k) all))) (not-far-within b k far)
      ∙ none-far k far

  -- what is behind it goes on in the order
  pub beyond-on : (k x y : Key) → way_cmp b.backwards x y ≡ Less → is_beyond b.backwards k x ≡ true → is_beyond b.backwards k y ≡ true
  beyond-on k x y less h = ap is_lt ((way-total b.backwards).trans k x y (less_from _ h) less)

  -- going on from a key leaves the others
  pub ahead-next : (k : Key) → is_near b k ≡ true → filter (is_on b.backwards k) all ≡ k ∷ filter (is_beyond b.backwards k) all → (key : Key) (ks : List Key)
      → ahead_from b.backwards (AtKey k) walked ≡ key ∷ ks → ahead_from b.backwards (place_at b.backwards (find (is_beyond b.backwards k) all)) walked ≡ ks
  ahead-next k near among key ks is = ahead-passing (is_beyond b.backwards k) (beyond-on k) ∙ by (is_far b k) refl
    where
      by : (t : Bool) → is_far b k ≡ t → filter (within_bounds b) (filter (is_beyond b.backwards k) all) ≡ ks
      by true far = let same : k ∷ filter (within_bounds b) (filter (is_beyond b.backwards k) all) ≡ key ∷ ks = sym (ahead-first k near among far) ∙ is in cc
      by false far = let same : [] ≡ key ∷ ks = sym (ahead-none k among far) ∙ is in absurd cc
