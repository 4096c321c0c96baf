-- What a batch of points makes of the pairs that a store shows.
use Rattle.std.specs.Prelude.{◌≡◌, true, false, not, List, [], ◌∷◌, ◌++◌, Option, Some, None}
use Rattle.std.specs.List.{AllByRecursion}
use Rattle.std.specs.List.Sorted.{IsStrictlySortedBy}
use Rattle.std.specs.declared.cmp.Ordering.{Ordering}
use Rattle.std.specs.declared.cmp.Ordering.TheVariants.{Less, Equal, Greater}
use Rattle.std.specs.Ordering.{is_eq, match_ordering, ordering_reverse}
use Rattle.std.specs.Cmp.{IsTotalOrder}
use Rattle.std.proofs.Common.{refl, sym, ap, ◌∙◌, subst, cond}
use Rattle.mvcc_key.specs.Lists.{put_in_order, in_order}
use Rattle.mvcc_key.specs.Order.{Name, name_cmp, is_same_name, Pair}
use Rattle.mvcc_key.specs.Points.{Point, point_cmp}
use Rattle.mvcc_key.proofs.EachLaws.{All-weaker}
use Rattle.mvcc_key.proofs.OrderLaws.{name_cmp-total, name_cmp-IsAntisymmetric}
use Rattle.mvcc_key.proofs.SortedLaws.{IsBelowAll, in_order-same, in_order-sorted, below_more}
use Rattle.intent_meta.specs.PairChanges.{with_pair, without_name}
use Rattle.intent_meta.specs.PointPairs.{with_value, with_points}
use Rattle.merge_cursor.specs.Visible.{visible}
use Rattle.lsm_store.specs.Shown.{pairs_of, with_batch}
use Rattle.std.specs.Cmp.{on_total}

-- points have a total order
point_cmp-total : IsTotalOrder point_cmp
point_cmp-total = on_total (λ p. p.name) name_cmp-total

-- the pairs of the points that are set
abbrev pub shown_pairs : List Point → List Pair
shown_pairs ps = pairs_of (visible ps)

-- a point that is set is the first pair
pub set-first : (p : Point) (ps : List Point) (bytes : List _) → p.value ≡ Some bytes → shown_pairs (p ∷ ps) ≡ record { name = p.name; value = bytes } ∷ shown_pairs ps
unfolding pairs_of
set-first p ps bytes is = rw is refl

-- one that is cleared is none
pub cleared-first : (p : Point) (ps : List Point) → p.value ≡ None → shown_pairs (p ∷ ps) ≡ shown_pairs ps
unfolding pairs_of
cleared-first p ps is = rw is refl

-- the pairs of points above a name are above it
above_pairs : (n : Name) (ps : List Point) → AllByRecursion (λ q. name_cmp n q.name ≡ Less) ps → AllByRecursion (λ q. name_cmp n q.name ≡ Less) (shown_pairs ps)
unfolding pairs_of
above_pairs n [] all = tt
above_pairs n (p ∷ ps) all = by p.value refl (above_pairs n ps all.1)
  where
    by : (v : Option (List _)) → p.value ≡ v → AllByRecursion (λ q. name_cmp n q.name ≡ Less) (shown_pairs ps) → AllByRecursion (λ q. name_cmp n q.name ≡ Less) (shown_pairs (p ∷ ps))
    by None is rest = subst (AllByRecursion (λ q. name_cmp n q.name ≡ Less)) (sym (cleared-first p ps is)) rest
    by (Some bytes) is rest = subst (AllByRecursion (λ q. name_cmp n q.name ≡ Less)) (sym (set-first p ps bytes is)) (all.0, rest)

-- a name that all pairs are above takes none of them away
without-above : (n : Name) (ps : List Pair) → AllByRecursion (λ q. name_cmp n q.name ≡ Less) ps → without_name n ps ≡ ps
without-above n [] all = refl
without-above n (p ∷ ps) all =
    let differs : is_same_name p.name n ≡ false = ap is_eq (name_cmp-total.antisymm p.name n ∙ ap ordering_reverse all.0) in
    ap (λ b. cond (not b) (p ∷ without_name n ps) (without_name n ps)) differs ∙ ap (λ (l : List Pair). p ∷ l) (without-above n ps all.1)

-- and one that is put before them is the first
put-above : (p : Pair) (ps : List Pair) → AllByRecursion (λ q. name_cmp p.name q.name ≡ Less) ps → with_pair p ps ≡ p ∷ ps
put-above p [] all = refl
put-above p (q ∷ qs) all = ap (λ o. match_ordering o (p ∷ q ∷ qs) (p ∷ qs) (q ∷ with_pair p qs)) all.0

-- what a point makes of pairs that it stands above
value-behind : (p : Point) (q : Pair) (qs : List Pair) → name_cmp p.name q.name ≡ Greater → with_value p.name p.value (q ∷ qs) ≡ q ∷ with_value p.name p.value qs
value-behind p q qs above = by p.value
  where
    differs : is_same_name q.name p.name ≡ false
    differs = ap is_eq (name_cmp-total.antisymm q.name p.name ∙ ap ordering_reverse above)

    by : (v : Option (List _)) → with_value p.name v (q ∷ qs) ≡ q ∷ with_value p.name v qs
    by None = ap (λ b. cond (not b) (q ∷ without_name p.name qs) (without_name p.name qs)) differs
    by (Some bytes) = ap (λ o. match_ordering o (record { name = p.name; value = bytes } ∷ q ∷ qs) (record { name = p.name; value = bytes } ∷ qs) (q ∷ with_pair (record { name = p.name; value = bytes }) qs)) above

-- a point before all others
value-first : (p : Point) (ps : List Point) → AllByRecursion (λ q. name_cmp p.name q.name ≡ Less) ps → shown_pairs (p ∷ ps) ≡ with_value p.name p.value (shown_pairs ps)
value-first p ps all = by p.value refl
  where
    by : (v : Option (List _)) → p.value ≡ v → shown_pairs (p ∷ ps) ≡ with_value p.name v (shown_pairs ps)
    by None is = cleared-first p ps is ∙ sym (without-above p.name (shown_pairs ps) (above_pairs p.name ps all))
    by (Some bytes) is = set-first p ps bytes is ∙ sym (put-above (record { name = p.name; value = bytes }) (shown_pairs ps) (above_pairs p.name ps all))

-- a point in the place of one with its name
value-same : (p q : Point) (ps : List Point) → name_cmp p.name q.name ≡ Equal → AllByRecursion (λ r. name_cmp p.name r.name ≡ Less) ps
    → shown_pairs (p ∷ ps) ≡ with_value p.name p.value (shown_pairs (q ∷ ps))
value-same p q ps same all = by q.value refl
  where
    same_name : is_same_name q.name p.name ≡ true
    same_name = ap is_eq (name_cmp-total.antisymm q.name p.name ∙ ap ordering_reverse same)

    set : (bytes : List _) (v : Option (List _)) → p.value ≡ v → shown_pairs (p ∷ ps) ≡ with_value p.name v (record { name = q.name; value = bytes } ∷ shown_pairs ps)
    set bytes None is =
        cleared-first p ps is ∙ sym (without-above p.name (shown_pairs ps) (above_pairs p.name ps all))
        ∙ sym (ap (λ b. cond (not b) (record { name = q.name; value = bytes } ∷ without_name p.name (shown_pairs ps)) (without_name p.name (shown_pairs ps))) same_name)
    set bytes (Some new) is =
        set-first p ps new is
        ∙ sym (ap (λ o. match_ordering o (record { name = p.name; value = new } ∷ record { name = q.name; value = bytes } ∷ shown_pairs ps) (record { name = p.name; value = new } ∷ shown_pairs ps)
        (record { name = q.name; value = bytes } ∷ with_pair (record { name = p.name; value = new }) (shown_pairs ps))) same)

    by : (v : Option (List _)) → q.value ≡ v → shown_pairs (p ∷ ps) ≡ with_value p.name p.value (shown_pairs (q ∷ ps))
    by None is = value-first p ps all ∙ ap (with_value p.name p.value) (sym (cleared-first q ps is))
    by (Some bytes) is = set bytes p.value refl ∙ ap (with_value p.name p.value) (sym (set-first q ps bytes is))

-- what is above a point is above one that ties with it
above_same : (p q : Point) (ps : List Point) → name_cmp p.name q.name ≡ Equal → IsBelowAll point_cmp q ps → AllByRecursion (λ r. name_cmp p.name r.name ≡ Less) ps
above_same p q ps same below = All-weaker (λ r. point_cmp q r ≡ Less) (λ r. name_cmp p.name r.name ≡ Less) ps (λ r less. ap (λ n. name_cmp n r.name) (name_cmp-IsAntisymmetric p.name q.name same) ∙ less) below

-- a point in its place among others
value-put : (p : Point) (ps : List Point) → IsStrictlySortedBy point_cmp ps → shown_pairs (put_in_order point_cmp p ps) ≡ with_value p.name p.value (shown_pairs ps)
unfolding IsStrictlySortedBy
value-put p [] sorted = value-first p [] tt
value-put p (q ∷ qs) sorted = by (point_cmp p q) refl (value-put p qs sorted.1)
  where
    by : (o : Ordering) → point_cmp p q ≡ o → shown_pairs (put_in_order point_cmp p qs) ≡ with_value p.name p.value (shown_pairs qs)
        → shown_pairs (match_ordering o (p ∷ q ∷ qs) (p ∷ qs) (q ∷ put_in_order point_cmp p qs)) ≡ with_value p.name p.value (shown_pairs (q ∷ qs))
    by Less is rest = value-first p (q ∷ qs) (is, below_more point_cmp-total p q qs is sorted.0)
    by Equal is rest = value-same p q qs is (above_same p q qs is sorted.0)
    by Greater is rest = behind q.value refl
      where
        behind : (v : Option (List _)) → q.value ≡ v → shown_pairs (q ∷ put_in_order point_cmp p qs) ≡ with_value p.name p.value (shown_pairs (q ∷ qs))
        behind None none = cleared-first q (put_in_order point_cmp p qs) none ∙ rest ∙ ap (with_value p.name p.value) (sym (cleared-first q qs none))
        behind (Some bytes) some =
            set-first q (put_in_order point_cmp p qs) bytes some
            ∙ ap (λ (l : List Pair). record { name = q.name; value = bytes } ∷ l) rest
            ∙ sym (value-behind p (record { name = q.name; value = bytes }) (shown_pairs qs) is)
            ∙ ap (with_value p.name p.value) (sym (set-first q qs bytes some))

-- points that are cleared are no pairs
pairs-visible : (ps : List Point) → shown_pairs ps ≡ pairs_of ps
unfolding pairs_of
pairs-visible [] = refl
pairs-visible (p ∷ ps) = by p.value refl (pairs-visible ps)
  where
    by : (v : Option (List _)) → p.value ≡ v → shown_pairs ps ≡ pairs_of ps → shown_pairs (p ∷ ps) ≡ pairs_of (p ∷ ps)
    by None is rest = cleared-first p ps is ∙ rest ∙ rw is refl
    by (Some bytes) is rest = set-first p ps bytes is ∙ ap (λ (l : List Pair). record { name = p.name; value = bytes } ∷ l) rest ∙ rw is refl

-- the pairs after points, one after another
pairs-points : (batch points : List Point) → IsStrictlySortedBy point_cmp points → shown_pairs (in_order point_cmp (batch ++ points)) ≡ with_points batch (pairs_of points)
pairs-points [] points sorted = ap shown_pairs (in_order-same point_cmp points sorted) ∙ pairs-visible points
pairs-points (p ∷ batch) points sorted =
    value-put p (in_order point_cmp (batch ++ points)) (in_order-sorted point_cmp-total (batch ++ points)) ∙ ap (with_value p.name p.value) (pairs-points batch points sorted)

-- a batch of points makes of the pairs what its points do
pub pairs-with_batch : (batch points : List Point) → IsStrictlySortedBy point_cmp points → pairs_of (with_batch batch points) ≡ with_points batch (pairs_of points)
unfolding with_batch
pairs-with_batch batch points sorted = pairs-points batch points sorted
