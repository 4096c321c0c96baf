-- A walk over the pairs of a span meets each of its keys once, at the first of its pairs.
use Rattle.std.specs.Prelude.{◌≡◌, ◌+ℤ◌, Bool, true, false, cond, List, [], ◌∷◌, ◌++◌, length, map, Some, None, option_map}
use Rattle.std.specs.declared.cmp.Ordering.{Ordering}
use Rattle.std.specs.declared.cmp.Ordering.TheVariants.{Less, Equal, Greater}
use Rattle.std.specs.Ordering.{match_ordering, is_eq}
use Rattle.std.specs.List.{AllByRecursion}
use Rattle.std.specs.List.Sorted.{IsStrictlySortedBy}
use Rattle.std.proofs.Common.{refl, sym, ap, subst, ◌∙◌}
use Rattle.std.proofs.lemmas.List.Kept.{IsStrictlySortedBy-filter}
use Rattle.std.proofs.lemmas.Map.Text.{is_eq-slice_cmp}
use Rattle.mvcc_key.specs.Lists.{put_in_order, first}
use Rattle.mvcc_key.specs.Order.{Key, key_cmp, is_same_key, is_within, Pair, pair_cmp}
use Rattle.mvcc_key.specs.Fragments.{joined, stack_at}
use Rattle.mvcc_key.specs.Pieces.{added_pieces}
use Rattle.mvcc_key.proofs.FragmentLaws.{same_key}
use Rattle.mvcc_key.proofs.OrderLaws.{key_cmp-total, key_cmp-IsAntisymmetric}
use Rattle.mvcc_key.proofs.EachLaws.{All-unmap, All-weaker, All-both}
use Rattle.mvcc_key.proofs.SameKeyLaws.{differs_back, below_differs}
use Rattle.mvcc_key.proofs.StackLaws.{same_key_is}
use Rattle.intent_meta.specs.StoredPairs.{stored_pairs}
use Rattle.intent_meta.proofs.ReadBackLaws.{stored_pairs-rise}
use Rattle.stat_core.specs.DeadSince.{shape_of}
use Rattle.stat_core.specs.ComputeStats.{pairs_of, keys_of}
use Rattle.stat_core.specs.Laws.{pairs_in}
use Rattle.stat_core.proofs.SpanChangeLaws.{pairs_of-pairs_in}
use Rattle.stat_delta.specs.Laws.{newest_shape}
use Rattle.stat_delta.specs.SpanChanges.{fragments_change}
use Rattle.stat_delta.specs.Dying.{Dying, ◌⊎+◌, dying_key, dying_among, change_by_dying}
use Rattle.stat_delta.specs.SpanWalk.{first_pairs, last_met, dying_pair, WalkInTwo, WalkSkips, WalkMeetsKeys, WalkMeetsFirst, TombstoneComesOverPairs}
use Rattle.stat_delta.proofs.SpanKeysLaws.{keys_of-within, no_intent-within, newest_shape-first}
use Rattle.stat_delta.proofs.DyingLaws.{history_change-dying}

-- ---- walks

-- a walk in two goes
pub first_pairs-append : WalkInTwo
first_pairs-append last [] qs = refl
first_pairs-append None (p ∷ ps) qs = ap (λ rs. p ∷ rs) (first_pairs-append (Some p.name.key) ps qs)
first_pairs-append (Some last) (p ∷ ps) qs = by (is_same_key p.name.key last) refl (first_pairs-append (Some p.name.key) ps qs)
  where
    by : (t : Bool) → is_same_key p.name.key last ≡ t → first_pairs (Some p.name.key) (ps ++ qs) ≡ first_pairs (Some p.name.key) ps ++ first_pairs (last_met (Some p.name.key) ps) qs
        → cond t (first_pairs (Some last) (ps ++ qs)) (p ∷ first_pairs (Some p.name.key) (ps ++ qs))
        ≡ cond t (first_pairs (Some last) ps) (p ∷ first_pairs (Some p.name.key) ps) ++ first_pairs (last_met (Some p.name.key) ps) qs
    by true e rest =
        subst (λ key. first_pairs (Some key) (ps ++ qs) ≡ first_pairs (Some key) ps ++ first_pairs (last_met (Some p.name.key) ps) qs) (same_key_is p.name.key last e) rest
    by false e rest = ap (λ rs. p ∷ rs) rest

-- pairs of the key that was met last may be skipped
pub first_pairs-skip : WalkSkips
first_pairs-skip key [] rest same = refl
first_pairs-skip key (p ∷ own) rest same =
    ap (λ t. cond t (first_pairs (Some key) (own ++ rest)) (p ∷ first_pairs (Some p.name.key) (own ++ rest))) same.0 ∙ first_pairs-skip key own rest same.1

-- ---- pairs in order

-- a pair that stands before another has a lower key, or the same
lower_or_same : (p q : Pair) → pair_cmp p q ≡ Less → (key_cmp p.name.key q.name.key ≡ Greater) → Less ≡ Greater
lower_or_same p q before greater = let clash : Greater ≡ Less = rw greater at before in cc

-- keys that tie are the same key
same_from_tie : (a b : Key) → key_cmp a b ≡ Equal → is_same_key b a ≡ true
same_from_tie a b tie = subst (λ k. is_same_key k a ≡ true) (key_cmp-IsAntisymmetric a b tie) (same_key a)

-- a walk over pairs in order meets each of their keys once, in order
pub keys_of-walk : WalkMeetsKeys
unfolding IsStrictlySortedBy
keys_of-walk [] sorted = refl
keys_of-walk (p ∷ []) sorted = refl
keys_of-walk (p ∷ q ∷ qs) sorted =
    ap (put_in_order key_cmp p.name.key) (keys_of-walk (q ∷ qs) sorted.1) ∙ by (key_cmp p.name.key q.name.key) refl (sorted.0).0
  where
    by : (o : Ordering) → key_cmp p.name.key q.name.key ≡ o → pair_cmp p q ≡ Less
        → match_ordering o (p.name.key ∷ map (λ r. r.name.key) (first_pairs None (q ∷ qs))) (p.name.key ∷ map (λ r. r.name.key) (first_pairs (Some q.name.key) qs))
        (q.name.key ∷ put_in_order key_cmp p.name.key (map (λ r. r.name.key) (first_pairs (Some q.name.key) qs)))
        ≡ p.name.key ∷ map (λ r. r.name.key) (first_pairs (Some p.name.key) (q ∷ qs))
    by Less e before =
        ap (λ t. p.name.key ∷ map (λ r. r.name.key) (cond t (first_pairs (Some p.name.key) qs) (q ∷ first_pairs (Some q.name.key) qs))) (sym (differs_back p.name.key q.name.key (below_differs p.name.key q.name.key e)))
    by Equal e before =
        (λ i. p.name.key ∷ map (λ r. r.name.key) (first_pairs (Some (sym (key_cmp-IsAntisymmetric p.name.key q.name.key e) i)) qs))
        ∙ ap (λ t. p.name.key ∷ map (λ r. r.name.key) (cond t (first_pairs (Some p.name.key) qs) (q ∷ first_pairs (Some q.name.key) qs))) (sym (same_from_tie p.name.key q.name.key e))
    by Greater e before = let clash : Less ≡ Greater = lower_or_same p q before e in cc

-- the keys that a walk meets behind a pair are above its key
met_above : (p : Pair) (ps : List Pair) → AllByRecursion (λ q. pair_cmp p q ≡ Less) ps → IsStrictlySortedBy pair_cmp ps
    → AllByRecursion (λ r. key_cmp p.name.key r.name.key ≡ Less) (first_pairs (Some p.name.key) ps)
unfolding IsStrictlySortedBy
met_above p [] before sorted = tt
met_above p (q ∷ qs) before sorted = by (key_cmp p.name.key q.name.key) refl before.0 (met_above p qs before.1 sorted.1) (met_above q qs sorted.0 sorted.1)
  where
    by : (o : Ordering) → key_cmp p.name.key q.name.key ≡ o → pair_cmp p q ≡ Less
        → AllByRecursion (λ r. key_cmp p.name.key r.name.key ≡ Less) (first_pairs (Some p.name.key) qs)
        → AllByRecursion (λ r. key_cmp q.name.key r.name.key ≡ Less) (first_pairs (Some q.name.key) qs)
        → AllByRecursion (λ r. key_cmp p.name.key r.name.key ≡ Less) (first_pairs (Some p.name.key) (q ∷ qs))
    by Less e first others behind =
        subst (λ t. AllByRecursion (λ r. key_cmp p.name.key r.name.key ≡ Less) (cond t (first_pairs (Some p.name.key) qs) (q ∷ first_pairs (Some q.name.key) qs)))
        (sym (differs_back p.name.key q.name.key (below_differs p.name.key q.name.key e))) (
          e,
          All-weaker (λ r. key_cmp q.name.key r.name.key ≡ Less) (λ r. key_cmp p.name.key r.name.key ≡ Less) (first_pairs (Some q.name.key) qs)
              (λ r below. key_cmp-total.trans p.name.key q.name.key r.name.key e below) behind,
        )
    by Equal e first others behind =
        subst (λ t. AllByRecursion (λ r. key_cmp p.name.key r.name.key ≡ Less) (cond t (first_pairs (Some p.name.key) qs) (q ∷ first_pairs (Some q.name.key) qs)))
        (sym (same_from_tie p.name.key q.name.key e)) others
    by Greater e first others behind = let clash : Less ≡ Greater = lower_or_same p q first e in cc

-- what holds of all that a walk meets from the beginning holds of all that it meets behind a key
met_behind : (P : Pair → Type 0) (key : Key) (ps : List Pair) → AllByRecursion P (first_pairs None ps) → AllByRecursion P (first_pairs (Some key) ps)
met_behind P key [] all = tt
met_behind P key (q ∷ qs) all = by (is_same_key q.name.key key) refl
  where
    by : (t : Bool) → is_same_key q.name.key key ≡ t → AllByRecursion P (cond t (first_pairs (Some key) qs) (q ∷ first_pairs (Some q.name.key) qs))
    by true e = subst (λ k. AllByRecursion P (first_pairs (Some k) qs)) (same_key_is q.name.key key e) all.1
    by false e = all

-- a walk meets each key at the first of its pairs
pub first_pairs-first : WalkMeetsFirst
unfolding IsStrictlySortedBy
first_pairs-first [] sorted = tt
first_pairs-first (p ∷ ps) sorted = (
  ap (λ t. first (cond t (p ∷ pairs_of p.name.key ps) (pairs_of p.name.key ps))) (same_key p.name.key),
  both (first_pairs (Some p.name.key) ps) (met_above p ps sorted.0 sorted.1)
      (met_behind (λ r. first (pairs_of r.name.key ps) ≡ Some r) p.name.key ps (first_pairs-first ps sorted.1)),
)
  where
    both : (rs : List Pair) → AllByRecursion (λ r. key_cmp p.name.key r.name.key ≡ Less) rs → AllByRecursion (λ r. first (pairs_of r.name.key ps) ≡ Some r) rs
        → AllByRecursion (λ r. first (pairs_of r.name.key (p ∷ ps)) ≡ Some r) rs
    both [] above firsts = tt
    both (r ∷ rs) above firsts =
        (ap (λ t. first (cond t (p ∷ pairs_of r.name.key ps) (pairs_of r.name.key ps))) (other r above.0) ∙ firsts.0, both rs above.1 firsts.1)
      where
        other : (r : Pair) → key_cmp p.name.key r.name.key ≡ Less → is_same_key p.name.key r.name.key ≡ false
        other r below = sym (is_eq-slice_cmp p.name.key r.name.key) ∙ ap is_eq below

-- ---- keys that die

-- keys that die, told by pairs
dying_among-pairs : (of_key : Key → Dying) (of_pair : Pair → Dying) (ps : List Pair) → AllByRecursion (λ p. of_key p.name.key ≡ of_pair p) ps
    → dying_among of_key (map (λ p. p.name.key) ps) ≡ dying_among of_pair ps
dying_among-pairs of_key of_pair [] same = refl
dying_among-pairs of_key of_pair (p ∷ ps) same = λ i. same.0 i ⊎+ dying_among-pairs of_key of_pair ps same.1 i

-- a tombstone comes above everything in its span, told by the first pair of each key
pub history_change-walk : TombstoneComesOverPairs
history_change-walk now h t left mid right f valid span none above is ends starts =
    let own = keys_of-within t.start t.end (stored_pairs h) in
    history_change-dying now h t (keys_of pairs) left mid right f valid span none above own.0 own.1 is ends starts
    ∙ ap (λ d. change_by_dying now t.ts d f +ℤ fragments_change now mid (joined (added_pieces t mid)) f)
    (ap (dying_among (λ key. dying_key (length key) (stack_at mid key) (newest_shape key h))) (keys_of-walk pairs rising)
    ∙ dying_among-pairs (λ key. dying_key (length key) (stack_at mid key) (newest_shape key h)) (dying_pair mid) (first_pairs None pairs)
    (All-weaker (λ p. (is_within t.start t.end p.name.key ≡ true) × (first (pairs_of p.name.key pairs) ≡ Some p))
    (λ p. dying_key (length p.name.key) (stack_at mid p.name.key) (newest_shape p.name.key h) ≡ dying_pair mid p) (first_pairs None pairs)
    (λ p both. ap (dying_key (length p.name.key) (stack_at mid p.name.key)) (newest p both.0 both.1))
    (All-both (λ p. is_within t.start t.end p.name.key ≡ true) (λ p. first (pairs_of p.name.key pairs) ≡ Some p)
    (λ p. (is_within t.start t.end p.name.key ≡ true) × (first (pairs_of p.name.key pairs) ≡ Some p)) (first_pairs None pairs) (λ p within first. (within, first))
    (All-unmap (λ key. is_within t.start t.end key ≡ true) (λ p. p.name.key) (first_pairs None pairs)
    (subst (AllByRecursion (λ key. is_within t.start t.end key ≡ true)) (keys_of-walk pairs rising) (own.0).within))
    (first_pairs-first pairs rising))))
  where
    pairs : List Pair
    pairs = pairs_in (is_within t.start t.end) (stored_pairs h)

    rising : IsStrictlySortedBy pair_cmp (pairs_in (is_within t.start t.end) (stored_pairs h))
    rising = IsStrictlySortedBy-filter pair_cmp (λ p. is_within t.start t.end p.name.key) (stored_pairs h) (stored_pairs-rise h)

    newest : (p : Pair) → is_within t.start t.end p.name.key ≡ true → first (pairs_of p.name.key (pairs_in (is_within t.start t.end) (stored_pairs h))) ≡ Some p
        → newest_shape p.name.key h ≡ Some (shape_of p)
    newest p within is =
        newest_shape-first h p.name.key valid (no_intent-within h t.start t.end p.name.key none within)
        ∙ ap (λ ps. option_map shape_of (first ps)) (sym (pairs_of-pairs_in (is_within t.start t.end) p.name.key (stored_pairs h) within))
        ∙ ap (option_map shape_of) is
