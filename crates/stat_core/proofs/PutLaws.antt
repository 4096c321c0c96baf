-- What a put changes: a version on top of a key's others, and a key's first version.
use Rattle.std.specs.Prelude.{◌≡◌, ℕ, ◌+◌, pos, ◌-ℤ◌, Bool, true, false, cond, ◌==◌, ◌&&◌, List, [], ◌∷◌, filter}
use Rattle.std.specs.declared.cmp.Ordering.TheVariants.{Less, Equal}
use Rattle.std.specs.Ordering.{is_lt, ordering_then, nat_cmp}
use Rattle.std.specs.List.Sorted.{IsStrictlySortedBy}
use Rattle.std.proofs.Common.{refl, sym, ◌∙◌, ap, arith}
use Rattle.std.proofs.lemmas.Bool.Decides.{nat_tests}
use Rattle.std.proofs.lemmas.Cmp.{tied_itself}
use Rattle.std.proofs.lemmas.Int.{ints}
use Rattle.mvcc_key.specs.Lists.{put_in_order}
use Rattle.mvcc_key.specs.Order.{Timestamp, is_no_time, is_before, key_cmp, is_same_key, Pair, pair_cmp}
use Rattle.mvcc_key.specs.Fragments.{Fragment, stack_at}
use Rattle.mvcc_key.specs.Field.{Field}
use Rattle.mvcc_key.proofs.FragmentLaws.{same_key}
use Rattle.mvcc_key.proofs.OrderLaws.{key_cmp-total}
use Rattle.mvcc_key.proofs.StackLaws.{same_key_is}
use Rattle.mvcc_key.proofs.TimeLaws.{before_less}
use Rattle.stat_core.specs.ComputeStats.{Sums, is_record, key_shape, key_sums, pairs_of, compute_stats, field, difference}
use Rattle.stat_core.specs.Laws.{HasNoRecord}
use Rattle.stat_core.proofs.KeyChangeLaws.{others_of-put, field-⊕}
use Rattle.stat_core.proofs.NewVersionLaws.{difference-front_of_key, compute_stats-first_pairs}
use Rattle.stat_core.proofs.SpanChangeLaws.{pairs_of-put}

-- the first that passes a test passes it
filter-head : {X : Type 0} (test : X → Bool) (xs : List X) (y : X) (ys : List X) → filter test xs ≡ y ∷ ys → test y ≡ true
filter-head test [] y ys e = cc
filter-head test (x ∷ xs) y ys e = by (test x) refl e (filter-head test xs y ys)
  where
    by : (t : Bool) → test x ≡ t → cond t (x ∷ filter test xs) (filter test xs) ≡ y ∷ ys → (filter test xs ≡ y ∷ ys → test y ≡ true) → test y ≡ true
    by true passes e rest = let same : x ≡ y = cc in ap test (sym same) ∙ passes
    by false fails e rest = rest e

-- what another timestamp is before is one
later_is_one : (s t : Timestamp) → is_before s t ≡ true → is_no_time t ≡ false
later_is_one s t newer = by s.wall s.logical t.wall t.logical newer
  where
    by : (a b c d : ℕ) → is_lt (ordering_then (nat_cmp a c) (nat_cmp b d)) ≡ true → ((c == 0) && (d == 0)) ≡ false
    by a b c d h = grind (arith, nat_tests)

-- a version of the same key with a newer timestamp stands before
pub newer_first : (p old : Pair) → old.name.key ≡ p.name.key → is_record old ≡ false → is_before old.name.ts p.name.ts ≡ true → pair_cmp p old ≡ Less
newer_first p old same version newer =
    let own : is_no_time p.name.ts ≡ false = later_is_one old.name.ts p.name.ts newer in
    let keys : key_cmp p.name.key old.name.key ≡ Equal = ap (key_cmp p.name.key) same ∙ tied_itself key_cmp-total p.name.key in
    rw (keys, own, version) (before_less old.name.ts p.name.ts newer)

-- the key's pairs after the put
on_top : (p old : Pair) (pairs rest : List Pair) → IsStrictlySortedBy pair_cmp pairs → pairs_of p.name.key pairs ≡ old ∷ rest
    → is_record old ≡ false → is_before old.name.ts p.name.ts ≡ true → pairs_of p.name.key (put_in_order pair_cmp p pairs) ≡ p ∷ old ∷ rest
on_top p old pairs rest sorted own version newer =
    let same : old.name.key ≡ p.name.key = same_key_is old.name.key p.name.key (filter-head (λ q. is_same_key q.name.key p.name.key) pairs old rest own) in
    pairs_of-put p pairs p.name.key (same_key p.name.key) sorted ∙ ap (put_in_order pair_cmp p) own
    ∙ rw (newer_first p old same version newer) refl

pub difference-on_top : (now : ℕ) (pairs : List Pair) (fs : List Fragment) (p old : Pair) (rest : List Pair) (f : Field)
    → IsStrictlySortedBy pair_cmp pairs → pairs_of p.name.key pairs ≡ old ∷ rest → HasNoRecord (old ∷ rest)
    → is_before old.name.ts p.name.ts ≡ true
    → difference (compute_stats now pairs fs) (compute_stats now (put_in_order pair_cmp p pairs) fs) f
    ≡ difference (key_sums now (key_shape p.name.key (old ∷ []) (stack_at fs p.name.key)))
    (key_sums now (key_shape p.name.key (p ∷ old ∷ []) (stack_at fs p.name.key))) f
difference-on_top now pairs fs p old rest f sorted own none newer =
    difference-front_of_key now pairs (put_in_order pair_cmp p pairs) fs p.name.key [] (p ∷ []) old rest f
    (sym (others_of-put p pairs p.name.key (same_key p.name.key))) own
    (on_top p old pairs rest sorted own none.0 newer)
    none

pub difference-first : (now : ℕ) (pairs : List Pair) (fs : List Fragment) (p : Pair) (f : Field)
    → IsStrictlySortedBy pair_cmp pairs → pairs_of p.name.key pairs ≡ []
    → difference (compute_stats now pairs fs) (compute_stats now (put_in_order pair_cmp p pairs) fs) f
    ≡ pos (field f (key_sums now (key_shape p.name.key (p ∷ []) (stack_at fs p.name.key))))
difference-first now pairs fs p f sorted absent =
    let gained : Sums = key_sums now (key_shape p.name.key (p ∷ []) (stack_at fs p.name.key)) in
    by (field f (compute_stats now pairs fs)) (field f (compute_stats now (put_in_order pair_cmp p pairs) fs)) (field f gained)
    (ap (field f)
    (compute_stats-first_pairs now pairs (put_in_order pair_cmp p pairs) fs p.name.key p []
    (sym (others_of-put p pairs p.name.key (same_key p.name.key))) absent
    (pairs_of-put p pairs p.name.key (same_key p.name.key) sorted ∙ ap (put_in_order pair_cmp p) absent))
    ∙ field-⊕ f (compute_stats now pairs fs) gained)
  where
    by : (b a g : ℕ) → a ≡ b + g → pos a -ℤ pos b ≡ pos g
    by b a g e = omega (arith, ints)
