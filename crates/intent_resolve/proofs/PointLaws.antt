-- The points of a resolution are what it makes of the stored pairs.
use Rattle.std.specs.Prelude.{◌≡◌, Bool, true, false, cond, not, List, [], ◌∷◌, Some, None, ⊤}
use Rattle.std.specs.List.Sorted.{IsStrictlySortedBy}
use Rattle.std.specs.declared.cmp.Ordering.{Ordering}
use Rattle.std.specs.declared.cmp.Ordering.TheVariants.{Less, Equal, Greater}
use Rattle.std.specs.Ordering.{is_eq}
use Rattle.std.specs.Cmp.{IsTotalOrder, on_total, tied_back}
use Rattle.std.proofs.Common.{refl, sym, ap, ◌∙◌, subst}
use Rattle.std.proofs.lemmas.Bool.{and_parts, eqb-true}
use Rattle.std.proofs.lemmas.List.Kept.{IsStrictlySortedBy-filter}
use Rattle.mvcc_key.specs.Order.{Timestamp, no_time, is_no_time, is_same_time, Key, Name, name_cmp, is_same_name, Pair, pair_cmp}
use Rattle.mvcc_key.specs.History.{Version, Intent, History, version_name}
use Rattle.mvcc_key.specs.Points.{Point}
use Rattle.mvcc_key.proofs.OrderLaws.{name_cmp-total, name_cmp-IsAntisymmetric}
use Rattle.mvcc_key.proofs.PlaceLaws.{put-without_tied, filter-put}
use Rattle.intent_meta.specs.PairChanges.{with_pair, without_name, without_record}
use Rattle.intent_meta.specs.PointPairs.{set_point, cleared_point, with_points}
use Rattle.intent_meta.specs.Record.{record_bytes}
use Rattle.intent_meta.specs.StoredPairs.{RecordOf, VersionOf, provisional, stored_pair, stored_pairs, stored_value, intent_record}
use Rattle.intent_meta.proofs.ReadBackLaws.{stored_pairs-rise}
use Rattle.write_rule.specs.Planned.{intent_points}
use Rattle.write_rule.proofs.PlanLaws.{intent_points-pairs}
use Rattle.intent_resolve.specs.Resolve.{Resolution, Gone, Stays, Becomes}
use Rattle.intent_resolve.specs.Resolved.{FitsIntent, pairs_after}
use Rattle.intent_resolve.specs.views.Left.{left_by, left_points, cleared_if, time_left, point_at}

pair_cmp-total : IsTotalOrder pair_cmp
pair_cmp-total = on_total (λ p. p.name) name_cmp-total

-- a name with a timestamp is none of a record
timed_apart : (a b : Key) (ts : Timestamp) → is_no_time ts ≡ false → name_cmp (record { key = a; ts = ts }) (record { key = b; ts = no_time }) ≡ Equal → ⊥
timed_apart a b ts timed tie =
    let same = name_cmp-IsAntisymmetric (record { key = a; ts = ts }) (record { key = b; ts = no_time }) tie in
    let none : is_no_time ts ≡ true = ap (λ (n : Name). is_no_time n.ts) same in
    cc

-- equal timestamps are one
same_time_is : (s t : Timestamp) → is_same_time s t ≡ true → s ≡ t
same_time_is s t h =
    let parts = and_parts _ _ h in
    let wall : s.wall ≡ t.wall = eqb-true _ _ parts.0 in
    let logical : s.logical ≡ t.logical = eqb-true _ _ parts.1 in
    λ i. record { wall = wall i; logical = logical i }

-- a pair may be put after the one of its name was taken out
put-without_name : (p : Pair) (ps : List Pair) → IsStrictlySortedBy pair_cmp ps → with_pair p (without_name p.name ps) ≡ with_pair p ps
put-without_name p ps sorted = put-without_tied pair_cmp-total p (λ q. not (is_same_name q.name p.name)) tied apart ps sorted
  where
    tied : (q : Pair) → pair_cmp p q ≡ Equal → not (is_same_name q.name p.name) ≡ false
    tied q tie = ap (λ o. not (is_eq o)) (tied_back name_cmp-total p.name q.name tie)

    by : (q : Pair) (o : Ordering) → name_cmp q.name p.name ≡ o → (pair_cmp p q ≡ Equal → ⊥) → not (is_eq o) ≡ true
    by q Less e other = refl
    by q Greater e other = refl
    by q Equal e other = absurd (other (tied_back name_cmp-total q.name p.name e))

    apart : (q : Pair) → (pair_cmp p q ≡ Equal → ⊥) → not (is_same_name q.name p.name) ≡ true
    apart q other = by q (name_cmp q.name p.name) refl other

-- a pair with a timestamp is put beside a record that is taken out
record-put : (key : Key) (p : Pair) (ps : List Pair) → is_no_time p.name.ts ≡ false → IsStrictlySortedBy pair_cmp ps
    → without_record key (with_pair p ps) ≡ with_pair p (without_record key ps)
record-put key p ps timed sorted = filter-put pair_cmp-total (λ q. not (is_same_name q.name (record { key = key; ts = no_time }))) (λ x y tie. ap (λ o. not (is_eq o)) (name_cmp-total.congr x.name y.name (record { key = key; ts = no_time }) tie)) p ps (apart (name_cmp p.name (record { key = key; ts = no_time })) refl) sorted
  where
    apart : (o : Ordering) → name_cmp p.name (record { key = key; ts = no_time }) ≡ o → not (is_eq o) ≡ true
    apart Less e = refl
    apart Greater e = refl
    apart Equal e = absurd (timed_apart p.name.key key p.name.ts timed e)

-- the pairs without those of a name are in order
without-sorted : (name : Name) (ps : List Pair) → IsStrictlySortedBy pair_cmp ps → IsStrictlySortedBy pair_cmp (without_name name ps)
without-sorted name ps sorted = IsStrictlySortedBy-filter pair_cmp (λ q. not (is_same_name q.name name)) ps sorted

module _ (i : Intent) (ps : List Pair) (sorted : IsStrictlySortedBy pair_cmp ps) where
  -- the points of an intent that becomes a version
  becomes_points : (v : Version) → v.key ≡ i.key → is_no_time v.ts ≡ false
      → with_points (left_points i.key i.ts (left_by (Becomes v))) ps ≡ pairs_after (Becomes v) i ps
  becomes_points v key timed = ap (without_record i.key) (by (is_same_time i.ts v.ts) refl) ∙ record-put i.key p (without_name old ps) timed (without-sorted old ps sorted) ∙ ap (λ q. with_pair q (without_record i.key (without_name old ps))) same
    where
      p : Pair
      p = record { name = record { key = i.key; ts = v.ts }; value = stored_value v }

      old : Name
      old = version_name (provisional i)

      same : p ≡ stored_pair (VersionOf v)
      same = λ j. record { name = record { key = sym key j; ts = v.ts }; value = stored_value v }

      by : (b : Bool) → is_same_time i.ts v.ts ≡ b
          → with_pair p (with_points (cleared_if i.key (cond b None (Some i.ts))) ps) ≡ with_pair p (without_name old ps)
      by false apart = refl
      by true is =
          let ts : i.ts ≡ v.ts = same_time_is i.ts v.ts is in
          let name : p.name ≡ old = λ j. record { key = i.key; ts = sym ts j } in
          sym (subst (λ m. with_pair p (without_name m ps) ≡ with_pair p ps) name (put-without_name p ps sorted))

  -- those of an intent that stays
  stays_points : (n : Intent) → n.key ≡ i.key → with_points (left_points i.key i.ts (left_by (Stays n))) ps ≡ pairs_after (Stays n) i ps
  stays_points n key = ap (λ points. with_points points ps) same ∙ intent_points-pairs (Some i) n ps sorted (sym key)
    where
      by : (b : Bool) → cleared_if i.key (cond b None (Some i.ts)) ≡ cond b [] (cleared_point (version_name (provisional i)) ∷ [])
      by true = refl
      by false = refl

      same : left_points i.key i.ts (left_by (Stays n)) ≡ intent_points (Some i) n
      same =
          (λ j. point_at (sym key j) no_time (Some (record_bytes (intent_record n))) ∷ point_at (sym key j) n.ts (Some (stored_value (provisional n))) ∷ cleared_if i.key (time_left i.ts n.ts))
          ∙ ap (λ (l : List Point). set_point (stored_pair (RecordOf n)) ∷ set_point (stored_pair (VersionOf (provisional n))) ∷ l) (by (is_same_time i.ts n.ts))

-- a version that is left has a timestamp
abbrev pub IsTimedLeft : Resolution → Type 0
IsTimedLeft Gone = ⊤
IsTimedLeft (Stays n) = ⊤
IsTimedLeft (Becomes v) = is_no_time v.ts ≡ false

-- the points of a resolution make the stored pairs those after it
pub left_points-pairs : (h : History) (i : Intent) (r : Resolution) → IsTimedLeft r → FitsIntent i r
    → with_points (left_points i.key i.ts (left_by r)) (stored_pairs h) ≡ pairs_after r i (stored_pairs h)
left_points-pairs h i Gone timed fits = refl
left_points-pairs h i (Stays n) timed fits = stays_points i (stored_pairs h) (stored_pairs-rise h) n fits.key
left_points-pairs h i (Becomes v) timed fits = becomes_points i (stored_pairs h) (stored_pairs-rise h) v fits.key timed
