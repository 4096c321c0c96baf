-- What the bounds and the timestamps of tombstones have, those of their fragments have, and the other way round.
use Rattle.std.specs.Prelude.{◌≡◌, Bool, true, false, cond, List, [], ◌∷◌, map, filter, flat_map, ◌&&◌}
use Rattle.std.specs.List.{AllByRecursion}
use Rattle.mvcc_key.specs.Order.{Timestamp, Key, key_cmp, is_below, is_same_key, lower_key, higher_key}
use Rattle.mvcc_key.specs.History.{RangeTombstone}
use Rattle.mvcc_key.specs.Items.{covers}
use Rattle.mvcc_key.specs.Fragments.{Fragment, bounds, gaps, is_covered, is_same_stack, join_to, joined, fragments, part_within, cut_to, tombstones_of}
use Rattle.mvcc_key.proofs.EachLaws.{All-in_order, All-append, All-map, All-weaker, All-filter}
use Rattle.mvcc_key.proofs.ItemLaws.{times_over-whole}

-- one of two keys has what both have
pub chosen-has : (P : Key → Type 0) (b : Bool) (x y : Key) → P x → P y → P (cond b x y)
chosen-has P true x y p q = p
chosen-has P false x y p q = q

module _ (Bound : Key → Type 0) (Time : Timestamp → Type 0) where
  -- a tombstone whose bounds and timestamp have it
  pub record TombstoneHas (t : RangeTombstone) : Type 0 where
    pub start : Bound t.start
    pub end : Bound t.end
    pub ts : Time t.ts

  -- a fragment whose bounds and timestamps have it
  pub record FragmentHas (f : Fragment) : Type 0 where
    pub start : Bound f.start
    pub end : Bound f.end
    pub times : AllByRecursion Time f.stack

  -- the gaps between bounds
  gaps_have : (ts : List RangeTombstone) (cuts : List Key) → AllByRecursion TombstoneHas ts → AllByRecursion Bound cuts → AllByRecursion FragmentHas (gaps ts cuts)
  gaps_have ts [] a c = tt
  gaps_have ts (x ∷ []) a c = tt
  gaps_have ts (x ∷ y ∷ cuts) a c = (
    record {
      start = c.0;
      end = c.1.0;
      times = times_over-whole Time ts x (All-weaker TombstoneHas (λ t. covers x t ≡ true → Time t.ts) ts (λ t h covered. h.ts) a);
    },
    gaps_have ts (y ∷ cuts) a c.1,
  )

  -- a fragment joined to others
  join_has : (f : Fragment) (fs : List Fragment) → FragmentHas f → AllByRecursion FragmentHas fs → AllByRecursion FragmentHas (join_to f fs)
  join_has f [] h a = (h, tt)
  join_has f (g ∷ gs) h a = by (is_same_key f.end g.start && is_same_stack f.stack g.stack)
    where
      by : (t : Bool) → AllByRecursion FragmentHas (cond t (record { start = f.start; end = g.end; stack = f.stack } ∷ gs) (f ∷ g ∷ gs))
      by true = (record { start = h.start; end = a.0.end; times = h.times }, a.1)
      by false = (h, a)

  -- fragments joined from the last on
  joined_have : (fs : List Fragment) → AllByRecursion FragmentHas fs → AllByRecursion FragmentHas (joined fs)
  joined_have [] a = tt
  joined_have (f ∷ fs) a = join_has f (joined fs) a.0 (joined_have fs a.1)

  -- the bounds of tombstones
  bounds_have : (ts : List RangeTombstone) → AllByRecursion TombstoneHas ts → AllByRecursion Bound (flat_map (λ t. t.start ∷ t.end ∷ []) ts)
  bounds_have [] a = tt
  bounds_have (t ∷ ts) a =
      All-append Bound (t.start ∷ t.end ∷ []) (flat_map (λ u. u.start ∷ u.end ∷ []) ts) (a.0.start, (a.0.end, tt)) (bounds_have ts a.1)

  -- the fragments of tombstones
  pub fragments-have : (ts : List RangeTombstone) → AllByRecursion TombstoneHas ts → AllByRecursion FragmentHas (fragments ts)
  unfolding fragments
  fragments-have ts a =
      joined_have (filter is_covered (gaps ts (bounds ts)))
      (All-filter FragmentHas is_covered (gaps ts (bounds ts))
      (gaps_have ts (bounds ts) a
      (All-in_order key_cmp Bound (flat_map (λ t. t.start ∷ t.end ∷ []) ts) (bounds_have ts a))))

  -- the part of a fragment within a span whose bounds have it
  part_has : (start end : Key) (f : Fragment) → Bound start → Bound end → FragmentHas f → AllByRecursion FragmentHas (part_within start end f)
  part_has start end f p q h = by (is_below (higher_key start f.start) (lower_key end f.end))
    where
      by : (t : Bool) → AllByRecursion FragmentHas (cond t (record { start = higher_key start f.start; end = lower_key end f.end; stack = f.stack } ∷ []) [])
      by true = (
        record {
          start = chosen-has Bound (is_below start f.start) f.start start h.start p;
          end = chosen-has Bound (is_below f.end end) f.end end h.end q;
          times = h.times;
        },
        tt,
      )
      by false = tt

  -- fragments cut to such a span
  pub cut_to-has : (start end : Key) (fs : List Fragment) → Bound start → Bound end → AllByRecursion FragmentHas fs → AllByRecursion FragmentHas (cut_to start end fs)
  cut_to-has start end [] p q a = tt
  cut_to-has start end (f ∷ fs) p q a =
      All-append FragmentHas (part_within start end f) (cut_to start end fs) (part_has start end f p q a.0) (cut_to-has start end fs p q a.1)

  -- the tombstones that fragments stand for
  pub tombstones_of-have : (fs : List Fragment) → AllByRecursion FragmentHas fs → AllByRecursion TombstoneHas (tombstones_of fs)
  tombstones_of-have [] a = tt
  tombstones_of-have (f ∷ fs) a =
      All-append TombstoneHas (map (λ t. record { start = f.start; end = f.end; ts = t }) f.stack) (tombstones_of fs)
      (All-map TombstoneHas (λ t. record { start = f.start; end = f.end; ts = t }) f.stack
      (All-weaker Time (λ t. TombstoneHas (record { start = f.start; end = f.end; ts = t })) f.stack
      (λ t h. record { start = a.0.start; end = a.0.end; ts = h }) a.0.times))
      (tombstones_of-have fs a.1)
