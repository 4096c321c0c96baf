-- Flushed and compacted parts.
use Rattle.std.proofs.Common.{◌≡◌, ℕ, zero, suc, ◌+◌, ◌-◌, ◌<◌, ◌≤◌, Bool, true, false, cond, List, [], ◌∷◌, ◌++◌, length, take, drop, set, map, refl, sym, ap, ◌∙◌}
use Rattle.std.specs.Prelude.{◌&&◌, is_some, filter, flat_map, nat_lt, not, All}
use Rattle.std.specs.List.{AllByRecursion}
use Rattle.std.specs.declared.cmp.Ordering.{Ordering}
use Rattle.std.specs.declared.cmp.Ordering.TheVariants.{Less, Equal, Greater}
use Rattle.std.specs.Ordering.{match_ordering, on}
use Rattle.std.proofs.lemmas.List.{map-append, take-append-drop, take_more_set, append-nil}
use Rattle.std.proofs.lemmas.Bool.{lt-ltb, le-ltb}
use Rattle.std.proofs.lemmas.List.Concat.{flat_map-append}
use Rattle.std.proofs.lemmas.List.Elements.{All-filter, All-from_recursion, recursion_from_All}
use Rattle.mvcc_key.specs.Lists.{put_in_order, in_order, is_empty}
use Rattle.mvcc_key.specs.Points.{Point}
use Rattle.mvcc_key.specs.Batches.{IsStoredPoint}
use Rattle.mvcc_key.specs.Fragments.{Fragment}
use Rattle.mvcc_key.specs.RangeOperations.{RangeOp}
use Rattle.range_key.specs.RangeOps.{fragments_after, operations_of}
use Rattle.mem_table.specs.Table.{newest_points}
use Rattle.merge_cursor.specs.Merged.{joined, merged}
use Rattle.merge_cursor.specs.Visible.{visible}
use Rattle.merge_cursor.proofs.MergedLaws.{each-merged}
use Rattle.run_block.specs.RunFormat.{Run}
use Rattle.lsm_store.specs.Parts as parts
use Rattle.lsm_store.specs.Parts.{NameState, Part, state_cmp, united, unless_empty, closing_of, flushed, compacted}
use Rattle.lsm_store.specs.FileParts.{behind_table, with_run}
use Rattle.lsm_store.specs.Shown.{empty_run, points_in, visible_points, shown, with_batch, fragments_in, state_of_point, part_of, parts_of}
use Rattle.lsm_store.specs.views.Closing.{flushed_runs}
use Rattle.lsm_store.proofs.RangeLaws.{in-tail, in-canonical, closing-again, none-closing}
use Rattle.lsm_store.proofs.SeenLaws.{seen-older}

-- ---- what is shown

-- lists behind others
joined-append : (newer older : List (List Point)) → joined (newer ++ older) ≡ joined newer ++ joined older
joined-append newer older = flat_map-append (λ (ps : List Point). ps) newer older

-- the points of parts behind others
joined-parts : (newer older : List Run) → joined (points_in (newer ++ older)) ≡ joined (points_in newer) ++ joined (points_in older)
joined-parts newer older = ap joined (map-append (λ (r : Run). r.points) newer older) ∙ joined-append (points_in newer) (points_in older)

-- a run where it has an entry
abbrev pub unless_nothing : Run → List Run
unless_nothing r = cond (is_empty r.points && is_empty r.ranges) [] (r ∷ [])

-- it holds the points
joined-unless : (r : Run) → joined (points_in (unless_nothing r)) ≡ r.points
joined-unless r = by r.points r.ranges
  where
    by : (ps : List Point) (ops : List RangeOp) → joined (points_in (unless_nothing (record { points = ps; ranges = ops }))) ≡ ps
    by [] [] = refl
    by [] (op ∷ ops) = refl
    by (p ∷ ps) ops = append-nil (p ∷ ps)

-- and gives the fragments
fragments-unless : (r : Run) → fragments_in (unless_nothing r) ≡ fragments_after [] r.ranges
fragments-unless r = by r.points r.ranges
  where
    by : (ps : List Point) (ops : List RangeOp) → fragments_in (unless_nothing (record { points = ps; ranges = ops })) ≡ fragments_after [] ops
    by [] [] = refl
    by [] (op ∷ ops) = refl
    by (p ∷ ps) ops = refl

-- the run that older parts are united into
abbrev pub united_run : List Run → Run
united_run runs = record { points = visible (merged (points_in runs)); ranges = operations_of (fragments_in runs) }

-- older parts united show the same
pub shown-united : (newer older : List Run) → shown (newer ++ unless_nothing (united_run older)) ≡ shown (newer ++ older)
unfolding visible_points merged
shown-united newer older =
    ap (λ (ps : List Point). visible (newest_points ps))
    (joined-parts newer (unless_nothing (united_run older)) ∙ ap (λ (ps : List Point). joined (points_in newer) ++ ps) (joined-unless (united_run older)))
    ∙ seen-older (joined (points_in newer)) (joined (points_in older))
    ∙ ap (λ (ps : List Point). visible (newest_points ps)) (sym (joined-parts newer older))

-- and give the same fragments
pub fragments-united : (older : List Run) → fragments_in (unless_nothing (united_run older)) ≡ fragments_in older
fragments-united older = fragments-unless (united_run older) ∙ closing-again (fragments_in older) (in-canonical older)

-- the runs from a place on united into one, or into none
abbrev pub with_united : ℕ → List Run → List Run
with_united first runs = take first runs ++ unless_nothing (united_run (drop first runs))

-- they show the same
pub shown-with_united : (first : ℕ) (table : Run) (runs : List Run) → shown (table ∷ with_united first runs) ≡ shown (table ∷ runs)
shown-with_united first table runs =
    shown-united (table ∷ take first runs) (drop first runs) ∙ ap (λ (rs : List Run). shown (table ∷ rs)) (take-append-drop first runs)

-- and give the same fragments
pub fragments-with_united : (first : ℕ) (runs : List Run) → fragments_in (with_united first runs) ≡ fragments_in runs
fragments-with_united first runs =
    in-tail (take first runs) (unless_nothing (united_run (drop first runs))) (drop first runs) (fragments-united (drop first runs))
    ∙ ap fragments_in (take-append-drop first runs)

-- ---- what the parts say of their names

-- elements seen in order are those in order seen
module _ {X Y : Type 0} (see : X → Y) (cmp : Y → Y → Ordering) where
  map-put : (x : X) (xs : List X) → map see (put_in_order (on see cmp) x xs) ≡ put_in_order cmp (see x) (map see xs)
  map-put x [] = refl
  map-put x (y ∷ ys) = by (cmp (see x) (see y)) (map-put x ys)
    where
      by : (o : Ordering) → map see (put_in_order (on see cmp) x ys) ≡ put_in_order cmp (see x) (map see ys)
          → map see (match_ordering o (x ∷ y ∷ ys) (x ∷ ys) (y ∷ put_in_order (on see cmp) x ys))
          ≡ match_ordering o (see x ∷ see y ∷ map see ys) (see x ∷ map see ys) (see y ∷ put_in_order cmp (see x) (map see ys))
      by Less rest = refl
      by Equal rest = refl
      by Greater rest = ap (λ (zs : List Y). see y ∷ zs) rest

  map-in_order : (xs : List X) → map see (in_order (on see cmp) xs) ≡ in_order cmp (map see xs)
  map-in_order [] = refl
  map-in_order (x ∷ xs) = map-put x (in_order (on see cmp) xs) ∙ ap (put_in_order cmp (see x)) (map-in_order xs)

-- the states of the newest points are the newest states
pub states-newest : (ps : List Point) → map state_of_point (newest_points ps) ≡ parts.newest_states (map state_of_point ps)
states-newest ps = map-in_order state_of_point state_cmp ps

-- the states that are set are those of the points that are set
pub states-visible : (ps : List Point) → filter (λ (s : NameState). s.is_set) (map state_of_point ps) ≡ map state_of_point (visible ps)
states-visible [] = refl
states-visible (p ∷ ps) = by (is_some p.value) (states-visible ps)
  where
    by : (b : Bool) → filter (λ (s : NameState). s.is_set) (map state_of_point ps) ≡ map state_of_point (visible ps)
        → cond b (state_of_point p ∷ filter (λ (s : NameState). s.is_set) (map state_of_point ps)) (filter (λ (s : NameState). s.is_set) (map state_of_point ps))
        ≡ map state_of_point (cond b (p ∷ visible ps) (visible ps))
    by true rest = ap (λ (ss : List NameState). state_of_point p ∷ ss) rest
    by false rest = rest

-- the states of all parts
states-joined : (runs : List Run) → flat_map (λ (p : Part). p.states) (parts_of runs) ≡ map state_of_point (joined (points_in runs))
unfolding parts_of
states-joined [] = refl
states-joined (r ∷ rs) =
    ap (λ (ss : List NameState). map state_of_point r.points ++ ss) (states-joined rs) ∙ sym (map-append state_of_point r.points (joined (points_in rs)))

-- the fragments over which the newest closes
closing-parts : (runs : List Run) → closing_of (parts_of runs) ≡ fragments_in runs
unfolding parts_of
closing-parts [] = refl
closing-parts (r ∷ rs) = refl

-- parts united are the part of the run that they are united into
pub united-parts : (runs : List Run) → united (parts_of runs) ≡ part_of (united_run runs) (fragments_in runs)
unfolding merged
united-parts runs =
    let states : filter (λ (s : NameState). s.is_set) (parts.newest_states (flat_map (λ (p : Part). p.states) (parts_of runs))) ≡ map state_of_point (visible (merged (points_in runs))) =
    ap (λ (ss : List NameState). filter (λ (s : NameState). s.is_set) (parts.newest_states ss)) (states-joined runs)
    ∙ ap (λ (ss : List NameState). filter (λ (s : NameState). s.is_set) ss) (sym (states-newest (joined (points_in runs))))
    ∙ states-visible (newest_points (joined (points_in runs))) in
    let flag : not (is_empty (closing_of (parts_of runs))) ≡ not (is_empty (operations_of (fragments_in runs))) =
    ap (λ (fs : List Fragment). not (is_empty fs)) (closing-parts runs) ∙ ap not (sym (none-closing (fragments_in runs) (in-canonical runs))) in
    λ i. record { states = states i; ranges = flag i; closing = closing-parts runs i }

-- no part where there is no entry
unless-parts : (r : Run) (closing : List Fragment) → fragments_after [] r.ranges ≡ closing → unless_empty (part_of r closing) ≡ parts_of (unless_nothing r)
unfolding parts_of
unless-parts r closing is = by r.points r.ranges is
  where
    by : (ps : List Point) (ops : List RangeOp) → fragments_after [] ops ≡ closing
        → unless_empty (part_of (record { points = ps; ranges = ops }) closing) ≡ parts_of (unless_nothing (record { points = ps; ranges = ops }))
    by [] [] closes = refl
    by [] (op ∷ ops) closes = ap (λ (fs : List Fragment). part_of (record { points = []; ranges = op ∷ ops }) fs ∷ []) (sym closes)
    by (p ∷ ps) ops closes = ap (λ (fs : List Fragment). part_of (record { points = p ∷ ps; ranges = ops }) fs ∷ []) (sym closes)

-- parts from a place on
drop-parts : (n : ℕ) (runs : List Run) → drop n (parts_of runs) ≡ parts_of (drop n runs)
unfolding parts_of
drop-parts zero runs = refl
drop-parts (suc n) [] = refl
drop-parts (suc n) (r ∷ rs) = drop-parts n rs

-- parts up to a place, where what is behind them gives the same fragments
parts-tail : (n : ℕ) (runs tail : List Run) → fragments_in tail ≡ fragments_in (drop n runs) → parts_of (take n runs ++ tail) ≡ take n (parts_of runs) ++ parts_of tail
unfolding parts_of
parts-tail zero runs tail same = refl
parts-tail (suc n) [] tail same = refl
parts-tail (suc n) (r ∷ rs) tail same =
    let older : fragments_in (take n rs ++ tail) ≡ fragments_in rs = in-tail (take n rs) tail (drop n rs) same ∙ ap fragments_in (take-append-drop n rs) in
    λ i. part_of r (fragments_after (older i) r.ranges) ∷ parts-tail n rs tail same i

-- there are as many parts
length-parts : (runs : List Run) → length (parts_of runs) ≡ length runs
unfolding parts_of
length-parts [] = refl
length-parts (r ∷ rs) = ap suc (length-parts rs)

-- where there are more runs than are kept the oldest are united
pub parts-compacted : (keep : ℕ) (table : Run) (runs : List Run) → keep < length runs
    → parts_of (table ∷ with_united (keep - 1) runs) ≡ compacted keep (parts_of (table ∷ runs))
unfolding parts_of compacted
parts-compacted keep table runs more = λ i. part_of table (fragments_after (fragments-with_united (keep - 1) runs i) table.ranges) ∷ rest i
  where
    older : List Run
    older = drop (keep - 1) runs

    oldest : parts_of (unless_nothing (united_run older)) ≡ unless_empty (united (drop (keep - 1) (parts_of runs)))
    oldest =
        sym (unless-parts (united_run older) (fragments_in older) (closing-again (fragments_in older) (in-canonical older)))
        ∙ ap unless_empty (sym (united-parts older))
        ∙ ap (λ (ps : List Part). unless_empty (united ps)) (sym (drop-parts (keep - 1) runs))

    test : nat_lt keep (length (parts_of runs)) ≡ true
    test = ap (nat_lt keep) (length-parts runs) ∙ lt-ltb keep (length runs) more

    rest : parts_of (with_united (keep - 1) runs)
        ≡ cond (nat_lt keep (length (parts_of runs))) (take (keep - 1) (parts_of runs) ++ unless_empty (united (drop (keep - 1) (parts_of runs)))) (parts_of runs)
    rest =
        parts-tail (keep - 1) runs (unless_nothing (united_run older)) (fragments-united older)
        ∙ ap (λ (ps : List Part). take (keep - 1) (parts_of runs) ++ ps) oldest
        ∙ sym (ap (λ (b : Bool). cond b (take (keep - 1) (parts_of runs) ++ unless_empty (united (drop (keep - 1) (parts_of runs)))) (parts_of runs)) test)

-- where there are no more they stay
pub parts-few : (keep : ℕ) (table : Run) (runs : List Run) → length runs ≤ keep → parts_of (table ∷ runs) ≡ compacted keep (parts_of (table ∷ runs))
unfolding parts_of compacted
parts-few keep table runs few =
    ap (λ (ps : List Part). part_of table (fragments_in (table ∷ runs)) ∷ ps)
    (sym (ap (λ (b : Bool). cond b (take (keep - 1) (parts_of runs) ++ unless_empty (united (drop (keep - 1) (parts_of runs)))) (parts_of runs)) test))
  where
    test : nat_lt keep (length (parts_of runs)) ≡ false
    test = ap (nat_lt keep) (length-parts runs) ∙ le-ltb keep (length runs) few

-- ---- flushed parts

-- the parts after a flush
pub parts-flushed : (table : Run) (runs : List Run) → parts_of (empty_run ∷ flushed_runs table runs) ≡ flushed (parts_of (table ∷ runs))
unfolding parts_of flushed
parts-flushed table runs = by table.points table.ranges
  where
    by : (ps : List Point) (ops : List RangeOp)
        → parts_of (empty_run ∷ flushed_runs (record { points = ps; ranges = ops }) runs) ≡ flushed (parts_of (record { points = ps; ranges = ops } ∷ runs))
    by [] [] = refl
    by [] (op ∷ ops) = refl
    by (p ∷ ps) ops = refl

-- they show the same
pub shown-flushed : (table : Run) (runs : List Run) → shown (empty_run ∷ flushed_runs table runs) ≡ shown (table ∷ runs)
unfolding visible_points merged
shown-flushed table runs = by table.points table.ranges
  where
    by : (ps : List Point) (ops : List RangeOp)
        → shown (empty_run ∷ flushed_runs (record { points = ps; ranges = ops }) runs) ≡ shown (record { points = ps; ranges = ops } ∷ runs)
    by [] [] = refl
    by [] (op ∷ ops) = refl
    by (p ∷ ps) ops = refl

-- and give the same fragments
pub fragments-flushed : (table : Run) (runs : List Run) → fragments_in (flushed_runs table runs) ≡ fragments_in (table ∷ runs)
fragments-flushed table runs = by table.points table.ranges
  where
    by : (ps : List Point) (ops : List RangeOp)
        → fragments_in (flushed_runs (record { points = ps; ranges = ops }) runs) ≡ fragments_in (record { points = ps; ranges = ops } ∷ runs)
    by [] [] = refl
    by [] (op ∷ ops) = refl
    by (p ∷ ps) ops = refl

-- a table that is empty stays
pub flushed-none : (table : Run) (runs : List Run) → table ≡ empty_run → flushed_runs table runs ≡ runs
flushed-none table runs is = ap (λ (r : Run). flushed_runs r runs) is

-- another one becomes the newest run
pub flushed-some : (table : Run) (runs : List Run) → (table ≡ empty_run → ⊥) → flushed_runs table runs ≡ table ∷ runs
flushed-some table runs some = by table.points table.ranges some
  where
    by : (ps : List Point) (ops : List RangeOp) → (record { points = ps; ranges = ops } ≡ empty_run → ⊥)
        → flushed_runs (record { points = ps; ranges = ops }) runs ≡ record { points = ps; ranges = ops } ∷ runs
    by [] [] h = absurd (h refl)
    by [] (op ∷ ops) h = refl
    by (p ∷ ps) ops h = refl

-- ---- a run that is added

-- the parts under which a run comes
pub parts-added : (run table : Run) (runs : List Run)
    → parts_of (empty_run ∷ run ∷ flushed_runs table runs) ≡ with_run (part_of run (fragments_in (empty_run ∷ run ∷ flushed_runs table runs))) (parts_of (table ∷ runs))
unfolding parts_of with_run
parts-added run table runs =
    ap (behind_table (part_of run (fragments_in (run ∷ flushed_runs table runs)))) (parts-flushed table runs)

-- what they show
pub shown-added : (run table : Run) (runs : List Run) → shown (empty_run ∷ run ∷ flushed_runs table runs) ≡ with_batch run.points (shown (table ∷ runs))
unfolding visible_points merged with_batch
shown-added run table runs =
    sym (seen-older run.points (joined (points_in (flushed_runs table runs)))) ∙ ap (with_batch run.points) (shown-flushed table runs)

-- and the fragments
pub fragments-added : (run table : Run) (runs : List Run)
    → fragments_in (empty_run ∷ run ∷ flushed_runs table runs) ≡ fragments_after (fragments_in (table ∷ runs)) run.ranges
fragments-added run table runs = ap (λ (fs : List Fragment). fragments_after fs run.ranges) (fragments-flushed table runs)

-- ---- runs united

-- no run where there is no entry
unless-none : (r : Run) → r.points ≡ [] → r.ranges ≡ [] → [] ≡ unless_nothing r
unless-none r points ranges = by r.points r.ranges points ranges
  where
    by : (ps : List Point) (ops : List RangeOp) → ps ≡ [] → ops ≡ [] → [] ≡ unless_nothing (record { points = ps; ranges = ops })
    by [] [] h k = refl
    by [] (op ∷ ops) h k = absurd cc
    by (p ∷ ps) ops h k = absurd cc

-- a run where there is one
unless-some : (r : Run) → ((r.points ≡ []) × (r.ranges ≡ []) → ⊥) → r ∷ [] ≡ unless_nothing r
unless-some r some = by r.points r.ranges some
  where
    by : (ps : List Point) (ops : List RangeOp) → ((ps ≡ []) × (ops ≡ []) → ⊥) → record { points = ps; ranges = ops } ∷ [] ≡ unless_nothing (record { points = ps; ranges = ops })
    by [] [] h = absurd (h (refl, refl))
    by [] (op ∷ ops) h = refl
    by (p ∷ ps) ops h = refl

-- runs from a place on replaced by one that holds nothing
pub runs-emptied : (runs new : List Run) (first : ℕ) (run : Run) → new ≡ take first runs → run ≡ united_run (drop first runs)
    → run.points ≡ [] → run.ranges ≡ [] → new ≡ with_united first runs
runs-emptied runs new first run is united points ranges =
    is ∙ sym (append-nil (take first runs)) ∙ ap (λ (rs : List Run). take first runs ++ rs) (unless-none run points ranges ∙ ap unless_nothing united)

-- runs from a place on replaced by one
pub runs-replaced : (runs new : List Run) (first keep : ℕ) (run : Run) → new ≡ take keep (set runs first run) → keep ≡ first + 1 → first < length runs
    → run ≡ united_run (drop first runs) → ((run.points ≡ []) × (run.ranges ≡ []) → ⊥) → new ≡ with_united first runs
runs-replaced runs new first keep run is kept within united some =
    is ∙ ap (λ (n : ℕ). take n (set runs first run)) kept ∙ take_more_set runs first run within
    ∙ ap (λ (rs : List Run). take first runs ++ rs) (unless-some run some ∙ ap unless_nothing united)

-- ---- what is stored

-- runs united hold stored points
pub stored-united : (runs : List Run) → All (λ r. All IsStoredPoint r.points) runs → All IsStoredPoint (visible (merged (map (λ r. r.points) runs)))
stored-united runs h =
    let lists : List (List Point) = map (λ (r : Run). r.points) runs in
    All-filter (λ (p : Point). is_some p.value) IsStoredPoint (merged lists)
    (All-from_recursion IsStoredPoint (merged lists) (each-merged IsStoredPoint lists (each runs (recursion_from_All (λ (r : Run). All IsStoredPoint r.points) runs h))))
  where
    each : (rs : List Run) → AllByRecursion (λ r. All IsStoredPoint r.points) rs → AllByRecursion (AllByRecursion IsStoredPoint) (map (λ r. r.points) rs)
    each [] h = tt
    each (r ∷ rs) h = (recursion_from_All IsStoredPoint r.points h.0, each rs h.1)
