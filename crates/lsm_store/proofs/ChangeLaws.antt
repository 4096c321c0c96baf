-- The names whose pairs a batch changes are those of the operations that change what is seen.
use Rattle.std.proofs.Common.{◌≡◌, ℕ, Bool, true, false, cond, List, [], ◌∷◌, ◌++◌, map, refl, sym, ap, subst, ◌∙◌}
use Rattle.std.specs.Prelude.{filter, Some, None, is_some, not, bytes_eq, ◌&&◌, ◌||◌}
use Rattle.std.specs.List.{list_any}
use Rattle.std.specs.declared.option.Option.{Option}
use Rattle.std.specs.Option.{option_map}
use Rattle.std.specs.List.Sorted.{IsStrictlySortedBy}
use Rattle.std.proofs.lemmas.List.{map-append}
use Rattle.std.proofs.lemmas.Slice.Eq.{bytes_eq-Decides}
use Rattle.mvcc_key.specs.Order.{Name, is_same_name, Pair}
use Rattle.mvcc_key.specs.Points.{Point, point_cmp}
use Rattle.mvcc_key.specs.Lists.{is_empty}
use Rattle.mvcc_key.specs.Fragments.{Fragment}
use Rattle.mvcc_key.specs.SameFragments.{are_same_fragments}
use Rattle.mvcc_key.specs.RangeOperations.{RangeOp}
use Rattle.mvcc_key.specs.views.SeenPoint.{points_of}
use Rattle.mvcc_key.specs.views.SeenRange.{range_op_of, range_ops_of}
use Rattle.mvcc_key.specs.declared.batch.Batch.{Batch}
use Rattle.range_key.specs.RangeOps.{fragments_after}
use Rattle.range_key.proofs.OperationLaws.{fragments_after-more}
use Rattle.mem_table.specs.Table as tables
use Rattle.mem_table.specs.Table.{Table, state_of, newest_points}
use Rattle.run_block.specs.RunFormat.{Run}
use Rattle.lsm_store.specs.Parts.{NameState, state_cmp, set_state, cleared_state, newest_states, has_pair, has_name, changes, after_batch}
use Rattle.lsm_store.specs.Shown.{shown, points_in, fragments_in, with_batch, pairs_of, state_of_point, parts_of, stage_of}
use Rattle.lsm_store.specs.views.Seen.{run_of_table}
use Rattle.lsm_store.specs.views.Changing.{is_same_value, is_change, changes_points}
use Rattle.lsm_store.proofs.KnownLaws.{newer, keep, passes, known, known-named, known-append, known-in_order, known-filter, known-behind, known-map, sorted-in_order, same-known, map-in_order}
use Rattle.lsm_store.proofs.SoughtLaws.{same-test}
use Rattle.lsm_store.proofs.ApplyLaws.{point_name, value_in, ArePoints, sorted-shown, value-keep, known-with_batch, known-kept, shown-applied, shown-after}
use Rattle.lsm_store.proofs.RangeLaws.{kept_ops, kept-after, kept-flag}

-- ---- pairs and points

-- a pair
abbrev pair : Name → List ℕ → Pair
pair n v = record { name = n; value = v }

-- a value under a name is there and passes the test
abbrev passing_value : (Pair → Bool) → Name → Option (List ℕ) → Bool
passing_value test n None = false
passing_value test n (Some v) = test (pair n v)

-- the point is set, and its pair passes the test
abbrev passing : (Pair → Bool) → Point → Bool
passing test p = passing_value test p.name p.value

-- the names of the pairs that pass are those of the points whose pairs pass
map-pairs : (state : Name → NameState) (test : Pair → Bool) (ps : List Point)
    → map (λ q. state q.name) (filter test (pairs_of ps)) ≡ map (λ p. state p.name) (filter (passing test) ps)
unfolding pairs_of
map-pairs state test [] = refl
map-pairs state test (p ∷ ps) = by p.name p.value (map-pairs state test ps)
  where
    by : (n : Name) (o : Option (List ℕ)) → map (λ q. state q.name) (filter test (pairs_of ps)) ≡ map (λ p. state p.name) (filter (passing test) ps)
        → map (λ q. state q.name) (filter test (pairs_of (record { name = n; value = o } ∷ ps)))
        ≡ map (λ p. state p.name) (filter (passing test) (record { name = n; value = o } ∷ ps))
    by n None rest = rest
    by n (Some v) rest = which (test (pair n v))
      where
        which : (b : Bool) → map (λ q. state q.name) (cond b (pair n v ∷ filter test (pairs_of ps)) (filter test (pairs_of ps)))
            ≡ map (λ p. state p.name) (cond b (record { name = n; value = Some v } ∷ filter (passing test) ps) (filter (passing test) ps))
        which true = ap (λ (ss : List NameState). state n ∷ ss) rest
        which false = rest

-- what is said of a name by the pairs that pass
known-pairs : (state : Name → NameState) → ((m : Name) → (state m).name ≡ m) → (test : Pair → Bool) (n : Name) (ps : List Point) → ArePoints ps
    → known (λ s. s.name) n (map (λ q. state q.name) (filter test (pairs_of ps))) ≡ option_map (λ p. state p.name) (keep (passing test) (state_of n ps))
known-pairs state named test n ps sorted =
    ap (known (λ s. s.name) n) (map-pairs state test ps)
    ∙ known-map (λ (p : Point). state p.name) point_name (λ (s : NameState). s.name) (λ p. named p.name) n (filter (passing test) ps)
    ∙ ap (option_map (λ p. state p.name)) (known-filter point_name n (passing test) ps sorted)

-- one of the pairs of a name passes where what is known of it does
any-pair : (n : Name) (test : Pair → Bool) (ps : List Point) → ArePoints ps
    → list_any (λ q. is_same_name q.name n && test q) (pairs_of ps) ≡ passes (passing test) (state_of n ps)
unfolding pairs_of IsStrictlySortedBy
any-pair n test [] sorted = refl
any-pair n test (p ∷ ps) sorted = by p.name p.value (known-behind point_name n p ps sorted) (any-pair n test ps sorted.1)
  where
    alone : (b : Bool) → (b || false) ≡ b
    alone true = refl
    alone false = refl

    by : (m : Name) (o : Option (List ℕ)) → (is_same_name m n ≡ true → state_of n ps ≡ None)
        → list_any (λ q. is_same_name q.name n && test q) (pairs_of ps) ≡ passes (passing test) (state_of n ps)
        → list_any (λ q. is_same_name q.name n && test q) (pairs_of (record { name = m; value = o } ∷ ps))
        ≡ passes (passing test) (state_of n (record { name = m; value = o } ∷ ps))
    by m None none rest = which (is_same_name m n) refl
      where
        which : (b : Bool) → is_same_name m n ≡ b → list_any (λ q. is_same_name q.name n && test q) (pairs_of ps)
            ≡ passes (passing test) (cond b (Some (record { name = m; value = None })) (state_of n ps))
        which true same = rest ∙ ap (passes (passing test)) (none same)
        which false same = rest
    by m (Some v) none rest = which (is_same_name m n) refl
      where
        which : (b : Bool) → is_same_name m n ≡ b → ((b && test (pair m v)) || list_any (λ q. is_same_name q.name n && test q) (pairs_of ps))
            ≡ passes (passing test) (cond b (Some (record { name = m; value = Some v })) (state_of n ps))
        which true same = ap (λ (c : Bool). test (pair m v) || c) (rest ∙ ap (passes (passing test)) (none same)) ∙ alone (test (pair m v))
        which false same = rest

-- a test that always passes
any-name : (n : Name) (qs : List Pair) → list_any (λ q. is_same_name q.name n) qs ≡ list_any (λ q. is_same_name q.name n && true) qs
any-name n [] = refl
any-name n (q ∷ qs) = ap (λ (c : Bool). is_same_name q.name n || c) (any-name n qs) ∙ by (is_same_name q.name n)
  where
    by : (b : Bool) → (b || list_any (λ q. is_same_name q.name n && true) qs) ≡ ((b && true) || list_any (λ q. is_same_name q.name n && true) qs)
    by true = refl
    by false = refl

-- ---- what a change says of a name

-- a name is set where its value is another
abbrev set_part : Name → Option (List ℕ) → Option (List ℕ) → Option NameState
set_part n before None = None
set_part n before (Some v) = cond (not (is_same_value before (Some v))) (Some (set_state n)) None

-- it is cleared where it was set
abbrev cleared_part : Name → Option (List ℕ) → Option (List ℕ) → Option NameState
cleared_part n None after = None
cleared_part n (Some v) after = cond (not (is_some after)) (Some (cleared_state n)) None

-- one of both, where the values differ
abbrev said : Name → Option (List ℕ) → Option (List ℕ) → Option NameState
said n before after = cond (is_same_value after before) None (Some (record { name = n; is_set = is_some after }))

-- the value of a name, as a pair of it
passes-value : (v : List ℕ) (o : Option Point) → passes (passing (λ q. bytes_eq q.value v)) o ≡ is_same_value (value_in o) (Some v)
passes-value v None = refl
passes-value v (Some p) = by p.value
  where
    by : (w : Option (List ℕ)) → passing_value (λ q. bytes_eq q.value v) p.name w ≡ is_same_value w (Some v)
    by None = refl
    by (Some w) = refl

passes-set : (o : Option Point) → passes (passing (λ _. true)) o ≡ is_some (value_in o)
passes-set None = refl
passes-set (Some p) = by p.value
  where
    by : (w : Option (List ℕ)) → passing_value (λ _. true) p.name w ≡ is_some w
    by None = refl
    by (Some w) = refl

-- the pairs that are new or other say that their names are set
known-set : (n : Name) (before : List Point) (o : Option Point) → ArePoints before → ((p : Point) → o ≡ Some p → p.name ≡ n)
    → option_map (λ p. set_state p.name) (keep (passing (λ p. not (has_pair (pairs_of before) p))) o) ≡ set_part n (value_in (state_of n before)) (value_in o)
known-set n before None sorted named = refl
known-set n before (Some p) sorted named =
    ap (λ (m : Name). option_map (λ p. set_state p.name) (cond (passing_value (λ p. not (has_pair (pairs_of before) p)) m p.value) (Some p) None)) (named p refl)
    ∙ by p.value
  where
    by : (w : Option (List ℕ)) → option_map (λ p. set_state p.name) (cond (passing_value (λ p. not (has_pair (pairs_of before) p)) n w) (Some p) None)
        ≡ set_part n (value_in (state_of n before)) w
    by None = refl
    by (Some v) =
        ap (λ (b : Bool). option_map (λ p. set_state p.name) (cond (not b) (Some p) None))
        (any-pair n (λ q. bytes_eq q.value v) before sorted ∙ passes-value v (state_of n before))
        ∙ which (is_same_value (value_in (state_of n before)) (Some v))
      where
        which : (b : Bool) → option_map (λ p. set_state p.name) (cond (not b) (Some p) None) ≡ cond (not b) (Some (set_state n)) None
        which true = refl
        which false = ap (λ (m : Name). Some (set_state m)) (named p refl)

-- the pairs that are gone say that their names are cleared
known-cleared : (n : Name) (after : List Point) (o : Option Point) → ArePoints after → ((p : Point) → o ≡ Some p → p.name ≡ n)
    → option_map (λ p. cleared_state p.name) (keep (passing (λ p. not (has_name (pairs_of after) p))) o) ≡ cleared_part n (value_in o) (value_in (state_of n after))
known-cleared n after None sorted named = refl
known-cleared n after (Some p) sorted named =
    ap (λ (m : Name). option_map (λ p. cleared_state p.name) (cond (passing_value (λ p. not (has_name (pairs_of after) p)) m p.value) (Some p) None)) (named p refl)
    ∙ by p.value
  where
    by : (w : Option (List ℕ)) → option_map (λ p. cleared_state p.name) (cond (passing_value (λ p. not (has_name (pairs_of after) p)) n w) (Some p) None)
        ≡ cleared_part n w (value_in (state_of n after))
    by None = refl
    by (Some v) =
        ap (λ (b : Bool). option_map (λ p. cleared_state p.name) (cond (not b) (Some p) None))
        (any-name n (pairs_of after) ∙ any-pair n (λ _. true) after sorted ∙ passes-set (state_of n after))
        ∙ which (is_some (value_in (state_of n after)))
      where
        which : (b : Bool) → option_map (λ p. cleared_state p.name) (cond (not b) (Some p) None) ≡ cond (not b) (Some (cleared_state n)) None
        which true = refl
        which false = ap (λ (m : Name). Some (cleared_state m)) (named p refl)

-- the same bytes, either way round
bytes_eq-back : (v w : List ℕ) → bytes_eq v w ≡ bytes_eq w v
bytes_eq-back v w = same-test _ _
    (λ h. (bytes_eq-Decides w v).1 (sym ((bytes_eq-Decides v w).0 h)))
    (λ h. (bytes_eq-Decides v w).1 (sym ((bytes_eq-Decides w v).0 h)))

-- a value is itself
same_value-itself : (v : Option (List ℕ)) → is_same_value v v ≡ true
same_value-itself None = refl
same_value-itself (Some v) = (bytes_eq-Decides v v).1 refl

-- a name is set or cleared
both-said : (n : Name) (before after : Option (List ℕ)) → newer (set_part n before after) (cleared_part n before after) ≡ said n before after
both-said n None None = refl
both-said n (Some w) None = refl
both-said n None (Some v) = refl
both-said n (Some w) (Some v) = by (bytes_eq w v) ∙ ap (λ (b : Bool). cond b None (Some (set_state n))) (bytes_eq-back w v)
  where
    by : (b : Bool) → newer (cond (not b) (Some (set_state n)) None) None ≡ cond b None (Some (set_state n))
    by true = refl
    by false = refl

-- what the changes say of a name
known-changes : (n : Name) (before after : List Point) → ArePoints before → ArePoints after
    → known (λ s. s.name) n (changes (pairs_of before) (pairs_of after)) ≡ said n (value_in (state_of n before)) (value_in (state_of n after))
known-changes n before after sorted sorted_after =
    known-append (λ (s : NameState). s.name) n
    (map (λ p. set_state p.name) (filter (λ p. not (has_pair (pairs_of before) p)) (pairs_of after)))
    (map (λ p. cleared_state p.name) (filter (λ p. not (has_name (pairs_of after) p)) (pairs_of before)))
    ∙ ap (λ (o : Option NameState). newer o (known (λ s. s.name) n (map (λ p. cleared_state p.name) (filter (λ p. not (has_name (pairs_of after) p)) (pairs_of before)))))
    (known-pairs set_state (λ m. refl) (λ p. not (has_pair (pairs_of before) p)) n after sorted_after
    ∙ known-set n before (state_of n after) sorted (known-named point_name n after))
    ∙ ap (newer (set_part n (value_in (state_of n before)) (value_in (state_of n after))))
    (known-pairs cleared_state (λ m. refl) (λ p. not (has_name (pairs_of after) p)) n before sorted
    ∙ known-cleared n after (state_of n before) sorted_after (known-named point_name n before))
    ∙ both-said n (value_in (state_of n before)) (value_in (state_of n after))

-- what an operation that changes what is seen says of its name
kept-said : (n : Name) (b s : Option Point) → ((p : Point) → b ≡ Some p → p.name ≡ n)
    → option_map state_of_point (keep (λ p. is_change p.value s) b) ≡ said n (value_in s) (value_in (newer b s))
kept-said n None s named = ap (λ (b : Bool). cond b None (Some (record { name = n; is_set = is_some (value_in s) }))) (sym (same_value-itself (value_in s)))
kept-said n (Some p) s named = by (is_same_value p.value (value_in s))
  where
    by : (b : Bool) → option_map state_of_point (cond (not b) (Some p) None) ≡ cond b None (Some (record { name = n; is_set = is_some p.value }))
    by true = refl
    by false = ap (λ (m : Name). Some (record { name = m; is_set = is_some p.value })) (named p refl)

-- ---- the parts after a batch

-- the operations that change what is seen say what the changed pairs say
changes-kept : (n : Name) (batch before after : List Point) → ArePoints batch → ArePoints before → ArePoints after → after ≡ with_batch batch before
    → known (λ s. s.name) n (map state_of_point (filter (changes_points before) batch)) ≡ known (λ s. s.name) n (changes (pairs_of before) (pairs_of after))
changes-kept n batch before after sorted sorted_before sorted_after is =
    known-map state_of_point point_name (λ (s : NameState). s.name) (λ p. refl) n (filter (changes_points before) batch)
    ∙ ap (option_map state_of_point) (known-kept n batch before sorted)
    ∙ kept-said n (state_of n batch) (state_of n before) (known-named point_name n batch)
    ∙ ap (said n (value_in (state_of n before)))
    (sym (value-keep (newer (state_of n batch) (state_of n before))) ∙ ap value_in (sym (known-with_batch n batch before)) ∙ ap (λ (ps : List Point). value_in (state_of n ps)) (sym is))
    ∙ sym (known-changes n before after sorted_before sorted_after)

-- the memory table names what the batch changed, and what it named before
states-applied : (batch table before after : List Point) → ArePoints batch → ArePoints before → ArePoints after → after ≡ with_batch batch before
    → map state_of_point (newest_points (filter (changes_points before) batch ++ table))
    ≡ newest_states (changes (pairs_of before) (pairs_of after) ++ map state_of_point table)
states-applied batch table before after sorted sorted_before sorted_after is =
    map-in_order state_of_point point_cmp state_cmp (λ p q. refl) (kept ++ table)
    ∙ ap newest_states (map-append state_of_point kept table)
    ∙ same-known state_name (newest_states (map state_of_point kept ++ old)) (newest_states (changed ++ old))
    (sorted-in_order state_name (map state_of_point kept ++ old)) (sorted-in_order state_name (changed ++ old)) each
  where
    state_name : NameState → Name
    state_name s = s.name

    kept : List Point
    kept = filter (changes_points before) batch

    old : List NameState
    old = map state_of_point table

    changed : List NameState
    changed = changes (pairs_of before) (pairs_of after)

    each : (n : Name) → known state_name n (newest_states (map state_of_point kept ++ old)) ≡ known state_name n (newest_states (changed ++ old))
    each n =
        known-in_order state_name n (map state_of_point kept ++ old)
        ∙ known-append state_name n (map state_of_point kept) old
        ∙ ap (λ (o : Option NameState). newer o (known state_name n old)) (changes-kept n batch before after sorted sorted_before sorted_after is)
        ∙ sym (known-append state_name n changed old)
        ∙ sym (known-in_order state_name n (changed ++ old))

-- the memory table with a batch's points, and with its range operations where they are kept
abbrev pub table_with : List Point → Bool → List RangeOp → Run → Run
table_with kept b ops table = record { points = newest_points (kept ++ table.points); ranges = table.ranges ++ kept_ops b ops }

-- the fragments after a batch
pub fragments-applied : (kept : List Point) (ops : List RangeOp) (b : Bool) (table : Run) (runs : List Run)
    → b ≡ not (are_same_fragments (fragments_in (table ∷ runs)) (fragments_after (fragments_in (table ∷ runs)) ops))
    → fragments_in (table_with kept b ops table ∷ runs) ≡ fragments_after (fragments_in (table ∷ runs)) ops
fragments-applied kept ops b table runs is =
    fragments_after-more (fragments_in runs) table.ranges (kept_ops b ops) ∙ kept-after (fragments_in (table ∷ runs)) ops b is

-- the parts after a batch
parts-applied : (batch : List Point) (ops : List RangeOp) (b : Bool) (table : Run) (runs : List Run) → ArePoints batch
    → b ≡ not (are_same_fragments (fragments_in (table ∷ runs)) (fragments_after (fragments_in (table ∷ runs)) ops))
    → let now : List Run = table_with (filter (changes_points (shown (table ∷ runs))) batch) b ops table ∷ runs in
    parts_of now ≡ after_batch (stage_of (table ∷ runs)) (stage_of now) (parts_of (table ∷ runs))
unfolding parts_of after_batch
parts-applied batch ops b table runs sorted is =
    let before : List Point = shown (table ∷ runs) in
    let now : List Run = table_with (filter (changes_points before) batch) b ops table ∷ runs in
    let states = states-applied batch table.points before (shown now) sorted (sorted-shown (points_in (table ∷ runs))) (sorted-shown (points_in now))
    (shown-applied batch table.points (points_in runs) sorted) in
    let flag : not (is_empty (table.ranges ++ kept_ops b ops)) ≡ (not (is_empty table.ranges) || not (are_same_fragments (fragments_in (table ∷ runs)) (fragments_in now))) =
    kept-flag (fragments_in (table ∷ runs)) table.ranges ops b is
    ∙ ap (λ (fs : List Fragment). not (is_empty table.ranges) || not (are_same_fragments (fragments_in (table ∷ runs)) fs))
    (sym (fragments_after-more (fragments_in runs) table.ranges (kept_ops b ops))) in
    λ i. record { states = states i; ranges = flag i; closing = fragments_in now } ∷ parts_of runs

-- the same, by the points that were taken up
pub parts-after : (batch kept : List Point) (ops : List RangeOp) (b : Bool) (table now : Run) (runs old : List Run) → ArePoints batch
    → kept ≡ filter (changes_points (shown (table ∷ runs))) batch
    → b ≡ not (are_same_fragments (fragments_in (table ∷ runs)) (fragments_after (fragments_in (table ∷ runs)) ops))
    → now ≡ table_with kept b ops table → table ∷ runs ≡ old → parts_of (now ∷ runs) ≡ after_batch (stage_of old) (stage_of (now ∷ runs)) (parts_of old)
parts-after batch kept ops b table now runs old sorted kept_is is now_is old_is =
    let applied : Run = table_with (filter (changes_points (shown (table ∷ runs))) batch) b ops table in
    let same : now ≡ applied = now_is ∙ ap (λ (ps : List Point). table_with ps b ops table) kept_is in
    let After : Run → Type 0 = λ r. parts_of (r ∷ runs) ≡ after_batch (stage_of old) (stage_of (r ∷ runs)) (parts_of old) in
    subst After (sym same)
    (parts-applied batch ops b table runs sorted is ∙ ap (λ (parts : List Run). after_batch (stage_of parts) (stage_of (applied ∷ runs)) (parts_of parts)) old_is)

-- what is shown, by the points that were taken up
pub shown-batch : (batch kept : List Point) (ops : List RangeOp) (b : Bool) (table now : Run) (runs old : List Run) → ArePoints batch
    → kept ≡ filter (changes_points (shown (table ∷ runs))) batch → now ≡ table_with kept b ops table → table ∷ runs ≡ old
    → shown (now ∷ runs) ≡ with_batch batch (shown old)
shown-batch batch kept ops b table now runs old sorted kept_is now_is old_is =
    shown-after batch kept table.points now.points (points_in runs) (points_in old) sorted kept_is (ap (λ (r : Run). r.points) now_is) (ap points_in old_is)

-- the fragments, by the operations that were taken up
pub fragments-batch : (kept : List Point) (ops : List RangeOp) (b : Bool) (table now : Run) (runs old : List Run)
    → b ≡ not (are_same_fragments (fragments_in (table ∷ runs)) (fragments_after (fragments_in (table ∷ runs)) ops))
    → now ≡ table_with kept b ops table → table ∷ runs ≡ old → fragments_in (now ∷ runs) ≡ fragments_after (fragments_in old) ops
fragments-batch kept ops b table now runs old is now_is old_is =
    ap (λ (r : Run). fragments_in (r ∷ runs)) now_is ∙ fragments-applied kept ops b table runs is ∙ ap (λ (parts : List Run). fragments_after (fragments_in parts) ops) old_is

-- the table after a batch, as a run
pub table-after : (batch : Batch) (old new : Table) → new ≡ tables.after_batch batch old
    → run_of_table new ≡ record { points = newest_points (points_of batch.points ++ old.points); ranges = range_ops_of old.ranges ++ range_ops_of batch.ranges }
table-after batch old new is =
    ap run_of_table is
    ∙ (λ i. record { points = newest_points (points_of batch.points ++ old.points); ranges = map-append range_op_of old.ranges batch.ranges i })
