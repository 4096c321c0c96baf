-- What is shown after a batch, where only the operations that change what is seen are taken up.
use Rattle.std.proofs.Common.{◌≡◌, ℕ, Bool, true, false, cond, List, ◌∷◌, ◌++◌, refl, sym, ap, ◌∙◌}
use Rattle.std.specs.Prelude.{filter, Some, None, is_some, not}
use Rattle.std.specs.declared.option.Option.{Option}
use Rattle.std.specs.Option.{option_and_then}
use Rattle.std.proofs.lemmas.Slice.Eq.{bytes_eq-Decides}
use Rattle.mvcc_key.specs.Order.{Name}
use Rattle.mvcc_key.specs.Points.{Point, point_cmp}
use Rattle.mvcc_key.specs.Lists.{in_order}
use Rattle.mem_table.specs.Table.{state_of, newest_points}
use Rattle.merge_cursor.specs.Merged.{joined, merged}
use Rattle.lsm_store.specs.Shown.{visible_points, with_batch}
use Rattle.lsm_store.specs.views.Changing.{is_same_value, is_change, changes_points}
use Rattle.lsm_store.proofs.KnownLaws.{newer, keep, known-named, known-append, known-in_order, known-filter, AreSorted, sorted-in_order, sorted-filter, same-known}

-- by name
abbrev pub point_name : Point → Name
point_name p = p.name

-- it is set
abbrev pub is_set : Point → Bool
is_set p = is_some p.value

-- its value
abbrev pub value_in : Option Point → Option (List ℕ)
value_in = option_and_then (λ p. p.value)

-- they rise
abbrev pub ArePoints : List Point → Type 0
ArePoints ps = AreSorted point_name ps

-- ---- what is shown of a name

-- what is shown rises
pub sorted-shown : (lists : List (List Point)) → ArePoints (visible_points lists)
unfolding visible_points merged
sorted-shown lists = sorted-filter point_name is_set (in_order point_cmp (joined lists)) (sorted-in_order point_name (joined lists))

-- and is the first state of each name, where that is set
pub known-shown : (n : Name) (lists : List (List Point)) → state_of n (visible_points lists) ≡ keep is_set (state_of n (joined lists))
unfolding visible_points merged
known-shown n lists =
    known-filter point_name n is_set (in_order point_cmp (joined lists)) (sorted-in_order point_name (joined lists))
    ∙ ap (keep is_set) (known-in_order point_name n (joined lists))

-- the same after a batch
pub sorted-with_batch : (batch points : List Point) → ArePoints (with_batch batch points)
unfolding with_batch
sorted-with_batch batch points = sorted-filter point_name is_set (newest_points (batch ++ points)) (sorted-in_order point_name (batch ++ points))

pub known-with_batch : (n : Name) (batch points : List Point) → state_of n (with_batch batch points) ≡ keep is_set (newer (state_of n batch) (state_of n points))
unfolding with_batch
known-with_batch n batch points =
    known-filter point_name n is_set (newest_points (batch ++ points)) (sorted-in_order point_name (batch ++ points))
    ∙ ap (keep is_set) (known-in_order point_name n (batch ++ points) ∙ known-append point_name n batch points)

-- a name that is not set has no value
value-set : (m : Name) (v : Option (List ℕ)) → value_in (cond (is_some v) (Some (record { name = m; value = v })) None) ≡ v
value-set m None = refl
value-set m (Some v) = refl

-- the value is the same where only what is set is kept
pub value-keep : (o : Option Point) → value_in (keep is_set o) ≡ value_in o
value-keep None = refl
value-keep (Some p) = value-set p.name p.value

-- what changes what is shown of a name changes its first state, and the other way round
pub change-shown : (n : Name) (value : Option (List ℕ)) (lists : List (List Point)) → is_change value (state_of n (joined lists)) ≡ is_change value (state_of n (visible_points lists))
change-shown n value lists =
    ap (λ (v : Option (List ℕ)). not (is_same_value value v)) (sym (value-keep (state_of n (joined lists))) ∙ ap value_in (sym (known-shown n lists)))

-- ---- what is shown after a batch

-- a third goes behind two
newer-newer : {X : Type 0} (a b c : Option X) → newer (newer a b) c ≡ newer a (newer b c)
newer-newer None b c = refl
newer-newer (Some x) b c = refl

-- what was kept is kept again
keep-keep : {X : Type 0} (test : X → Bool) (o : Option X) → keep test (keep test o) ≡ keep test o
keep-keep test None = refl
keep-keep test (Some x) = by (test x) refl
  where
    by : (b : Bool) → test x ≡ b → keep test (cond b (Some x) None) ≡ cond b (Some x) None
    by true h = ap (λ (b : Bool). cond b (Some x) None) h
    by false h = refl

-- the same value under the same name is the same point, where it is set
same-set : (n m : Name) (v w : Option (List ℕ)) → n ≡ m → is_same_value v w ≡ true
    → keep is_set (Some (record { name = m; value = w })) ≡ keep is_set (Some (record { name = n; value = v }))
same-set n m None None e h = refl
same-set n m None (Some w) e h = absurd cc
same-set n m (Some v) None e h = absurd cc
same-set n m (Some v) (Some w) e h =
    let value : v ≡ w = (bytes_eq-Decides v w).0 h in
    λ i. Some (record { name = sym e i; value = Some (sym value i) })

-- where a value is no change nothing is set by it
same-none : (n : Name) (v : Option (List ℕ)) → is_same_value v None ≡ true → None ≡ keep is_set (Some (record { name = n; value = v }))
same-none n None h = refl
same-none n (Some v) h = absurd cc

-- tests
not_false : (b : Bool) → not b ≡ false → b ≡ true
not_false true h = refl
not_false false h = absurd cc

-- of a name of the batch is shown the same, whether what changes nothing is taken up or left out
kept-shows : (n : Name) (b j : Option Point) → ((p : Point) → b ≡ Some p → p.name ≡ n) → ((p : Point) → j ≡ Some p → p.name ≡ n)
    → keep is_set (newer (keep (λ p. is_change p.value (keep is_set j)) b) j) ≡ keep is_set (newer b (keep is_set j))
kept-shows n None j in_b in_j = sym (keep-keep is_set j)
kept-shows n (Some p) j in_b in_j = by (is_change p.value (keep is_set j)) refl
  where
    left : (o : Option Point) → ((q : Point) → o ≡ Some q → q.name ≡ n) → is_same_value p.value (value_in o) ≡ true → keep is_set o ≡ keep is_set (Some p)
    left None named same = same-none p.name p.value same
    left (Some q) named same = same-set p.name q.name p.value q.value (in_b p refl ∙ sym (named q refl)) same

    by : (c : Bool) → is_change p.value (keep is_set j) ≡ c
        → keep is_set (newer (cond c (Some p) None) j) ≡ keep is_set (Some p)
    by true h = refl
    by false h = left j in_j (ap (is_same_value p.value) (sym (value-keep j)) ∙ not_false _ h)

-- the operations of the batch that change what is shown are those of the name that do
kept-named : (n : Name) (points : List Point) (b : Option Point) → ((p : Point) → b ≡ Some p → p.name ≡ n)
    → keep (changes_points points) b ≡ keep (λ p. is_change p.value (state_of n points)) b
kept-named n points None named = refl
kept-named n points (Some p) named =
    ap (λ (m : Name). cond (is_change p.value (state_of m points)) (Some p) None) (named p refl)

-- what is known of a name in the batch's changes
pub known-kept : (n : Name) (batch points : List Point) → ArePoints batch
    → state_of n (filter (changes_points points) batch) ≡ keep (λ p. is_change p.value (state_of n points)) (state_of n batch)
known-kept n batch points sorted =
    known-filter point_name n (changes_points points) batch sorted
    ∙ kept-named n points (state_of n batch) (known-named point_name n batch)

-- what is shown after a batch
pub shown-applied : (batch table : List Point) (runs : List (List Point)) → ArePoints batch
    → visible_points (newest_points (filter (changes_points (visible_points (table ∷ runs))) batch ++ table) ∷ runs) ≡ with_batch batch (visible_points (table ∷ runs))
shown-applied batch table runs sorted =
    same-known point_name (visible_points (now ∷ runs)) (with_batch batch before) (sorted-shown (now ∷ runs)) (sorted-with_batch batch before) each
  where
    before : List Point
    before = visible_points (table ∷ runs)

    kept : List Point
    kept = filter (changes_points before) batch

    now : List Point
    now = newest_points (kept ++ table)

    each : (n : Name) → state_of n (visible_points (now ∷ runs)) ≡ state_of n (with_batch batch before)
    each n =
        let first = state_of n (joined (table ∷ runs)) in
        let seen : state_of n before ≡ keep is_set first = known-shown n (table ∷ runs) in
        let new : state_of n (joined (now ∷ runs)) ≡ newer (state_of n kept) first =
        known-append point_name n now (joined runs)
        ∙ ap (λ (o : Option Point). newer o (state_of n (joined runs))) (known-in_order point_name n (kept ++ table) ∙ known-append point_name n kept table)
        ∙ newer-newer (state_of n kept) (state_of n table) (state_of n (joined runs))
        ∙ ap (newer (state_of n kept)) (sym (known-append point_name n table (joined runs))) in
        known-shown n (now ∷ runs)
        ∙ ap (keep is_set) (new ∙ ap (λ (o : Option Point). newer o first)
        (known-kept n batch before sorted ∙ ap (λ (o : Option Point). keep (λ p. is_change p.value o) (state_of n batch)) seen))
        ∙ kept-shows n (state_of n batch) first (known-named point_name n batch) (known-named point_name n (joined (table ∷ runs)))
        ∙ ap (λ (o : Option Point). keep is_set (newer (state_of n batch) o)) (sym seen)
        ∙ sym (known-with_batch n batch before)

-- the same, by the points that were taken up
pub shown-after : (batch kept table now : List Point) (runs old : List (List Point)) → ArePoints batch → kept ≡ filter (changes_points (visible_points (table ∷ runs))) batch
    → now ≡ newest_points (kept ++ table) → table ∷ runs ≡ old → visible_points (now ∷ runs) ≡ with_batch batch (visible_points old)
shown-after batch kept table now runs old sorted kept_is now_is old_is =
    ap (λ (ps : List Point). visible_points (ps ∷ runs)) (now_is ∙ ap (λ (ps : List Point). newest_points (ps ++ table)) kept_is)
    ∙ shown-applied batch table runs sorted
    ∙ ap (λ (lists : List (List Point)). with_batch batch (visible_points lists)) old_is
