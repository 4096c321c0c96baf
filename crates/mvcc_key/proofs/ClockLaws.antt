-- The timestamps after and before one another.
use Rattle.std.proofs.Common.{◌≡◌, ℕ, ◌+◌, ◌-◌, ◌^◌, ◌<◌, ◌≤◌, Bool, true, false, cond, refl, sym, ap, ◌∙◌, arith}
use Rattle.std.specs.Prelude.{Some, None, nat_lt}
use Rattle.std.proofs.lemmas.Bool.{ltb-false, ltb-true, lt-ltb, and_from, le-leb}
use Rattle.mvcc_key.specs.Order.{Timestamp, is_in_range, next_time, previous_time, max_logical, max_wall}
use Rattle.mvcc_key.specs.Clock.{NextIsUndone, PreviousIsUndone}
use Rattle.mvcc_key.proofs.KeyFormatLaws.{in_range}

-- a timestamp by its numbers
abbrev pub at : ℕ → ℕ → Timestamp
at wall logical = record { wall = wall; logical = logical }

-- numbers in range
pub range_from : (wall logical : ℕ) → wall < 2 ^ 63 → logical < 2 ^ 31 → is_in_range (at wall logical) ≡ true
range_from wall logical p q = and_from _ _ (le-leb wall (2 ^ 63 - 1) (omega arith)) (le-leb logical (2 ^ 31 - 1) (omega arith))

-- the timestamp before one with a counter, and before one without
previous_counter : (wall logical : ℕ) → previous_time (at wall (logical + 1)) ≡ Some (at wall logical)
previous_counter wall logical =
    ap (λ (b : Bool). cond b (Some (at wall (logical + 1 - 1))) (cond (nat_lt 0 wall) (Some (at (wall - 1) max_logical)) None)) (lt-ltb 0 (logical + 1) (omega arith))
    ∙ ap (λ (n : ℕ). Some (at wall n)) (omega arith)

previous_wall : (wall : ℕ) → previous_time (at (wall + 1) 0) ≡ Some (at wall max_logical)
previous_wall wall =
    ap (λ (b : Bool). cond b (Some (at (wall + 1 - 1) max_logical)) None) (lt-ltb 0 (wall + 1) (omega arith))
    ∙ ap (λ (n : ℕ). Some (at n max_logical)) (omega arith)

-- the timestamp after one whose counter is not the last, and after one whose counter is
next_counter : (wall logical : ℕ) → logical < max_logical → next_time (at wall logical) ≡ Some (at wall (logical + 1))
next_counter wall logical lt =
    ap (λ (b : Bool). cond b (Some (at wall (logical + 1))) (cond (nat_lt wall max_wall) (Some (at (wall + 1) 0)) None)) (lt-ltb logical max_logical lt)

next_wall : (wall : ℕ) → wall < max_wall → next_time (at wall max_logical) ≡ Some (at (wall + 1) 0)
next_wall wall lt = ap (λ (b : Bool). cond b (Some (at (wall + 1) 0)) None) (lt-ltb wall max_wall lt)

-- how the timestamp after t comes about
data After (t u : Timestamp) : Type 0 where
  ByCounter : t.logical < max_logical → at t.wall (t.logical + 1) ≡ u → After t u
  ByWall : max_logical ≤ t.logical → t.wall < max_wall → at (t.wall + 1) 0 ≡ u → After t u

after : (t u : Timestamp) → next_time t ≡ Some u → After t u
after t u e = by (nat_lt t.logical max_logical) (nat_lt t.wall max_wall) refl refl e
  where
    by : (l w : Bool) → nat_lt t.logical max_logical ≡ l → nat_lt t.wall max_wall ≡ w
        → cond l (Some (at t.wall (t.logical + 1))) (cond w (Some (at (t.wall + 1) 0)) None) ≡ Some u → After t u
    by true w p q e = ByCounter (ltb-true _ _ p) cc
    by false true p q e = ByWall (ltb-false _ _ p) (ltb-true _ _ q) cc
    by false false p q e = absurd cc

-- how the timestamp before t comes about
data Before (t u : Timestamp) : Type 0 where
  FromCounter : 0 < t.logical → at t.wall (t.logical - 1) ≡ u → Before t u
  FromWall : t.logical ≡ 0 → 0 < t.wall → at (t.wall - 1) max_logical ≡ u → Before t u

before : (t u : Timestamp) → previous_time t ≡ Some u → Before t u
before t u e = by (nat_lt 0 t.logical) (nat_lt 0 t.wall) refl refl e
  where
    by : (l w : Bool) → nat_lt 0 t.logical ≡ l → nat_lt 0 t.wall ≡ w
        → cond l (Some (at t.wall (t.logical - 1))) (cond w (Some (at (t.wall - 1) max_logical)) None) ≡ Some u → Before t u
    by true w p q e = FromCounter (ltb-true _ _ p) cc
    by false true p q e = FromWall (let h = ltb-false _ _ p in omega arith) (ltb-true _ _ q) cc
    by false false p q e = absurd cc

-- equal numbers make equal timestamps
same : (wall logical wall' logical' : ℕ) → wall ≡ wall' → logical ≡ logical' → at wall logical ≡ at wall' logical'
same wall logical wall' logical' p q = λ i. at (p i) (q i)

pub next-undone : NextIsUndone
next-undone t u range e = by (after t u e)
  where
    by : After t u → (is_in_range u ≡ true) × (previous_time u ≡ Some t)
    by (ByCounter lt is) = rw (← is) (range_from t.wall (t.logical + 1) (in_range t range).0 (omega arith), previous_counter t.wall t.logical)
    by (ByWall le lt is) =
        let last : max_logical ≡ t.logical = (let h = (in_range t range).1 in omega arith) in
        rw (← is) (range_from (t.wall + 1) 0 (omega arith) (omega arith), previous_wall t.wall ∙ ap (λ (n : ℕ). Some (at t.wall n)) last)

pub previous-undone : PreviousIsUndone
previous-undone t u range e = by (before t u e)
  where
    by : Before t u → (is_in_range u ≡ true) × (next_time u ≡ Some t)
    by (FromCounter lt is) =
        let h = (in_range t range).1 in
        rw (← is) (
          range_from t.wall (t.logical - 1) (in_range t range).0 (omega arith),
          next_counter t.wall (t.logical - 1) (omega arith) ∙ ap (λ (n : ℕ). Some (at t.wall n)) (omega arith),
        )
    by (FromWall none lt is) =
        let h = (in_range t range).0 in
        rw (← is) (
          range_from (t.wall - 1) max_logical (omega arith) (omega arith),
          next_wall (t.wall - 1) (omega arith) ∙ ap (λ (s : Timestamp). Some s) (same _ _ _ _ (omega arith) (sym none)),
        )
