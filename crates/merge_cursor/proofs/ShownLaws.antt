-- What aligned parts show, and where they stand after a move.
use Rattle.std.proofs.Common.{◌≡◌, ℕ, zero, suc, ◌+◌, ◌-◌, Bool, true, false, cond, List, [], ◌∷◌, length, map, take, sum_by, min, refl, sym, ap, subst, ◌∙◌, arith}
use Rattle.std.specs.Prelude.{slice_get, Some, None, ◌||◌}
use Rattle.std.specs.List.{AllByRecursion}
use Rattle.std.specs.declared.option.Option.{Option}
use Rattle.std.specs.declared.cmp.Ordering.{Ordering}
use Rattle.std.specs.declared.cmp.Ordering.TheVariants.{Less, Equal, Greater}
use Rattle.std.specs.Ordering.{is_lt, is_le, is_eq}
use Rattle.std.proofs.lemmas.Option.{slice_get_past}
use Rattle.std.proofs.lemmas.List.Sums.{sum_by-cons}
use Rattle.std.proofs.lemmas.List.Elements.{recursion_from_All}
use Rattle.mvcc_key.specs.Order.{Name, name_cmp, is_same_name}
use Rattle.mvcc_key.specs.Points.{Point, IsRising, point_at}
use Rattle.mvcc_key.proofs.PointLaws.{point_at-next}
use Rattle.mvcc_key.proofs.EachLaws.{All-at, All-from_places}
use Rattle.merge_cursor.specs.Merged.{merged}
use Rattle.merge_cursor.specs.views.Standing.{Standing, standings, lists_of, head, heads, head_of, cut_of, count_in, place_in, positioned, has_name, IsAligned, merged_place}
use Rattle.merge_cursor.specs.declared.moves.Move.TheVariants.{Next, Prev}
use Rattle.merge_cursor.specs.views.Moves.{moved, is_at, passed, passing_looks, cut_past, cut_before}
use Rattle.merge_cursor.proofs.OrderLaws.{is_same_name-one}
use Rattle.merge_cursor.proofs.LeadingLaws.{refused}
use Rattle.merge_cursor.proofs.CutLaws.{count_in-le, count_in-all, count_in-none, count_in-agree}
use Rattle.merge_cursor.proofs.MergedLaws.{point_of-rising, point_of-first, IsThere, there-at, there-merged}
use Rattle.merge_cursor.proofs.AlignLaws.{part_of, placed-at}

-- the parts' points rise
pub rising-standings : {X : Type 0} (points : X → List Point) (place : X → ℕ) (is_part : X → Bool) (parts : List X) → ((x : X) → IsRising (points x))
    → AllByRecursion (λ s. IsRising s.points) (standings points place is_part parts)
rising-standings points place is_part [] h = tt
rising-standings points place is_part (x ∷ parts) h = (h x, rising-standings points place is_part parts h)

-- a point at a place is one of the points
slice_of : (ps : List Point) (k : ℕ) (q : Point) → point_at ps k ≡ Some q → (n : ℕ) × (k ≡ n + 1) × (slice_get ps n ≡ Some q)
slice_of ps zero q at = absurd cc
slice_of ps (suc n) q at = (n, omega arith, sym (point_at-next ps n) ∙ ap (point_at ps) (omega arith) ∙ at)

-- ---- what is shown

-- the current point is there among the merged ones
pub aligned-there : (ahead : Bool) (parts : List Standing) (current : ℕ) (q : Point) → AllByRecursion (λ s. IsRising s.points) parts → IsAligned ahead parts current
    → head_of (heads parts) current ≡ Some q → IsThere q (merged (lists_of parts))
aligned-there ahead parts current q rising s at =
    let part = part_of parts current q at in
    let place = slice_of part.0.points part.0.place q part.2 in
    let first = point_of-rising part.0.points place.0 q (All-at (λ t. IsRising t.points) parts current part.0 rising part.1) place.2 in
    there-merged q (lists_of parts)
    (point_of-first q.name q parts current part.0 part.1 (recursion_from_All (λ t. has_name q.name t.points ≡ false) (take current parts) (s.newest q at)) first)

-- the merged point at the merged place is the current one
pub shown : (ahead : Bool) (parts : List Standing) (current : ℕ) → AllByRecursion (λ s. IsRising s.points) parts → IsAligned ahead parts current
    → point_at (merged (lists_of parts)) (merged_place ahead parts current) ≡ head_of (heads parts) current
shown ahead parts current rising s = by ahead (head_of (heads parts) current) (λ q at. aligned-there ahead parts current q rising s at)
  where
    by : (on : Bool) (o : Option Point) → ((q : Point) → o ≡ Some q → IsThere q (merged (lists_of parts)))
        → point_at (merged (lists_of parts)) (place_in on (cut_of on o) (merged (lists_of parts))) ≡ o
    by true None there =
        point_at-next (merged (lists_of parts)) (count_in (λ _. true) (merged (lists_of parts)))
        ∙ slice_get_past (merged (lists_of parts)) (count_in (λ _. true) (merged (lists_of parts))) (omega (arith, count_in-all (merged (lists_of parts))))
    by false None there = ap (point_at (merged (lists_of parts))) (count_in-none (merged (lists_of parts)))
    by true (Some q) there = point_at-next (merged (lists_of parts)) (count_in (λ m. is_lt (name_cmp m q.name)) (merged (lists_of parts))) ∙ (there q refl).here
    by false (Some q) there =
        ap (point_at (merged (lists_of parts))) ((there q refl).next ∙ omega arith)
        ∙ point_at-next (merged (lists_of parts)) (count_in (λ m. is_lt (name_cmp m q.name)) (merged (lists_of parts))) ∙ (there q refl).here

-- ---- the merged place after a move

pub place-on : (ahead : Bool) (parts : List Standing) (current : ℕ) → AllByRecursion (λ s. IsRising s.points) parts → IsAligned ahead parts current
    → place_in true (cut_past ahead (head_of (heads parts) current)) (merged (lists_of parts)) ≡ min (merged_place ahead parts current + 1) (length (merged (lists_of parts)) + 1)
place-on ahead parts current rising s = by ahead (head_of (heads parts) current) (λ q at. aligned-there ahead parts current q rising s at)
  where
    by : (on : Bool) (o : Option Point) → ((q : Point) → o ≡ Some q → IsThere q (merged (lists_of parts)))
        → place_in true (cut_past on o) (merged (lists_of parts)) ≡ min (place_in on (cut_of on o) (merged (lists_of parts)) + 1) (length (merged (lists_of parts)) + 1)
    by true None there = omega (arith, count_in-all (merged (lists_of parts)))
    by false None there = omega (arith, count_in-none (merged (lists_of parts)))
    by true (Some q) there = omega (arith, (there q refl).next, count_in-le (λ m. is_le (name_cmp m q.name)) (merged (lists_of parts)))
    by false (Some q) there = omega (arith, count_in-le (λ m. is_le (name_cmp m q.name)) (merged (lists_of parts)))

pub place-back : (ahead : Bool) (parts : List Standing) (current : ℕ) → AllByRecursion (λ s. IsRising s.points) parts → IsAligned ahead parts current
    → place_in false (cut_before ahead (head_of (heads parts) current)) (merged (lists_of parts)) ≡ merged_place ahead parts current - 1
place-back ahead parts current rising s = by ahead (head_of (heads parts) current) (λ q at. aligned-there ahead parts current q rising s at)
  where
    by : (on : Bool) (o : Option Point) → ((q : Point) → o ≡ Some q → IsThere q (merged (lists_of parts)))
        → place_in false (cut_before on o) (merged (lists_of parts)) ≡ place_in on (cut_of on o) (merged (lists_of parts)) - 1
    by true None there = omega arith
    by false None there = omega (arith, count_in-none (merged (lists_of parts)))
    by true (Some q) there = omega arith
    by false (Some q) there = omega (arith, (there q refl).next)

-- ---- the parts after a turn

-- a change of each part
each_changed : (f g : Standing → Standing) (parts : List Standing) → ((i : ℕ) (s : Standing) → slice_get parts i ≡ Some s → f s ≡ g s) → map f parts ≡ map g parts
each_changed f g [] h = refl
each_changed f g (s ∷ parts) h = ap (λ (t : Standing). t ∷ map f parts) (h 0 s refl) ∙ ap (λ (ts : List Standing). g s ∷ ts) (each_changed f g parts (λ i t is. h (suc i) t is))

-- a part at a place
abbrev put_at : Standing → ℕ → Standing
put_at s k = record { points = s.points; place = k; is_part = s.is_part }

at_place : (s : Standing) (k n : ℕ) → k ≡ n → put_at s k ≡ put_at s n
at_place s k n h = ap (put_at s) h

-- parts that stood on the way back turn
pub turned-on : (cut : Name → Bool) (parts : List Standing) → parts ≡ positioned false cut parts → map (moved Next) parts ≡ positioned true cut parts
turned-on cut parts is =
    each_changed (moved Next) (λ s. put_at s (place_in true cut s.points)) parts
    (λ i s at. at_place s (min (s.place + 1) (length s.points + 1)) (count_in cut s.points + 1)
    (let here : s.place ≡ count_in cut s.points = placed-at false cut parts i s is at in omega (arith, count_in-le cut s.points)))

-- parts that stood on the way on turn
pub turned-back : (cut : Name → Bool) (parts : List Standing) → parts ≡ positioned true cut parts → map (moved Prev) parts ≡ positioned false cut parts
turned-back cut parts is =
    each_changed (moved Prev) (λ s. put_at s (place_in false cut s.points)) parts
    (λ i s at. at_place s (s.place - 1) (count_in cut s.points)
    (let here : s.place ≡ count_in cut s.points + 1 = placed-at true cut parts i s is at in omega arith))

-- ---- the parts after they left a name

-- names below one, and up to it
abbrev pub below : Name → Name → Bool
below n m = is_lt (name_cmp m n)

abbrev pub up_to : Name → Name → Bool
up_to n m = is_le (name_cmp m n)

-- for other names it is the same
below_is_up_to : (n m : Name) → is_same_name m n ≡ false → up_to n m ≡ below n m
below_is_up_to n m h = by (name_cmp m n) h
  where
    by : (o : Ordering) → is_eq o ≡ false → is_le o ≡ is_lt o
    by Less k = refl
    by Equal k = absurd cc
    by Greater k = refl

-- where a list has the name, one more stands up to it than below it
more_there : (n : Name) (ps : List Point) (i : ℕ) (t : Point) → IsRising ps → slice_get ps i ≡ Some t → is_same_name t.name n ≡ true
    → (count_in (up_to n) ps ≡ count_in (below n) ps + 1) × (slice_get ps (count_in (below n) ps) ≡ Some t)
more_there n ps i t rising at same =
    let h = there-at t ps i rising at in
    let name : t.name ≡ n = is_same_name-one t.name n same in
    let P : Name → Type 0 = λ m. (count_in (up_to m) ps ≡ count_in (below m) ps + 1) × (slice_get ps (count_in (below m) ps) ≡ Some t) in
    subst P name (h.next ∙ omega arith, h.here)

-- where it does not have it they are the same
same_else : (n : Name) (ps : List Point) → ((i : ℕ) (t : Point) → slice_get ps i ≡ Some t → is_same_name t.name n ≡ false) → count_in (up_to n) ps ≡ count_in (below n) ps
same_else n ps h = count_in-agree (up_to n) (below n) ps (All-from_places (λ t. up_to n t.name ≡ below n t.name) ps (λ i t at. below_is_up_to n t.name (h i t at)))

-- a test does not both hold and fail
clash : (b : Bool) → b ≡ true → b ≡ false → ⊥
clash b h k = cc

-- how many more, by the point in front of those below, or the last of those up to it
counts-front : (n : Name) (ps : List Point) → IsRising ps → count_in (up_to n) ps ≡ count_in (below n) ps + cond (is_at n (point_at ps (count_in (below n) ps + 1))) 1 0
counts-front n ps rising = by (point_at ps (count_in (below n) ps + 1)) refl
  where
    none : is_at n (point_at ps (count_in (below n) ps + 1)) ≡ false → (i : ℕ) (t : Point) → slice_get ps i ≡ Some t → is_same_name t.name n ≡ false
    none not i t at =
        refused (is_same_name t.name n)
        (λ yes. clash _ (ap (is_at n) (point_at-next ps (count_in (below n) ps) ∙ (more_there n ps i t rising at yes).1) ∙ yes) not)

    by : (o : Option Point) → point_at ps (count_in (below n) ps + 1) ≡ o → count_in (up_to n) ps ≡ count_in (below n) ps + cond (is_at n o) 1 0
    by None at = same_else n ps (none (ap (is_at n) at)) ∙ omega arith
    by (Some t) at = which (is_same_name t.name n) refl
      where
        which : (b : Bool) → is_same_name t.name n ≡ b → count_in (up_to n) ps ≡ count_in (below n) ps + cond b 1 0
        which true same = (more_there n ps (count_in (below n) ps) t rising (sym (point_at-next ps (count_in (below n) ps)) ∙ at) same).0
        which false same = same_else n ps (none (ap (is_at n) at ∙ same)) ∙ omega arith

counts-last : (n : Name) (ps : List Point) → IsRising ps → count_in (up_to n) ps ≡ count_in (below n) ps + cond (is_at n (point_at ps (count_in (up_to n) ps))) 1 0
counts-last n ps rising = by (point_at ps (count_in (up_to n) ps)) refl
  where
    none : is_at n (point_at ps (count_in (up_to n) ps)) ≡ false → (i : ℕ) (t : Point) → slice_get ps i ≡ Some t → is_same_name t.name n ≡ false
    none not i t at =
        refused (is_same_name t.name n)
        (λ yes. clash _ (ap (is_at n) (ap (point_at ps) (more_there n ps i t rising at yes).0 ∙ point_at-next ps (count_in (below n) ps) ∙ (more_there n ps i t rising at yes).1) ∙ yes) not)

    by : (o : Option Point) → point_at ps (count_in (up_to n) ps) ≡ o → count_in (up_to n) ps ≡ count_in (below n) ps + cond (is_at n o) 1 0
    by None at = same_else n ps (none (ap (is_at n) at)) ∙ omega arith
    by (Some t) at = which (is_same_name t.name n) refl
      where
        which : (b : Bool) → is_same_name t.name n ≡ b → count_in (up_to n) ps ≡ count_in (below n) ps + cond b 1 0
        which true same = let place = slice_of ps (count_in (up_to n) ps) t at in (more_there n ps place.0 t rising place.2 same).0
        which false same = same_else n ps (none (ap (is_at n) at ∙ same)) ∙ omega arith

-- the current name is left behind on the way on
pub passed-on : (n : Name) (parts : List Standing) → AllByRecursion (λ s. IsRising s.points) parts → parts ≡ positioned true (below n) parts
    → map (passed Next n) parts ≡ positioned true (up_to n) parts
passed-on n parts rising is =
    each_changed (passed Next n) (λ s. put_at s (place_in true (up_to n) s.points)) parts
    (λ i s at. by s (placed-at true (below n) parts i s is at) (All-at (λ t. IsRising t.points) parts i s rising at))
  where
    by : (s : Standing) → s.place ≡ count_in (below n) s.points + 1 → IsRising s.points
        → passed Next n s ≡ put_at s (count_in (up_to n) s.points + 1)
    by s here r = which (is_at n (head s)) (counts-front n s.points r ∙ ap (λ (k : ℕ). count_in (below n) s.points + cond (is_at n (point_at s.points k)) 1 0) (sym here))
      where
        which : (b : Bool) → count_in (up_to n) s.points ≡ count_in (below n) s.points + cond b 1 0
            → cond b (moved Next s) s ≡ put_at s (count_in (up_to n) s.points + 1)
        which true more = at_place s (min (s.place + 1) (length s.points + 1)) (count_in (up_to n) s.points + 1) (omega (arith, count_in-le (up_to n) s.points))
        which false more = at_place s s.place (count_in (up_to n) s.points + 1) (omega arith)

-- it is left on the way back
pub passed-back : (n : Name) (parts : List Standing) → AllByRecursion (λ s. IsRising s.points) parts → parts ≡ positioned false (up_to n) parts
    → map (passed Prev n) parts ≡ positioned false (below n) parts
passed-back n parts rising is =
    each_changed (passed Prev n) (λ s. put_at s (place_in false (below n) s.points)) parts
    (λ i s at. by s (placed-at false (up_to n) parts i s is at) (All-at (λ t. IsRising t.points) parts i s rising at))
  where
    by : (s : Standing) → s.place ≡ count_in (up_to n) s.points → IsRising s.points
        → passed Prev n s ≡ put_at s (count_in (below n) s.points)
    by s here r = which (is_at n (head s)) (counts-last n s.points r ∙ ap (λ (k : ℕ). count_in (below n) s.points + cond (is_at n (point_at s.points k)) 1 0) (sym here))
      where
        which : (b : Bool) → count_in (up_to n) s.points ≡ count_in (below n) s.points + cond b 1 0
            → cond b (moved Prev s) s ≡ put_at s (count_in (below n) s.points)
        which true more = at_place s (s.place - 1) (count_in (below n) s.points) (omega arith)
        which false more = at_place s s.place (count_in (below n) s.points) (omega arith)

-- the looks of those that left it are the points that are behind in addition
pub passed-counts : (n : Name) (parts : List Standing) → AllByRecursion (λ s. IsRising s.points) parts → parts ≡ positioned true (below n) parts
    → sum_by (count_in (below n)) (lists_of parts) + sum_by (passing_looks Next n) parts ≡ sum_by (count_in (up_to n)) (lists_of parts)
passed-counts n parts rising is = all parts (λ i s at. more i s at)
  where
    more : (i : ℕ) (s : Standing) → slice_get parts i ≡ Some s → count_in (up_to n) s.points ≡ count_in (below n) s.points + passing_looks Next n s
    more i s at =
        counts-front n s.points (All-at (λ t. IsRising t.points) parts i s rising at)
        ∙ ap (λ (k : ℕ). count_in (below n) s.points + cond (is_at n (point_at s.points k)) 1 0) (sym (placed-at true (below n) parts i s is at))

    all : (ss : List Standing) → ((i : ℕ) (s : Standing) → slice_get ss i ≡ Some s → count_in (up_to n) s.points ≡ count_in (below n) s.points + passing_looks Next n s)
        → sum_by (count_in (below n)) (lists_of ss) + sum_by (passing_looks Next n) ss ≡ sum_by (count_in (up_to n)) (lists_of ss)
    all [] h = refl
    all (s ∷ ss) h =
        let rest = all ss (λ i t at. h (suc i) t at) in
        let a = sum_by-cons (count_in (below n)) s.points (lists_of ss) in
        let b = sum_by-cons (passing_looks Next n) s ss in
        let c = sum_by-cons (count_in (up_to n)) s.points (lists_of ss) in
        let one = h 0 s refl in
        omega arith

-- where neither of two tests holds
neither : (a b : Bool) → (a || b) ≡ false → (a ≡ false) × (b ≡ false)
neither true b h = absurd cc
neither false b h = (refl, h)

-- a list without the name does not stand at it
pub not_there : (n : Name) (s : Standing) → has_name n s.points ≡ false → is_at n (head s) ≡ false
not_there n s h = by (point_at s.points s.place) refl
  where
    each : (ps : List Point) (i : ℕ) (t : Point) → has_name n ps ≡ false → slice_get ps i ≡ Some t → is_same_name t.name n ≡ false
    each [] i t k at = absurd cc
    each (p ∷ ps) zero t k at = (let same : p ≡ t = cc in rw (← same) (neither (is_same_name p.name n) (has_name n ps) k).0)
    each (p ∷ ps) (suc i) t k at = each ps i t (neither (is_same_name p.name n) (has_name n ps) k).1 at

    by : (o : Option Point) → point_at s.points s.place ≡ o → is_at n o ≡ false
    by None at = refl
    by (Some t) at = let place = slice_of s.points s.place t at in each s.points place.0 t h place.2
