-- Steps on and back, and what is known of the parts after a move.
use Rattle.std.proofs.Common.{◌≡◌, ℕ, zero, suc, ◌+◌, ◌<◌, ◌≤◌, Bool, true, false, cond, List, [], ◌∷◌, ◌++◌, length, map, take, sum_by, count_by, refl, sym, ap, subst, ◌∙◌, arith}
use Rattle.std.specs.Prelude.{slice_get, Some, None, All, IsSome, nat_lt, nat_le, ◌&&◌}
use Rattle.std.specs.List.{AllByRecursion}
use Rattle.std.specs.declared.option.Option.{Option}
use Rattle.std.proofs.lemmas.Bool.{lt-ltb, le-leb, ltb-false}
use Rattle.std.proofs.lemmas.List.{length-map, nil_from_length}
use Rattle.std.proofs.lemmas.List.Elements.{recursion_from_All, All-from_recursion}
use Rattle.std.proofs.lemmas.List.Sums.{sum_by-cons}
use Rattle.std.specs.Borrow.{Bor}
use Rattle.mvcc_key.specs.Order.{Name}
use Rattle.mvcc_key.specs.Encoded.{name_in}
use Rattle.mvcc_key.specs.Points.{Point, IsRising, AreEncodable, point_at}
use Rattle.mvcc_key.proofs.PointLaws.{point_at-some, point_at-none}
use Rattle.mvcc_key.proofs.EachLaws.{All-at, All-from_places}
use Rattle.merge_cursor.specs.Merged.{joined, merged}
use Rattle.merge_cursor.specs.views.Standing.{Standing, lists_of, head, heads, head_of, cut_of, count_in, place_in, positioned, has_name, IsLeading, IsAligned, merged_place}
use Rattle.merge_cursor.specs.declared.moves.Move.TheVariants.{SeekGe, SeekLt, Next, Prev}
use Rattle.merge_cursor.specs.views.Moves.{moved, takes_look, is_at, passed, passing_looks, cut_past, cut_before}
use Rattle.merge_cursor.proofs.LeadingLaws.{head_of-past}
use Rattle.merge_cursor.proofs.CutLaws.{IsCut, count_in-below}
use Rattle.merge_cursor.proofs.MergedLaws.{merged-none}
use Rattle.merge_cursor.proofs.AlignLaws.{part_of, by_cut, Aligns, aligns}
use Rattle.merge_cursor.proofs.ShownLaws.{turned-on, turned-back, passed-on, passed-back, passed-counts, not_there, below, shown}

-- ---- the current point

-- where the number is that of the parts, no part is current
pub current-none : (parts : List Standing) (current n : ℕ) → n ≡ length parts → current ≡ n → head_of (heads parts) current ≡ None
current-none parts current n is at = head_of-past (heads parts) current (omega (arith, length-map parts head))

-- there is a point, or none
pub some_none : (o : Option Point) → o ≡ None → IsSome o → ⊥
some_none None h k = cc
some_none (Some p) h k = cc

-- ---- steps on

cut_past-back : (o : Option Point) → cut_past false o ≡ cut_of false o
cut_past-back None = refl
cut_past-back (Some p) = refl

cut_before-ahead : (o : Option Point) → cut_before true o ≡ cut_of true o
cut_before-ahead None = refl
cut_before-ahead (Some p) = refl

-- the parts turn from the way back
pub turns-on : (ahead : Bool) (parts : List Standing) (current : ℕ) → ahead ≡ false → IsAligned ahead parts current
    → map (moved Next) parts ≡ positioned true (cut_past ahead (head_of (heads parts) current)) parts
turns-on true parts current back s = absurd cc
turns-on false parts current back s =
    let same = cut_past-back (head_of (heads parts) current) in
    turned-on (cut_past false (head_of (heads parts) current)) parts
    (subst (λ (cut : Name → Bool). parts ≡ positioned false cut parts) (sym same) s.each)

-- the parts turn from the way on
pub turns-back : (ahead : Bool) (parts : List Standing) (current : ℕ) → ahead ≡ true → IsAligned ahead parts current
    → map (moved Prev) parts ≡ positioned false (cut_before ahead (head_of (heads parts) current)) parts
turns-back false parts current on s = absurd cc
turns-back true parts current on s =
    let same = cut_before-ahead (head_of (heads parts) current) in
    turned-back (cut_before true (head_of (heads parts) current)) parts
    (subst (λ (cut : Name → Bool). parts ≡ positioned true cut parts) (sym same) s.each)

-- where there is no current point the parts stay
pub stays-on : (ahead : Bool) (parts : List Standing) (current : ℕ) → ahead ≡ true → head_of (heads parts) current ≡ None → IsAligned ahead parts current
    → parts ≡ positioned true (cut_past ahead (head_of (heads parts) current)) parts
stays-on false parts current on none s = absurd cc
stays-on true parts current on none s =
    s.each ∙ ap (λ (o : Option Point). positioned true (cut_of true o) parts) none ∙ sym (ap (λ (o : Option Point). positioned true (cut_past true o) parts) none)

pub stays-back : (ahead : Bool) (parts : List Standing) (current : ℕ) → ahead ≡ false → head_of (heads parts) current ≡ None → IsAligned ahead parts current
    → parts ≡ positioned false (cut_before ahead (head_of (heads parts) current)) parts
stays-back true parts current back none s = absurd cc
stays-back false parts current back none s =
    s.each ∙ ap (λ (o : Option Point). positioned false (cut_of false o) parts) none ∙ sym (ap (λ (o : Option Point). positioned false (cut_before false o) parts) none)

-- the current name is left
pub leaves-on : (ahead : Bool) (parts : List Standing) (current : ℕ) (new : List Standing) → ahead ≡ true → AllByRecursion (λ s. IsRising s.points) parts
    → IsAligned ahead parts current → IsSome (head_of (heads parts) current)
    → ((p : Point) → head_of (heads parts) current ≡ Some p → new ≡ map (passed Next p.name) parts) → new ≡ positioned true (cut_past ahead (head_of (heads parts) current)) parts
leaves-on false parts current new on rising s some h = absurd cc
leaves-on true parts current new on rising s some h = by (head_of (heads parts) current) refl some
  where
    by : (o : Option Point) → head_of (heads parts) current ≡ o → IsSome o → new ≡ positioned true (cut_past true (head_of (heads parts) current)) parts
    by None at k = absurd cc
    by (Some p) at k =
        h p at
        ∙ passed-on p.name parts rising (s.each ∙ ap (λ (o : Option Point). positioned true (cut_of true o) parts) at)
        ∙ sym (ap (λ (o : Option Point). positioned true (cut_past true o) parts) at)

pub leaves-back : (ahead : Bool) (parts : List Standing) (current : ℕ) (new : List Standing) → ahead ≡ false → AllByRecursion (λ s. IsRising s.points) parts
    → IsAligned ahead parts current → IsSome (head_of (heads parts) current)
    → ((p : Point) → head_of (heads parts) current ≡ Some p → new ≡ map (passed Prev p.name) parts) → new ≡ positioned false (cut_before ahead (head_of (heads parts) current)) parts
leaves-back true parts current new back rising s some h = absurd cc
leaves-back false parts current new back rising s some h = by (head_of (heads parts) current) refl some
  where
    by : (o : Option Point) → head_of (heads parts) current ≡ o → IsSome o → new ≡ positioned false (cut_before false (head_of (heads parts) current)) parts
    by None at k = absurd cc
    by (Some p) at k =
        h p at
        ∙ passed-back p.name parts rising (s.each ∙ ap (λ (o : Option Point). positioned false (cut_of false o) parts) at)
        ∙ sym (ap (λ (o : Option Point). positioned false (cut_before false o) parts) at)

-- no newer part stands at the current name
pub none_newer : (ahead : Bool) (parts : List Standing) (current : ℕ) (p : Point) → IsAligned ahead parts current → head_of (heads parts) current ≡ Some p
    → All (λ s. is_at p.name (head s) ≡ false) (take current parts)
none_newer ahead parts current p s at =
    All-from_recursion (λ t. is_at p.name (head t) ≡ false) (take current parts)
    (All-from_places (λ t. is_at p.name (head t) ≡ false) (take current parts)
    (λ i t is. not_there p.name t (All-at (λ r. has_name p.name r.points ≡ false) (take current parts) i t (recursion_from_All (λ r. has_name p.name r.points ≡ false) (take current parts) (s.newest p at)) is)))

-- ---- looks

-- the looks of those that left it
pub leaves-looks : (ahead : Bool) (parts : List Standing) (current start after : ℕ) → ahead ≡ true → AllByRecursion (λ s. IsRising s.points) parts → IsAligned ahead parts current
    → IsSome (head_of (heads parts) current)
    → ((p : Point) → head_of (heads parts) current ≡ Some p → after ≤ start + sum_by (passing_looks Next p.name) parts)
    → after + sum_by (count_in (cut_of true (head_of (heads parts) current))) (lists_of parts) ≤ start + sum_by (count_in (cut_past true (head_of (heads parts) current))) (lists_of parts)
leaves-looks false parts current start after on rising s some h = absurd cc
leaves-looks true parts current start after on rising s some h = by (head_of (heads parts) current) refl some
  where
    by : (o : Option Point) → head_of (heads parts) current ≡ o → IsSome o
        → after + sum_by (count_in (cut_of true o)) (lists_of parts) ≤ start + sum_by (count_in (cut_past true o)) (lists_of parts)
    by None at k = absurd cc
    by (Some p) at k =
        let counts = passed-counts p.name parts rising (s.each ∙ ap (λ (o : Option Point). positioned true (cut_of true o) parts) at) in
        let looks = h p at in
        omega arith

-- where there is none no looks are taken
pub stays-looks : (parts : List Standing) (current start : ℕ) → head_of (heads parts) current ≡ None
    → start + sum_by (count_in (cut_of true (head_of (heads parts) current))) (lists_of parts) ≤ start + sum_by (count_in (cut_past true (head_of (heads parts) current))) (lists_of parts)
stays-looks parts current start none = rw none (omega arith)

-- ---- a look at least

-- a sum is above 0 where a part of it is
more_is_some : (n a b : ℕ) → n ≡ a + b → 0 < b → 0 < n
more_is_some n a b is some = omega arith

one_is_some : (n a b : ℕ) → n ≡ a + b → a ≡ 1 → 0 < n
one_is_some n a b is one = omega arith

-- one of the parts passes the test
count_some : (test : Standing → Bool) (parts : List Standing) (i : ℕ) (s : Standing) → slice_get parts i ≡ Some s → test s ≡ true → 0 < count_by test parts
count_some test [] i s at h = absurd cc
count_some test (t ∷ parts) zero s at h =
    let same : t ≡ s = cc in
    one_is_some _ (cond (test t) 1 0) (count_by test parts) (sum_by-cons (λ (r : Standing). cond (test r) 1 0) t parts) (ap (λ (b : Bool). cond b 1 0) (ap test same ∙ h))
count_some test (t ∷ parts) (suc i) s at h =
    more_is_some _ (cond (test t) 1 0) (count_by test parts) (sum_by-cons (λ (r : Standing). cond (test r) 1 0) t parts) (count_some test parts i s at h)

-- a part at a point is between the ends
between : (ps : List Point) (k : ℕ) (q : Point) → point_at ps k ≡ Some q → (nat_lt 0 k && nat_le k (length ps)) ≡ true
between ps k q at =
    let h = point_at-some ps k q at in
    ap (λ (b : Bool). b && nat_le k (length ps)) (lt-ltb 0 k h.0) ∙ le-leb k (length ps) h.1

-- where a point is current, a turn takes a look
pub turn-some : (parts : List Standing) (current : ℕ) → IsSome (head_of (heads parts) current)
    → (0 < count_by (λ s. takes_look Next s.points s.place) parts) × (0 < count_by (λ s. takes_look Prev s.points s.place) parts)
turn-some parts current some = by (head_of (heads parts) current) refl some
  where
    by : (o : Option Point) → head_of (heads parts) current ≡ o → IsSome o
        → (0 < count_by (λ s. takes_look Next s.points s.place) parts) × (0 < count_by (λ s. takes_look Prev s.points s.place) parts)
    by None at k = absurd cc
    by (Some q) at k =
        let part = part_of parts current q at in
        let inside = between part.0.points part.0.place q part.2 in (
          count_some (λ s. takes_look Next s.points s.place) parts current part.0 part.1 inside,
          count_some (λ s. takes_look Prev s.points s.place) parts current part.0 part.1 inside,
        )

-- where a point is current, its part stands between the ends
pub pass-some : (parts : List Standing) (current : ℕ) → IsSome (head_of (heads parts) current)
    → (s : Standing) × (slice_get parts current ≡ Some s) × ((nat_lt 0 s.place && nat_le s.place (length s.points)) ≡ true)
pass-some parts current some = by (head_of (heads parts) current) refl some
  where
    by : (o : Option Point) → head_of (heads parts) current ≡ o → IsSome o → (s : Standing) × (slice_get parts current ≡ Some s) × ((nat_lt 0 s.place && nat_le s.place (length s.points)) ≡ true)
    by None at k = absurd cc
    by (Some q) at k = let part = part_of parts current q at in (part.0, part.1, between part.0.points part.0.place q part.2)

-- where points are merged, a seek takes a look
pub seek-some : (parts : List Standing) → 0 < length (merged (lists_of parts)) → 0 < count_by (λ s. nat_lt 0 (length s.points)) parts
seek-some parts some = by (count_by (λ (s : Standing). nat_lt 0 (length s.points)) parts) refl
  where
    first : (b : Bool) (n : ℕ) → cond b 1 0 + n ≡ 0 → (b ≡ false) × (n ≡ 0)
    first true n h = absurd (omega arith)
    first false n h = (refl, omega arith)

    empty : (ss : List Standing) → count_by (λ (s : Standing). nat_lt 0 (length s.points)) ss ≡ 0 → joined (lists_of ss) ≡ []
    empty [] h = refl
    empty (s ∷ ss) h =
        let parts-of = first (nat_lt 0 (length s.points)) (count_by (λ (t : Standing). nat_lt 0 (length t.points)) ss) (sym (sum_by-cons (λ (t : Standing). cond (nat_lt 0 (length t.points)) 1 0) s ss) ∙ h) in
        let none : s.points ≡ [] = nil_from_length s.points (let le = ltb-false 0 (length s.points) parts-of.0 in omega arith) in
        ap (λ (ps : List Point). ps ++ joined (lists_of ss)) none ∙ empty ss parts-of.1

    by : (n : ℕ) → count_by (λ (s : Standing). nat_lt 0 (length s.points)) parts ≡ n → 0 < count_by (λ (s : Standing). nat_lt 0 (length s.points)) parts
    by zero is = absurd (let none : length (merged (lists_of parts)) ≡ 0 = ap length (merged-none (lists_of parts) (empty parts is)) in omega arith)
    by (suc n) is = omega arith

-- ---- after a move

lists-positioned : (ahead : Bool) (cut : Name → Bool) (parts : List Standing) → lists_of (positioned ahead cut parts) ≡ lists_of parts
lists-positioned ahead cut [] = refl
lists-positioned ahead cut (s ∷ parts) = ap (λ (ls : List (List Point)). s.points ∷ ls) (lists-positioned ahead cut parts)

positioned-twice : (ahead : Bool) (cut : Name → Bool) (parts : List Standing) → positioned ahead cut parts ≡ positioned ahead cut (positioned ahead cut parts)
positioned-twice ahead cut [] = refl
positioned-twice ahead cut (s ∷ parts) = ap (λ (ss : List Standing). by_cut ahead cut s ∷ ss) (positioned-twice ahead cut parts)

rising-positioned : (ahead : Bool) (cut : Name → Bool) (parts : List Standing) → AllByRecursion (λ s. IsRising s.points) parts → AllByRecursion (λ s. IsRising s.points) (positioned ahead cut parts)
rising-positioned ahead cut [] h = tt
rising-positioned ahead cut (s ∷ parts) h = (h.0, rising-positioned ahead cut parts h.1)

-- what is known once the parts stand by a cut, and which of them leads
pub record After (ahead : Bool) (cut : Name → Bool) (old new : List Standing) (current : ℕ) : Type 0 where
  pub lists : lists_of new ≡ lists_of old
  pub aligned : IsAligned ahead new current
  pub encodable : AreEncodable (merged (lists_of new))
  pub place : merged_place ahead new current ≡ place_in ahead cut (merged (lists_of old))
  pub counts : sum_by (count_in cut) (lists_of old) ≡ sum_by (count_in (cut_of ahead (head_of (heads new) current))) (lists_of old)

pub after : (ahead : Bool) (cut : Name → Bool) (old new : List Standing) (current : ℕ) → IsCut cut → AllByRecursion (λ s. IsRising s.points) old
    → AreEncodable (merged (lists_of old)) → new ≡ positioned ahead cut old → IsLeading ahead (heads new) current → After ahead cut old new current
after ahead cut old new current c rising e is leading =
    let lists : lists_of new ≡ lists_of old = ap lists_of is ∙ lists-positioned ahead cut old in
    let by_itself : new ≡ positioned ahead cut new = is ∙ positioned-twice ahead cut old ∙ ap (positioned ahead cut) (sym is) in
    let rises : AllByRecursion (λ s. IsRising s.points) new = subst (AllByRecursion (λ (s : Standing). IsRising s.points)) (sym is) (rising-positioned ahead cut old rising) in
    let s : Aligns ahead cut new current = aligns ahead cut new current c rises by_itself leading in
    record {
      lists = lists;
      aligned = s.aligned;
      encodable = subst (λ (ls : List (List Point)). AreEncodable (merged ls)) (sym lists) e;
      place = s.place ∙ ap (λ (ls : List (List Point)). place_in ahead cut (merged ls)) lists;
      counts = subst (λ (ls : List (List Point)). sum_by (count_in cut) ls ≡ sum_by (count_in (cut_of ahead (head_of (heads new) current))) ls) lists s.counts;
    }

-- all parts stand where they were sent
pub sought-ge : (key : Bor (List ℕ)) (parts : List Standing) → map (moved (SeekGe key)) parts ≡ positioned true (below (name_in key.now)) parts
sought-ge key [] = refl
sought-ge key (s ∷ parts) =
    ap (λ (n : ℕ). record { points = s.points; place = n + 1; is_part = s.is_part } ∷ map (moved (SeekGe key)) parts) (sym (count_in-below (name_in key.now) s.points))
    ∙ ap (λ (ss : List Standing). by_cut true (below (name_in key.now)) s ∷ ss) (sought-ge key parts)

pub sought-lt : (key : Bor (List ℕ)) (parts : List Standing) → map (moved (SeekLt key)) parts ≡ positioned false (below (name_in key.now)) parts
sought-lt key [] = refl
sought-lt key (s ∷ parts) =
    ap (λ (n : ℕ). record { points = s.points; place = n; is_part = s.is_part } ∷ map (moved (SeekLt key)) parts) (sym (count_in-below (name_in key.now) s.points))
    ∙ ap (λ (ss : List Standing). by_cut false (below (name_in key.now)) s ∷ ss) (sought-lt key parts)

-- a place between the ends has a current point
pub current-some : (ahead : Bool) (parts : List Standing) (current : ℕ) → AllByRecursion (λ s. IsRising s.points) parts → IsAligned ahead parts current
    → 0 < merged_place ahead parts current → merged_place ahead parts current ≤ length (merged (lists_of parts)) → IsSome (head_of (heads parts) current)
current-some ahead parts current rising s low high = by (head_of (heads parts) current) (shown ahead parts current rising s)
  where
    by : (o : Option Point) → point_at (merged (lists_of parts)) (merged_place ahead parts current) ≡ o → IsSome o
    by None at = absurd (let past = point_at-none (merged (lists_of parts)) (merged_place ahead parts current) at low in omega arith)
    by (Some p) at = refl
