-- Parts that stand by one cut, once it is known which of them leads.
use Rattle.std.proofs.Common.{◌≡◌, ℕ, zero, suc, ◌+◌, ◌<◌, Bool, true, false, List, [], ◌∷◌, take, sum_by, refl, sym, ap, subst, ◌∙◌, arith}
use Rattle.std.specs.Prelude.{slice_get, Some, None}
use Rattle.std.specs.List.{AllByRecursion}
use Rattle.std.specs.Option.{option_map, option_and_then}
use Rattle.std.specs.declared.option.Option.{Option}
use Rattle.std.proofs.lemmas.Option.{slice_get-map}
use Rattle.std.proofs.lemmas.List.{length-map}
use Rattle.std.proofs.lemmas.List.Elements.{All-from_recursion}
use Rattle.std.proofs.lemmas.List.Sums.{sum_by-cons}
use Rattle.mvcc_key.specs.Order.{Name, is_same_name}
use Rattle.mvcc_key.specs.Points.{Point, IsRising, point_at}
use Rattle.mvcc_key.proofs.EachLaws.{All-at, All-from_places}
use Rattle.merge_cursor.specs.Merged.{merged}
use Rattle.merge_cursor.specs.views.Standing.{Standing, lists_of, head, heads, head_of, cut_of, count_in, place_in, positioned, leads, IsLeading, has_name, IsAligned, merged_place}
use Rattle.merge_cursor.proofs.CutLaws.{IsCut, IsFront, IsLast, front-at, last-at, count_in-agree}
use Rattle.merge_cursor.proofs.AgreeLaws.{InFront, IsBehind, agree-front, agree-last, lacks-front, lacks-last}
use Rattle.merge_cursor.proofs.MergedLaws.{each-merged}

-- ---- on either way

-- the point next to the cut
abbrev pub IsEdge : Bool → (Name → Bool) → Option Point → List Point → Type 0
IsEdge true cut o ps = IsFront cut o ps
IsEdge false cut o ps = IsLast cut o ps

-- the point that leads lies on its side of the cut
abbrev pub IsBest : Bool → (Name → Bool) → Option Point → Type 0
IsBest true cut o = InFront cut o
IsBest false cut o = IsBehind cut o

edge-at : (ahead : Bool) (cut : Name → Bool) (ps : List Point) (o : Option Point) → IsCut cut → IsRising ps → point_at ps (place_in ahead cut ps) ≡ o → IsEdge ahead cut o ps
edge-at true cut ps o c rising at = front-at cut ps o c rising at
edge-at false cut ps o c rising at = last-at cut ps o c rising at

edge-best : (ahead : Bool) (cut : Name → Bool) (q : Point) (ps : List Point) → IsEdge ahead cut (Some q) ps → IsBest ahead cut (Some q)
edge-best true cut q ps e = e.0
edge-best false cut q ps e = e.0

best-none : (ahead : Bool) (cut : Name → Bool) → IsBest ahead cut None
best-none true cut = tt
best-none false cut = tt

agree : (ahead : Bool) (cut : Name → Bool) (best h : Option Point) (ps : List Point) → IsCut cut → IsBest ahead cut best → IsEdge ahead cut h ps → leads ahead h best ≡ false
    → (i : ℕ) (r : Point) → slice_get ps i ≡ Some r → cut r.name ≡ cut_of ahead best r.name
agree true cut best h ps c b e l = agree-front cut best h ps c b e l
agree false cut best h ps c b e l = agree-last cut best h ps c b e l

lacks : (ahead : Bool) (cut : Name → Bool) (q : Point) (h : Option Point) (ps : List Point) → IsBest ahead cut (Some q) → IsEdge ahead cut h ps → leads ahead h (Some q) ≡ false
    → ((t : Point) → h ≡ Some t → is_same_name t.name q.name ≡ false) → (i : ℕ) (r : Point) → slice_get ps i ≡ Some r → is_same_name r.name q.name ≡ false
lacks true cut q h ps b e l other = lacks-front cut q h ps b e l other
lacks false cut q h ps b e l other = lacks-last cut q h ps b e l other

-- ---- parts by their numbers

-- the point at which a part of a number stands
pub head_of-at : (parts : List Standing) (i : ℕ) (s : Standing) → slice_get parts i ≡ Some s → head_of (heads parts) i ≡ head s
head_of-at parts i s at = ap (option_and_then (λ p. p)) (slice_get-map head parts i) ∙ ap (λ (o : Option Standing). option_and_then (λ p. p) (option_map head o)) at

-- the part that stands at a point
pub part_of : (parts : List Standing) (i : ℕ) (q : Point) → head_of (heads parts) i ≡ Some q → (s : Standing) × (slice_get parts i ≡ Some s) × (head s ≡ Some q)
part_of parts i q h = by (slice_get parts i) refl (sym (ap (option_and_then (λ p. p)) (slice_get-map head parts i)) ∙ h)
  where
    by : (o : Option Standing) → slice_get parts i ≡ o → option_and_then (λ p. p) (option_map head o) ≡ Some q → (s : Standing) × (slice_get parts i ≡ Some s) × (head s ≡ Some q)
    by None at k = absurd cc
    by (Some s) at k = (s, at, k)

-- a part that stands by a cut
abbrev pub by_cut : Bool → (Name → Bool) → Standing → Standing
by_cut ahead cut s = record { points = s.points; place = place_in ahead cut s.points; is_part = s.is_part }

-- each of the parts stands by the cut
pub placed-at : (ahead : Bool) (cut : Name → Bool) (parts : List Standing) (i : ℕ) (s : Standing) → parts ≡ positioned ahead cut parts → slice_get parts i ≡ Some s
    → s.place ≡ place_in ahead cut s.points
placed-at ahead cut parts i s is at =
    let same : Some s ≡ Some (by_cut ahead cut s) = sym at ∙ ap (λ (ss : List Standing). slice_get ss i) is ∙ slice_get-map (by_cut ahead cut) parts i ∙ ap (option_map (by_cut ahead cut)) at in
    let one : s ≡ by_cut ahead cut s = cc in
    ap (λ (t : Standing). t.place) one

-- ---- cuts that agree

place_in-agree : (ahead : Bool) (cut other : Name → Bool) (ps : List Point) → count_in cut ps ≡ count_in other ps → place_in ahead cut ps ≡ place_in ahead other ps
place_in-agree true cut other ps h = ap (λ (n : ℕ). n + 1) h
place_in-agree false cut other ps h = h

-- cuts that agree on each point of each part
abbrev pub AgreeOn : (Name → Bool) → (Name → Bool) → List Standing → Type 0
AgreeOn cut other parts = AllByRecursion (λ s. AllByRecursion (λ r. cut r.name ≡ other r.name) s.points) parts

pub positioned-agree : (ahead : Bool) (cut other : Name → Bool) (parts : List Standing) → AgreeOn cut other parts → positioned ahead cut parts ≡ positioned ahead other parts
positioned-agree ahead cut other [] h = refl
positioned-agree ahead cut other (s ∷ parts) h =
    ap (λ (n : ℕ). record { points = s.points; place = n; is_part = s.is_part } ∷ positioned ahead cut parts)
    (place_in-agree ahead cut other s.points (count_in-agree cut other s.points h.0))
    ∙ ap (λ (ss : List Standing). by_cut ahead other s ∷ ss) (positioned-agree ahead cut other parts h.1)

pub counts-agree : (cut other : Name → Bool) (parts : List Standing) → AgreeOn cut other parts → sum_by (count_in cut) (lists_of parts) ≡ sum_by (count_in other) (lists_of parts)
counts-agree cut other [] h = refl
counts-agree cut other (s ∷ parts) h =
    sum_by-cons (count_in cut) s.points (lists_of parts)
    ∙ ap (λ (n : ℕ). n + sum_by (count_in cut) (lists_of parts)) (count_in-agree cut other s.points h.0)
    ∙ ap (λ (n : ℕ). count_in other s.points + n) (counts-agree cut other parts h.1)
    ∙ sym (sum_by-cons (count_in other) s.points (lists_of parts))

lists-agree : (cut other : Name → Bool) (parts : List Standing) → AgreeOn cut other parts → AllByRecursion (AllByRecursion (λ r. cut r.name ≡ other r.name)) (lists_of parts)
lists-agree cut other [] h = tt
lists-agree cut other (s ∷ parts) h = (h.0, lists-agree cut other parts h.1)

pub merged-agree : (ahead : Bool) (cut other : Name → Bool) (parts : List Standing) → AgreeOn cut other parts
    → place_in ahead cut (merged (lists_of parts)) ≡ place_in ahead other (merged (lists_of parts))
merged-agree ahead cut other parts h =
    place_in-agree ahead cut other (merged (lists_of parts))
    (count_in-agree cut other (merged (lists_of parts)) (each-merged (λ r. cut r.name ≡ other r.name) (lists_of parts) (lists-agree cut other parts h)))

-- ---- aligned

-- what is known once the leading part is
pub record Aligns (ahead : Bool) (cut : Name → Bool) (parts : List Standing) (current : ℕ) : Type 0 where
  pub aligned : IsAligned ahead parts current
  pub place : merged_place ahead parts current ≡ place_in ahead cut (merged (lists_of parts))
  pub counts : sum_by (count_in cut) (lists_of parts) ≡ sum_by (count_in (cut_of ahead (head_of (heads parts) current))) (lists_of parts)

lacks_name : (name : Name) (ps : List Point) → ((i : ℕ) (r : Point) → slice_get ps i ≡ Some r → is_same_name r.name name ≡ false) → has_name name ps ≡ false
lacks_name name [] h = refl
lacks_name name (p ∷ ps) h = rw (h 0 p refl) (lacks_name name ps (λ i r is. h (suc i) r is))

-- the element at a place of the front
front_at : {X : Type 0} (xs : List X) (n i : ℕ) (x : X) → slice_get (take n xs) i ≡ Some x → (i < n) × (slice_get xs i ≡ Some x)
front_at [] zero i x is = absurd cc
front_at [] (suc n) i x is = absurd cc
front_at (y ∷ ys) zero i x is = absurd cc
front_at (y ∷ ys) (suc n) zero x is = (omega arith, is)
front_at (y ∷ ys) (suc n) (suc i) x is = let rest = front_at ys n i x is in (omega (arith, rest.0), rest.1)

-- parts that stand by a cut are aligned where the leading one is known
pub aligns : (ahead : Bool) (cut : Name → Bool) (parts : List Standing) (current : ℕ) → IsCut cut → AllByRecursion (λ s. IsRising s.points) parts
    → parts ≡ positioned ahead cut parts → IsLeading ahead (heads parts) current → Aligns ahead cut parts current
aligns ahead cut parts current c rising is leading = record {
  aligned = record {
    within = (let long = length-map parts head in let w = leading.within in omega arith);
    some = λ lt. leading.some (let long = length-map parts head in omega arith);
    each = is ∙ positioned-agree ahead cut (cut_of ahead best) parts agreed;
    newest = λ p at. All-from_recursion (λ s. has_name p.name s.points ≡ false) (take current parts) (All-from_places (λ s. has_name p.name s.points ≡ false) (take current parts) (newer p at));
  };
  place = sym (merged-agree ahead cut (cut_of ahead best) parts agreed);
  counts = counts-agree cut (cut_of ahead best) parts agreed;
}
  where
    best : Option Point
    best = head_of (heads parts) current

    edge : (i : ℕ) (s : Standing) → slice_get parts i ≡ Some s → IsEdge ahead cut (head s) s.points
    edge i s at =
        edge-at ahead cut s.points (head s) c (All-at (λ t. IsRising t.points) parts i s rising at)
        (ap (point_at s.points) (sym (placed-at ahead cut parts i s is at)))

    on_side : (o : Option Point) → head_of (heads parts) current ≡ o → IsBest ahead cut o
    on_side None at = best-none ahead cut
    on_side (Some q) at =
        let part = part_of parts current q at in
        edge-best ahead cut q part.0.points (subst (λ (o : Option Point). IsEdge ahead cut o part.0.points) part.2 (edge current part.0 part.1))

    not_before : (i : ℕ) (s : Standing) → slice_get parts i ≡ Some s → leads ahead (head s) (head_of (heads parts) current) ≡ false
    not_before i s at = ap (λ (o : Option Point). leads ahead o (head_of (heads parts) current)) (sym (head_of-at parts i s at)) ∙ leading.least i

    agreed : AgreeOn cut (cut_of ahead (head_of (heads parts) current)) parts
    agreed =
        All-from_places (λ s. AllByRecursion (λ r. cut r.name ≡ cut_of ahead (head_of (heads parts) current) r.name) s.points) parts
        (λ i s at. All-from_places (λ r. cut r.name ≡ cut_of ahead (head_of (heads parts) current) r.name) s.points
        (agree ahead cut (head_of (heads parts) current) (head s) s.points c (on_side (head_of (heads parts) current) refl) (edge i s at) (not_before i s at)))

    newer : (p : Point) → head_of (heads parts) current ≡ Some p → (i : ℕ) (s : Standing) → slice_get (take current parts) i ≡ Some s → has_name p.name s.points ≡ false
    newer p here i s at =
        let front = front_at parts current i s at in
        lacks_name p.name s.points
        (lacks ahead cut p (head s) s.points (on_side (Some p) here) (edge i s front.1)
        (ap (leads ahead (head s)) (sym here) ∙ not_before i s front.1)
        (λ t is_t. leading.first i t p front.0 (head_of-at parts i s front.1 ∙ is_t) here))
