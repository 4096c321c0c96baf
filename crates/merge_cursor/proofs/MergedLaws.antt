-- The merged points: what holds of them, and the point of a name.
use Rattle.std.proofs.Common.{◌≡◌, inl, inr, ℕ, zero, suc, Bool, true, false, cond, List, [], ◌∷◌, ◌++◌, take, refl, sym, ap, ◌∙◌, arith}
use Rattle.std.specs.Prelude.{slice_get, find, Some}
use Rattle.std.specs.List.{AllByRecursion}
use Rattle.std.specs.Prelude.{◌||◌}
use Rattle.std.specs.declared.option.Option.{Option}
use Rattle.std.specs.declared.cmp.Ordering.TheVariants.{Equal}
use Rattle.std.specs.Ordering.{is_eq, is_lt, is_le}
use Rattle.std.proofs.lemmas.Bool.{cases_order}
use Rattle.std.proofs.lemmas.Cmp.{tied_itself}
use Rattle.std.proofs.lemmas.Option.{slice_get_within, slice_get_cases}
use Rattle.mvcc_key.specs.Lists.{in_order}
use Rattle.mvcc_key.specs.Order.{Name, name_cmp, is_same_name, is_in_range}
use Rattle.mvcc_key.specs.Points.{Point, point_cmp, IsRising, AreEncodable}
use Rattle.mvcc_key.proofs.OrderLaws.{name_cmp-total}
use Rattle.mvcc_key.proofs.EachLaws.{All-append, All-at, All-from_places, All-in_order}
use Rattle.mvcc_key.proofs.PointLaws.{named-in_order, rising_rest, rising-first}
use Rattle.merge_cursor.specs.Merged.{joined, merged, merged-rising}
use Rattle.merge_cursor.specs.views.Standing.{Standing, lists_of, has_name, count_in}
use Rattle.merge_cursor.proofs.OrderLaws.{is_same_name-itself, back-greater}
use Rattle.merge_cursor.proofs.CutLaws.{IsPlaced, placed, below-IsCut, up_to-IsCut}

-- ---- what holds of each

-- what holds of each point of each list holds of all of them
pub each-joined : (P : Point → Type 0) (lists : List (List Point)) → AllByRecursion (AllByRecursion P) lists → AllByRecursion P (joined lists)
each-joined P [] h = tt
each-joined P (ps ∷ lists) h = All-append P ps (joined lists) h.0 (each-joined P lists h.1)

-- what holds of each point of each list holds of the merged ones
pub each-merged : (P : Point → Type 0) (lists : List (List Point)) → AllByRecursion (AllByRecursion P) lists → AllByRecursion P (merged lists)
unfolding merged
each-merged P lists h = All-in_order point_cmp P (joined lists) (each-joined P lists h)

-- merged lists of names that have encodings have encodings
pub encodable-merged : (lists : List (List Point)) → AllByRecursion AreEncodable lists → AreEncodable (merged lists)
encodable-merged lists h i p is =
    All-at (λ q. is_in_range q.name.ts ≡ true) (merged lists) i p (each-merged (λ q. is_in_range q.name.ts ≡ true) lists (all lists h)) is
  where
    all : (ls : List (List Point)) → AllByRecursion AreEncodable ls → AllByRecursion (AllByRecursion (λ q. is_in_range q.name.ts ≡ true)) ls
    all [] k = tt
    all (ps ∷ ls) k = (All-from_places (λ q. is_in_range q.name.ts ≡ true) ps k.0, all ls k.1)

-- where there is nothing nothing is merged
pub merged-none : (lists : List (List Point)) → joined lists ≡ [] → merged lists ≡ []
unfolding merged
merged-none lists none = ap (in_order point_cmp) none

-- ---- the point of a name

-- the first point of the name
abbrev pub named_point : Name → List Point → Option Point
named_point name points = find (λ p. is_same_name p.name name) points

-- among the merged points a name has its first point
pub point_of-merged : (name : Name) (lists : List (List Point)) → named_point name (merged lists) ≡ named_point name (joined lists)
unfolding merged
point_of-merged name lists = named-in_order name (joined lists)

-- a list without the name in front changes nothing
point_of-lacking : (name : Name) (ps qs : List Point) → has_name name ps ≡ false → named_point name (ps ++ qs) ≡ named_point name qs
point_of-lacking name [] qs h = refl
point_of-lacking name (p ∷ ps) qs h = by (is_same_name p.name name) h (λ k. point_of-lacking name ps qs k)
  where
    by : (b : Bool) → (b || has_name name ps) ≡ false → (has_name name ps ≡ false → named_point name (ps ++ qs) ≡ named_point name qs)
        → cond b (Some p) (named_point name (ps ++ qs)) ≡ named_point name qs
    by true k rest = absurd cc
    by false k rest = rest k

-- a list that has it goes before those behind
point_of-having : (name : Name) (q : Point) (ps qs : List Point) → named_point name ps ≡ Some q → named_point name (ps ++ qs) ≡ Some q
point_of-having name q [] qs h = absurd cc
point_of-having name q (p ∷ ps) qs h = by (is_same_name p.name name) h (λ k. point_of-having name q ps qs k)
  where
    by : (b : Bool) → cond b (Some p) (named_point name ps) ≡ Some q → (named_point name ps ≡ Some q → named_point name (ps ++ qs) ≡ Some q)
        → cond b (Some p) (named_point name (ps ++ qs)) ≡ Some q
    by true k rest = k
    by false k rest = rest k

-- the first list that has the name gives its point
pub point_of-first : (name : Name) (q : Point) (parts : List Standing) (i : ℕ) (s : Standing) → slice_get parts i ≡ Some s
    → AllByRecursion (λ t. has_name name t.points ≡ false) (take i parts) → named_point name s.points ≡ Some q → named_point name (joined (lists_of parts)) ≡ Some q
point_of-first name q [] i s at h k = absurd cc
point_of-first name q (t ∷ parts) zero s at h k =
    (let same : t ≡ s = cc in point_of-having name q t.points (joined (lists_of parts)) (rw same k))
point_of-first name q (t ∷ parts) (suc i) s at h k =
    point_of-lacking name t.points (joined (lists_of parts)) h.0 ∙ point_of-first name q parts i s at h.1 k

-- a point of rising ones is the first of its name
pub point_of-rising : (ps : List Point) (i : ℕ) (q : Point) → IsRising ps → slice_get ps i ≡ Some q → named_point q.name ps ≡ Some q
point_of-rising [] i q rising at = absurd cc
point_of-rising (p ∷ ps) zero q rising at =
    (let same : p ≡ q = cc in rw (ap (λ (r : Point). is_same_name r.name q.name) same ∙ is_same_name-itself q.name) at)
point_of-rising (p ∷ ps) (suc i) q rising at =
    rw (ap is_eq (rising-first (λ (r : Point). r.name) p ps rising i q at)) (point_of-rising ps i q (rising_rest (λ (r : Point). r.name) p ps rising) at)

-- the point stands somewhere
find-at : (name : Name) (ps : List Point) (q : Point) → named_point name ps ≡ Some q → (i : ℕ) × (slice_get ps i ≡ Some q)
find-at name [] q h = absurd cc
find-at name (p ∷ ps) q h = by (is_same_name p.name name) h (λ k. find-at name ps q k)
  where
    by : (b : Bool) → cond b (Some p) (named_point name ps) ≡ Some q → (named_point name ps ≡ Some q → (i : ℕ) × (slice_get ps i ≡ Some q)) → (i : ℕ) × (slice_get (p ∷ ps) i ≡ Some q)
    by true k rest = (0, k)
    by false k rest = (suc (rest k).0, (rest k).1)

-- where the point of a name stands among rising ones: behind those below it, and it is the last of those up to it
pub record IsThere (q : Point) (ps : List Point) : Type 0 where
  pub here : slice_get ps (count_in (λ m. is_lt (name_cmp m q.name)) ps) ≡ Some q
  pub next : count_in (λ m. is_le (name_cmp m q.name)) ps ≡ suc (count_in (λ m. is_lt (name_cmp m q.name)) ps)

pub there-at : (q : Point) (ps : List Point) (i : ℕ) → IsRising ps → slice_get ps i ≡ Some q → IsThere q ps
there-at q ps i rising at = record { here = ap (slice_get ps) (sym is_n) ∙ at; next = is_m }
  where
    n : IsPlaced (λ m. is_lt (name_cmp m q.name)) ps (count_in (λ m. is_lt (name_cmp m q.name)) ps)
    n = placed (λ m. is_lt (name_cmp m q.name)) ps (below-IsCut q.name) rising

    m : IsPlaced (λ k. is_le (name_cmp k q.name)) ps (count_in (λ k. is_le (name_cmp k q.name)) ps)
    m = placed (λ k. is_le (name_cmp k q.name)) ps (up_to-IsCut q.name) rising

    itself : name_cmp q.name q.name ≡ Equal
    itself = tied_itself name_cmp-total q.name

    is_n : i ≡ count_in (λ k. is_lt (name_cmp k q.name)) ps
    is_n = elim (cases_order i (count_in (λ k. is_lt (name_cmp k q.name)) ps)) [
      | inl same ↦ same
      | inr (inl before) ↦ absurd (let yes = n.below i q before at in let not : is_lt (name_cmp q.name q.name) ≡ false = ap is_lt itself in cc)
      | inr (inr behind) ↦ absurd (elim ((slice_get_cases ps (count_in (λ k. is_lt (name_cmp k q.name)) ps)).1) [
        | inl there ↦
            (let not = n.above _ there.0 (omega arith) there.2 in
            let yes : is_lt (name_cmp there.0.name q.name) ≡ true = ap is_lt (rising _ i there.0 q behind there.2 at) in
            cc)
        | inr past ↦ (let le = past.0 in let within = slice_get_within ps i q at in omega arith)
      ])
    ]

    is_m : count_in (λ k. is_le (name_cmp k q.name)) ps ≡ suc (count_in (λ k. is_lt (name_cmp k q.name)) ps)
    is_m =
        let all : suc i ≡ suc (count_in (λ k. is_lt (name_cmp k q.name)) ps) = ap suc is_n in
        elim (cases_order (count_in (λ k. is_le (name_cmp k q.name)) ps) (suc i)) [
          | inl same ↦ same ∙ all
          | inr (inl before) ↦ absurd (let not = m.above i q (omega arith) at in let yes : is_le (name_cmp q.name q.name) ≡ true = ap is_le itself in cc)
          | inr (inr behind) ↦ absurd (elim ((slice_get_cases ps (suc i)).1) [
            | inl there ↦
                (let yes = m.below (suc i) there.0 behind there.2 in
                let not : is_le (name_cmp there.0.name q.name) ≡ false = ap is_le (back-greater q.name there.0.name (rising i (suc i) q there.0 (omega arith) at there.2)) in
                cc)
            | inr past ↦ (let le = past.0 in let w = m.within in omega arith)
          ])
        ]

-- the point of a name among the merged ones
pub there-merged : (q : Point) (lists : List (List Point)) → named_point q.name (joined lists) ≡ Some q → IsThere q (merged lists)
there-merged q lists h =
    let at = find-at q.name (merged lists) q (point_of-merged q.name lists ∙ h) in
    there-at q (merged lists) at.0 (merged-rising lists) at.1
