-- Where the first of several points is known, so is which points of all lists are behind.
use Rattle.std.proofs.Common.{◌≡◌, ℕ, Bool, true, false, refl, sym, ap, ◌∙◌, List}
use Rattle.std.specs.Prelude.{slice_get, Some, None}
use Rattle.std.specs.declared.option.Option.{Option}
use Rattle.std.specs.declared.cmp.Ordering.{Ordering}
use Rattle.std.specs.declared.cmp.Ordering.TheVariants.{Less, Equal, Greater}
use Rattle.std.specs.Ordering.{is_lt, is_le, is_eq}
use Rattle.mvcc_key.specs.Order.{Name, name_cmp, is_same_name}
use Rattle.mvcc_key.specs.Points.{Point}
use Rattle.mvcc_key.proofs.OrderLaws.{name_cmp-total, name_cmp-IsAntisymmetric}
use Rattle.mvcc_key.proofs.TimeLaws.{less_from}
use Rattle.merge_cursor.specs.views.Standing.{cut_of, leads}
use Rattle.merge_cursor.proofs.OrderLaws.{back-greater, back-less, is_same_name-one}
use Rattle.merge_cursor.proofs.LeadingLaws.{refused}
use Rattle.merge_cursor.proofs.CutLaws.{IsCut, IsFront, IsLast}

-- what is behind and what is in front are not one
apart : (cut : Name → Bool) (a b : Name) → cut a ≡ true → cut b ≡ false → a ≡ b → ⊥
apart cut a b h k same = (let one : cut a ≡ cut b = ap cut same in cc)

-- a name behind is below one in front
behind_below : (cut : Name → Bool) (a b : Name) → IsCut cut → cut a ≡ true → cut b ≡ false → name_cmp a b ≡ Less
behind_below cut a b c h k = by (name_cmp a b) refl
  where
    by : (o : Ordering) → name_cmp a b ≡ o → name_cmp a b ≡ Less
    by Less is = is
    by Equal is = absurd (apart cut a b h k (name_cmp-IsAntisymmetric a b is))
    by Greater is = absurd (let yes = c.down b a (back-less a b is) h in cc)

-- of three names, where neither of two neighbours falls the first does not stand above the last
no_fall : (a b c : Name) → is_lt (name_cmp b a) ≡ false → is_lt (name_cmp c b) ≡ false → is_lt (name_cmp c a) ≡ false
no_fall a b c h k = refused (is_lt (name_cmp c a)) (λ l. by (less_from (name_cmp c a) l) (name_cmp b a) refl)
  where
    by : name_cmp c a ≡ Less → (o : Ordering) → name_cmp b a ≡ o → ⊥
    by l Less is = (let yes : is_lt (name_cmp b a) ≡ true = ap is_lt is in cc)
    by l Equal is =
        (let same : b ≡ a = name_cmp-IsAntisymmetric b a is in
        let yes : is_lt (name_cmp c b) ≡ true = rw same (ap is_lt l) in
        cc)
    by l Greater is = (let yes : is_lt (name_cmp c b) ≡ true = ap is_lt (name_cmp-total.trans c a b l (back-less b a is)) in cc)

-- a name that another is not below stands up to it
le_of : (a b : Name) → is_lt (name_cmp b a) ≡ false → is_le (name_cmp a b) ≡ true
le_of a b h = by (name_cmp a b) refl
  where
    by : (o : Ordering) → name_cmp a b ≡ o → is_le (name_cmp a b) ≡ true
    by Less is = ap is_le is
    by Equal is = ap is_le is
    by Greater is = absurd (let yes : is_lt (name_cmp b a) ≡ true = ap is_lt (back-less a b is) in cc)

-- a name above another does not stand up to it
not_le : (a b : Name) → name_cmp b a ≡ Less → is_le (name_cmp a b) ≡ false
not_le a b h = ap is_le (back-greater b a h)

-- the first of the points in front is in front
abbrev pub InFront : (Name → Bool) → Option Point → Type 0
InFront cut (Some q) = cut q.name ≡ false
InFront cut None = Unit {0}

-- the last of the points behind is behind
abbrev pub IsBehind : (Name → Bool) → Option Point → Type 0
IsBehind cut (Some q) = cut q.name ≡ true
IsBehind cut None = Unit {0}

-- which points are behind, by the first point in front of several lists
pub agree-front : (cut : Name → Bool) (best h : Option Point) (ps : List Point) → IsCut cut → InFront cut best → IsFront cut h ps → leads true h best ≡ false
    → (i : ℕ) (r : Point) → slice_get ps i ≡ Some r → cut r.name ≡ cut_of true best r.name
agree-front cut None None ps c b f l i r is = f i r is
agree-front cut None (Some t) ps c b f l i r is = absurd cc
agree-front cut (Some q) h ps c b f l i r is = by (cut r.name) h refl f l
  where
    by : (v : Bool) (o : Option Point) → cut r.name ≡ v → IsFront cut o ps → leads true o (Some q) ≡ false → cut r.name ≡ is_lt (name_cmp r.name q.name)
    by true o v g k = v ∙ sym (ap is_lt (behind_below cut r.name q.name c v b))
    by false None v g k = absurd (let yes = g i r is in cc)
    by false (Some t) v g k = v ∙ sym (no_fall q.name t.name r.name k (g.1 i r is v))

-- which points are behind, by the last point behind of several lists
pub agree-last : (cut : Name → Bool) (best h : Option Point) (ps : List Point) → IsCut cut → IsBehind cut best → IsLast cut h ps → leads false h best ≡ false
    → (i : ℕ) (r : Point) → slice_get ps i ≡ Some r → cut r.name ≡ cut_of false best r.name
agree-last cut None None ps c b f l i r is = f i r is
agree-last cut None (Some t) ps c b f l i r is = absurd cc
agree-last cut (Some q) h ps c b f l i r is = by (cut r.name) h refl f l
  where
    by : (v : Bool) (o : Option Point) → cut r.name ≡ v → IsLast cut o ps → leads false o (Some q) ≡ false → cut r.name ≡ is_le (name_cmp r.name q.name)
    by true None v g k = absurd (let not = g i r is in cc)
    by true (Some t) v g k = v ∙ sym (le_of r.name q.name (no_fall r.name t.name q.name (g.1 i r is v) k))
    by false o v g k = v ∙ sym (not_le r.name q.name (behind_below cut q.name r.name c b v))

-- ---- lists without the name

-- two names of which neither is below the other
tie_of : (a b : Name) → is_lt (name_cmp a b) ≡ false → is_lt (name_cmp b a) ≡ false → is_same_name a b ≡ true
tie_of a b h k = by (name_cmp a b) refl
  where
    by : (o : Ordering) → name_cmp a b ≡ o → is_same_name a b ≡ true
    by Less is = absurd (let yes : is_lt (name_cmp a b) ≡ true = ap is_lt is in cc)
    by Equal is = ap is_eq is
    by Greater is = absurd (let yes : is_lt (name_cmp b a) ≡ true = ap is_lt (back-less a b is) in cc)

-- a list whose first point in front does not have the name of the first of all has it nowhere
pub lacks-front : (cut : Name → Bool) (q : Point) (h : Option Point) (ps : List Point) → cut q.name ≡ false → IsFront cut h ps → leads true h (Some q) ≡ false
    → ((t : Point) → h ≡ Some t → is_same_name t.name q.name ≡ false) → (i : ℕ) (r : Point) → slice_get ps i ≡ Some r → is_same_name r.name q.name ≡ false
lacks-front cut q h ps b f l other i r is = refused (is_same_name r.name q.name) (λ same. by h f l other (is_same_name-one r.name q.name same))
  where
    by : (o : Option Point) → IsFront cut o ps → leads true o (Some q) ≡ false → ((t : Point) → o ≡ Some t → is_same_name t.name q.name ≡ false) → r.name ≡ q.name → ⊥
    by None g k no_other same = apart cut r.name q.name (g i r is) b same
    by (Some t) g k no_other same =
        (let front : cut r.name ≡ false = rw same b in
        let low : is_lt (name_cmp q.name t.name) ≡ false = rw (← same) (g.1 i r is front) in
        let tie = tie_of t.name q.name k low in
        let not = no_other t refl in
        cc)

-- the same by the last points behind
pub lacks-last : (cut : Name → Bool) (q : Point) (h : Option Point) (ps : List Point) → cut q.name ≡ true → IsLast cut h ps → leads false h (Some q) ≡ false
    → ((t : Point) → h ≡ Some t → is_same_name t.name q.name ≡ false) → (i : ℕ) (r : Point) → slice_get ps i ≡ Some r → is_same_name r.name q.name ≡ false
lacks-last cut q h ps b f l other i r is = refused (is_same_name r.name q.name) (λ same. by h f l other (is_same_name-one r.name q.name same))
  where
    by : (o : Option Point) → IsLast cut o ps → leads false o (Some q) ≡ false → ((t : Point) → o ≡ Some t → is_same_name t.name q.name ≡ false) → r.name ≡ q.name → ⊥
    by None g k no_other same = apart cut q.name r.name b (g i r is) (sym same)
    by (Some t) g k no_other same =
        (let back : cut r.name ≡ true = rw same b in
        let high : is_lt (name_cmp t.name q.name) ≡ false = rw (← same) (g.1 i r is back) in
        let tie = tie_of t.name q.name high k in
        let not = no_other t refl in
        cc)
