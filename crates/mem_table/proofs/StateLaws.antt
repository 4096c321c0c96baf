-- What is known of a name among points that are put in order.
use Rattle.std.proofs.Common.{◌≡◌, Bool, true, false, cond, List, [], ◌∷◌, ◌++◌, refl, ap, ◌∙◌}
use Rattle.std.specs.Prelude.{Some}
use Rattle.std.specs.declared.option.Option.{Option}
use Rattle.std.specs.declared.cmp.Ordering.{Ordering}
use Rattle.std.specs.declared.cmp.Ordering.TheVariants.{Less, Equal, Greater}
use Rattle.std.specs.Ordering.{match_ordering, is_eq}
use Rattle.std.proofs.lemmas.Cmp.{tied_back}
use Rattle.mvcc_key.specs.Lists.{put_in_order, in_order}
use Rattle.mvcc_key.specs.Order.{Name, name_cmp, is_same_name}
use Rattle.mvcc_key.specs.Points.{Point, point_cmp}
use Rattle.mvcc_key.proofs.OrderLaws.{name_cmp-total}
use Rattle.mem_table.specs.Table.{state_of, newer_of, newest_points, ShowsNewest}

equal_of : (o : Ordering) → is_eq o ≡ true → o ≡ Equal
equal_of Less h = absurd cc
equal_of Equal h = refl
equal_of Greater h = absurd cc

-- two points of one name tie
tied : (name : Name) (p q : Point) → is_same_name p.name name ≡ true → is_same_name q.name name ≡ true → name_cmp p.name q.name ≡ Equal
tied name p q h k =
    name_cmp-total.congr p.name name q.name (equal_of (name_cmp p.name name) h) ∙ tied_back name_cmp-total q.name name (equal_of (name_cmp q.name name) k)

-- a point put in its place is what is known of its name
state_of-put : (name : Name) (p : Point) (qs : List Point) → state_of name (put_in_order point_cmp p qs) ≡ cond (is_same_name p.name name) (Some p) (state_of name qs)
state_of-put name p [] = refl
state_of-put name p (q ∷ qs) = by (point_cmp p q) refl (state_of-put name p qs)
  where
    same : Point → Bool
    same r = is_same_name r.name name

    both : (a b : Bool) (xs : Option Point) → ((a ≡ true) → (b ≡ true) → ⊥) → cond b (Some q) (cond a (Some p) xs) ≡ cond a (Some p) (cond b (Some q) xs)
    both true true xs h = absurd (h refl refl)
    both true false xs h = refl
    both false true xs h = refl
    both false false xs h = refl

    one : (a b : Bool) (xs : Option Point) → a ≡ b → cond a (Some p) xs ≡ cond a (Some p) (cond b (Some q) xs)
    one true b xs h = refl
    one false true xs h = absurd cc
    one false false xs h = refl

    by : (o : Ordering) → point_cmp p q ≡ o → state_of name (put_in_order point_cmp p qs) ≡ cond (is_same_name p.name name) (Some p) (state_of name qs)
        → state_of name (match_ordering o (p ∷ q ∷ qs) (p ∷ qs) (q ∷ put_in_order point_cmp p qs))
        ≡ cond (is_same_name p.name name) (Some p) (cond (is_same_name q.name name) (Some q) (state_of name qs))
    by Less h rest = refl
    by Equal h rest = one (is_same_name p.name name) (is_same_name q.name name) (state_of name qs) (ap is_eq (name_cmp-total.congr p.name q.name name h))
    by Greater h rest =
        ap (λ (xs : Option Point). cond (is_same_name q.name name) (Some q) xs) rest
        ∙ both (is_same_name p.name name) (is_same_name q.name name) (state_of name qs) (λ a b. (let equal : point_cmp p q ≡ Equal = tied name p q a b in cc))

-- of points in order the first of each name is known
state_of-in_order : (name : Name) (ps : List Point) → state_of name (in_order point_cmp ps) ≡ state_of name ps
state_of-in_order name [] = refl
state_of-in_order name (p ∷ ps) =
    state_of-put name p (in_order point_cmp ps) ∙ ap (λ (xs : Option Point). cond (is_same_name p.name name) (Some p) xs) (state_of-in_order name ps)

-- what is known first goes before what is known behind
state_of-append : (name : Name) (ps qs : List Point) → state_of name (ps ++ qs) ≡ newer_of (state_of name ps) (state_of name qs)
state_of-append name [] qs = refl
state_of-append name (p ∷ ps) qs = by (is_same_name p.name name) (state_of-append name ps qs)
  where
    by : (b : Bool) → state_of name (ps ++ qs) ≡ newer_of (state_of name ps) (state_of name qs)
        → cond b (Some p) (state_of name (ps ++ qs)) ≡ newer_of (cond b (Some p) (state_of name ps)) (state_of name qs)
    by true rest = refl
    by false rest = rest

-- the newest points show the newest states
pub shows-newest : (newer older : List Point) → ShowsNewest newer older (newest_points (newer ++ older))
shows-newest newer older name = state_of-in_order name (newer ++ older) ∙ state_of-append name newer older
