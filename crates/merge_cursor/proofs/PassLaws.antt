-- Parts that leave a name.
use Rattle.std.proofs.Common.{◌≡◌, ℕ, ◌+◌, ◌≤◌, Bool, true, false, cond, List, [], ◌∷◌, ◌++◌, length, map, take, sum_by, refl, sym, ap, subst, ◌∙◌, arith}
use Rattle.std.specs.Prelude.{All, slice_get, Some, IsTrue}
use Rattle.std.specs.List.{AllByRecursion}
use Rattle.std.proofs.lemmas.List.{map-append, take_at, length-map}
use Rattle.std.proofs.lemmas.List.Elements.{All-from_recursion, recursion_from_All}
use Rattle.std.proofs.lemmas.List.Sums.{sum_by-append, sum_by-cons}
use Rattle.mvcc_key.specs.Order.{Name}
use Rattle.mvcc_key.specs.Points.{Point, point_at}
use Rattle.merge_cursor.specs.views.Standing.{Standing, standing, standings, head, heads, head_of}
use Rattle.merge_cursor.specs.declared.moves.Move.{Move}
use Rattle.merge_cursor.specs.views.Moves.{moved, is_at, passed, looks_of, passing_looks}
use Rattle.merge_cursor.proofs.OrderLaws.{is_same_name-itself}
use Rattle.merge_cursor.proofs.HeadLaws.{head_of-part}

-- parts that do not stand at the name stay
stay : (to : Move) (n : Name) (parts : List Standing) → AllByRecursion (λ s. is_at n (head s) ≡ false) parts → parts ≡ map (passed to n) parts
stay to n [] h = refl
stay to n (s ∷ parts) h =
    ap (λ (ss : List Standing). s ∷ ss) (stay to n parts h.1)
    ∙ ap (λ (b : Bool). cond b (moved to s) s ∷ map (passed to n) parts) (sym h.0)

-- the newer parts stay, the current one moves, and the older ones move where they stand at the name
pub passed-parts : (to : Move) (n : Name) (newer : List Standing) (here here' : Standing) (older older' : List Standing)
    → All (λ s. is_at n (head s) ≡ false) newer → is_at n (head here) ≡ true → here' ≡ moved to here → older' ≡ map (passed to n) older
    → newer ++ here' ∷ older' ≡ map (passed to n) (newer ++ here ∷ older)
passed-parts to n newer here here' older older' others itself is_here is_older =
    ap (λ (ss : List Standing). ss ++ here' ∷ older') (stay to n newer (recursion_from_All (λ s. is_at n (head s) ≡ false) newer others))
    ∙ ap (λ (s : Standing). map (passed to n) newer ++ s ∷ older') (is_here ∙ ap (λ (b : Bool). cond b (moved to here) here) (sym itself))
    ∙ ap (λ (ss : List Standing). map (passed to n) newer ++ passed to n here ∷ ss) is_older
    ∙ sym (map-append (passed to n) newer (here ∷ older))

-- the looks of all of them
pub passed-looks : (to : Move) (n : Name) (newer : List Standing) (here : Standing) (older : List Standing) (start between after : ℕ)
    → is_at n (head here) ≡ true → between ≤ start + sum_by (passing_looks to n) older → after ≤ between + looks_of to here.points
    → after ≤ start + sum_by (passing_looks to n) (newer ++ here ∷ older)
passed-looks to n newer here older start between after itself first then_here =
    let whole = sum_by-append (passing_looks to n) newer (here ∷ older) in
    let rest = sum_by-cons (passing_looks to n) here older in
    let own : passing_looks to n here ≡ looks_of to here.points = ap (λ (b : Bool). cond b (looks_of to here.points) 0) itself in
    omega arith

-- what holds of each of a list holds of one and of those behind it
each_back : {X : Type 0} (P : X → Type 0) (xs : List X) (y : X) (ys : List X) → AllByRecursion P (xs ++ y ∷ ys) → P y × AllByRecursion P ys
each_back P [] y ys h = (h.0, h.1)
each_back P (x ∷ xs) y ys h = each_back P xs y ys h.1

-- the element behind the first ones
slice_get-at : {X : Type 0} (xs : List X) (y : X) (ys : List X) → slice_get (xs ++ y ∷ ys) (length xs) ≡ Some y
slice_get-at [] y ys = refl
slice_get-at (x ∷ xs) y ys = slice_get-at xs y ys

-- the parts before the current one, that one, and those behind
pub record IsParted {X : Type 0} (parts newer : List X) (here : X) (older : List X) (current : ℕ) : Type 0 where
  pub whole : parts ≡ newer ++ here ∷ older
  pub count : length newer ≡ current

module _ {X : Type 0} (points : X → List Point) (place : X → ℕ) (is_part : X → Bool) where
  -- what the parts show
  parted-all : (parts newer : List X) (here : X) (older : List X) (current : ℕ) → IsParted parts newer here older current
      → standings points place is_part parts ≡ standings points place is_part newer ++ standing points place is_part here ∷ standings points place is_part older
  parted-all parts newer here older current p =
      ap (standings points place is_part) p.whole ∙ map-append (standing points place is_part) newer (here ∷ older)

  -- the point at which the current part stands
  pub parted-head : (parts newer : List X) (here : X) (older : List X) (current : ℕ) → IsParted parts newer here older current
      → head_of (heads (standings points place is_part parts)) current ≡ point_at (points here) (place here)
  parted-head parts newer here older current p =
      head_of-part points place is_part parts current here
      (ap (λ (xs : List X). slice_get xs current) p.whole ∙ ap (slice_get (newer ++ here ∷ older)) (sym p.count) ∙ slice_get-at newer here older)

  -- the current part
  pub parted-here : (parts newer : List X) (here : X) (older : List X) (current : ℕ) → IsParted parts newer here older current
      → slice_get (standings points place is_part parts) current ≡ Some (standing points place is_part here)
  parted-here parts newer here older current p =
      ap (λ (ss : List Standing). slice_get ss current) (parted-all parts newer here older current p)
      ∙ ap (slice_get (standings points place is_part newer ++ standing points place is_part here ∷ standings points place is_part older))
      (sym (length-map newer (standing points place is_part) ∙ p.count))
      ∙ slice_get-at (standings points place is_part newer) (standing points place is_part here) (standings points place is_part older)

  -- after the moves
  pub parted-passed : (parts newer : List X) (here here' : X) (older older' : List X) (current : ℕ) (to : Move) (n : Name) (p : Point)
      → IsParted parts newer here older current → n ≡ p.name → point_at (points here) (place here) ≡ Some p
      → All (λ s. is_at p.name (head s) ≡ false) (take current (standings points place is_part parts))
      → standing points place is_part here' ≡ moved to (standing points place is_part here)
      → standings points place is_part older' ≡ map (passed to n) (standings points place is_part older)
      → standings points place is_part (newer ++ here' ∷ older') ≡ map (passed to p.name) (standings points place is_part parts)
  parted-passed parts newer here here' older older' current to n p parted same at others is_here is_older =
      let seen : X → Standing = standing points place is_part in
      let front : take current (standings points place is_part parts) ≡ map seen newer =
      ap (take current) (parted-all parts newer here older current parted)
      ∙ take_at (map seen newer) (seen here ∷ map seen older) current (length-map newer seen ∙ parted.count) in
      let own : is_at p.name (head (seen here)) ≡ true = ap (is_at p.name) at ∙ is_same_name-itself p.name in
      map-append seen newer (here' ∷ older')
      ∙ passed-parts to p.name (map seen newer) (seen here) (seen here') (map seen older) (map seen older')
      (subst (λ (ss : List Standing). All (λ s. is_at p.name (head s) ≡ false) ss) front others) own is_here
      (is_older ∙ ap (λ (m : Name). map (passed to m) (map seen older)) same)
      ∙ ap (map (passed to p.name)) (sym (parted-all parts newer here older current parted))

  -- their looks
  pub parted-looks : (parts newer : List X) (here : X) (older : List X) (current : ℕ) (to : Move) (n : Name) (p : Point) (start between after : ℕ)
      → IsParted parts newer here older current → n ≡ p.name → point_at (points here) (place here) ≡ Some p
      → (All (λ s. IsTrue s.is_part) (standings points place is_part older) → between ≤ start + sum_by (passing_looks to n) (standings points place is_part older))
      → (IsTrue (is_part here) → after ≤ between + looks_of to (points here))
      → All (λ s. IsTrue s.is_part) (standings points place is_part parts)
      → after ≤ start + sum_by (passing_looks to p.name) (standings points place is_part parts)
  parted-looks parts newer here older current to n p start between after parted same at first then_here are =
      let seen : X → Standing = standing points place is_part in
      let P : Standing → Type 0 = λ s. IsTrue s.is_part in
      let all = parted-all parts newer here older current parted in
      let each = each_back P (map seen newer) (seen here) (map seen older) (subst (AllByRecursion P) all (recursion_from_All P (standings points place is_part parts) are)) in
      let own : is_at p.name (head (seen here)) ≡ true = ap (is_at p.name) at ∙ is_same_name-itself p.name in
      rw all
      (passed-looks to p.name (map seen newer) (seen here) (map seen older) start between after own
      (rw (← same) (first (All-from_recursion P (map seen older) each.1))) (then_here each.0))
