-- A merging cursor's parts in the words of its contracts.
use Rattle.std.proofs.Common.{◌≡◌, ℕ, ◌+◌, ◌≤◌, Bool, true, false, List, [], ◌∷◌, ◌++◌, length, map, take, drop, sum_by, refl, sym, ap, subst, ◌∙◌, arith}
use Rattle.std.specs.Prelude.{slice_get, Some, None, All, IsTrue}
use Rattle.std.specs.List.{AllByRecursion}
use Rattle.std.specs.declared.option.Option.{Option}
use Rattle.std.specs.Borrow.{Bor}
use Rattle.std.proofs.lemmas.List.{length-map, take_at}
use Rattle.std.proofs.lemmas.List.Elements.{recursion_from_All, All-head, All-tail, All-from_recursion}
use Rattle.std.proofs.lemmas.List.Sums.{sum_by-cons}
use Rattle.mvcc_key.specs.Order.{Name}
use Rattle.mvcc_key.specs.views.Looks.{bits}
use Rattle.mvcc_key.specs.Points.{Point, IsRising, AreEncodable, point_at, count_below}
use Rattle.merge_cursor.specs.Merged.{merged, seek_looks, entries_below, entries_before}
use Rattle.merge_cursor.specs.views.Standing.{Standing, standing, standings, lists_of, heads, head_of, cut_of, count_in, positioned, IsLeading, IsAligned, merged_place, place_in-le}
use Rattle.merge_cursor.specs.declared.moves.Move.TheVariants.{SeekGe}
use Rattle.merge_cursor.specs.views.Moves.{looks_of, cut_past}
use Rattle.merge_cursor.proofs.CutLaws.{IsCut, count_in-below, count_in-all, count_in-none}
use Rattle.merge_cursor.proofs.HeadLaws.{head_of-part}
use Rattle.merge_cursor.proofs.MergedLaws.{encodable-merged}
use Rattle.merge_cursor.proofs.ShownLaws.{rising-standings, below, shown}
use Rattle.merge_cursor.proofs.StepLaws.{current-none, After, after}

-- what a vector holds after its elements were written
pub written : {X : Type 0} (new items : List X) (len : ℕ) → length new ≡ len → take len (new ++ drop (length new) items) ≡ new
written new items len is = take_at new (drop (length new) items) len is

module _ {X : Type 0} (points : X → List Point) (place : X → ℕ) (is_part : X → Bool) where
  -- their lists
  pub lists-standings : (parts : List X) → lists_of (standings points place is_part parts) ≡ map points parts
  lists-standings [] = refl
  lists-standings (x ∷ parts) = ap (λ (ls : List (List Point)). points x ∷ ls) (lists-standings parts)

  -- each of them is a part's cursor
  pub parts-standings : (parts : List X) → All (λ x. IsTrue (is_part x)) parts → All (λ s. IsTrue s.is_part) (standings points place is_part parts)
  parts-standings parts h = All-from_recursion (λ s. IsTrue s.is_part) (standings points place is_part parts) (by parts h)
    where
      by : (xs : List X) → All (λ x. IsTrue (is_part x)) xs → AllByRecursion (λ s. IsTrue s.is_part) (standings points place is_part xs)
      by [] k = tt
      by (x ∷ xs) k = (All-head (λ y. IsTrue (is_part y)) x xs k, by xs (All-tail (λ y. IsTrue (is_part y)) x xs k))

  pub standings-parts : (parts : List X) → AllByRecursion (λ s. IsTrue s.is_part) (standings points place is_part parts) → All (λ x. IsTrue (is_part x)) parts
  standings-parts parts h = All-from_recursion (λ x. IsTrue (is_part x)) parts (by parts h)
    where
      by : (xs : List X) → AllByRecursion (λ s. IsTrue s.is_part) (standings points place is_part xs) → AllByRecursion (λ x. IsTrue (is_part x)) xs
      by [] k = tt
      by (x ∷ xs) k = (k.0, by xs k.1)

  -- ---- a new cursor

  -- parts that stand before their first pairs
  pub over-aligned : (parts : List X) (n : ℕ) → n ≡ length parts → All (λ x. place x ≡ 0) parts → IsAligned false (standings points place is_part parts) n
  over-aligned parts n is h =
      let long = length-map parts (standing points place is_part) in
      let none = current-none (standings points place is_part parts) n n (is ∙ sym long) refl in
      record {
        within = omega arith;
        some = λ lt. absurd (omega arith);
        each = by parts h ∙ ap (λ (o : Option Point). positioned false (cut_of false o) (standings points place is_part parts)) (sym none);
        newest = λ p at. absurd cc;
      }
    where
      by : (xs : List X) → All (λ x. place x ≡ 0) xs → standings points place is_part xs ≡ positioned false (λ _. false) (standings points place is_part xs)
      by [] k = refl
      by (x ∷ xs) k =
          ap (λ (m : ℕ). record { points = points x; place = m; is_part = is_part x } ∷ standings points place is_part xs) (All-head (λ y. place y ≡ 0) x xs k ∙ sym (count_in-none (points x)))
          ∙ ap (λ (ss : List Standing). record { points = points x; place = count_in (λ _. false) (points x); is_part = is_part x } ∷ ss) (by xs (All-tail (λ y. place y ≡ 0) x xs k))

  -- it stands before the first
  pub over-place : (parts : List X) (n : ℕ) → n ≡ length parts → merged_place false (standings points place is_part parts) n ≡ 0
  over-place parts n is =
      let long = length-map parts (standing points place is_part) in
      let none = current-none (standings points place is_part parts) n n (is ∙ sym long) refl in
      ap (λ (o : Option Point). count_in (cut_of false o) (merged (lists_of (standings points place is_part parts)))) none
      ∙ count_in-none (merged (lists_of (standings points place is_part parts)))

  -- its names have encodings
  pub over-encodable : (parts : List X) → ((x : X) → AreEncodable (points x)) → AreEncodable (merged (lists_of (standings points place is_part parts)))
  over-encodable parts h = encodable-merged (lists_of (standings points place is_part parts)) (by parts)
    where
      by : (xs : List X) → AllByRecursion AreEncodable (lists_of (standings points place is_part xs))
      by [] = tt
      by (x ∷ xs) = (h x, by xs)

  -- ---- after a move

  pub after-move : (ahead : Bool) (cut : List Standing → Name → Bool) (items shown new now lead : List X) (current : ℕ) → ((x : X) → IsRising (points x))
      → IsCut (cut (standings points place is_part items)) → AreEncodable (merged (lists_of (standings points place is_part items)))
      → shown ≡ items → now ≡ new → lead ≡ now
      → standings points place is_part new ≡ positioned ahead (cut (standings points place is_part shown)) (standings points place is_part shown)
      → IsLeading ahead (heads (standings points place is_part lead)) current
      → After ahead (cut (standings points place is_part items)) (standings points place is_part items) (standings points place is_part now) current
  after-move ahead cut items shown new now lead current rise c e is_shown is_now is_lead moves leading =
      let all : List X → List Standing = standings points place is_part in
      after ahead (cut (all items)) (all items) (all now) current c (rising-standings points place is_part items rise) e
      (ap all is_now ∙ moves ∙ ap (λ (xs : List X). positioned ahead (cut (all xs)) (all xs)) is_shown)
      (subst (λ (xs : List X). IsLeading ahead (heads (all xs)) current) is_lead leading)

  -- the lists stay
  pub lists-after : (old new : List X) → lists_of (standings points place is_part new) ≡ lists_of (standings points place is_part old) → map points new ≡ map points old
  lists-after old new h = sym (lists-standings new) ∙ h ∙ lists-standings old

  -- and so do parts' cursors
  pub parts-after : (ahead : Bool) (cut : Name → Bool) (old new : List X) → standings points place is_part new ≡ positioned ahead cut (standings points place is_part old)
      → All (λ x. IsTrue (is_part x)) old → All (λ x. IsTrue (is_part x)) new
  parts-after ahead cut old new is h =
      standings-parts new (subst (AllByRecursion (λ (s : Standing). IsTrue s.is_part)) (sym is)
      (by (standings points place is_part old) (recursion_from_All (λ s. IsTrue s.is_part) (standings points place is_part old) (parts-standings old h))))
    where
      by : (ss : List Standing) → AllByRecursion (λ s. IsTrue s.is_part) ss → AllByRecursion (λ s. IsTrue s.is_part) (positioned ahead cut ss)
      by [] k = tt
      by (s ∷ ss) k = (k.0, by ss k.1)

  -- ---- the current part

  -- where there is no current part nothing is shown
  pub shown-none : (ahead : Bool) (parts : List X) (current : ℕ) → ((x : X) → IsRising (points x)) → IsAligned ahead (standings points place is_part parts) current
      → length parts ≤ current → point_at (merged (lists_of (standings points place is_part parts))) (merged_place ahead (standings points place is_part parts) current) ≡ None
  shown-none ahead parts current rise s past =
      let long = length-map parts (standing points place is_part) in
      let w = s.within in
      shown ahead (standings points place is_part parts) current (rising-standings points place is_part parts rise) s
      ∙ current-none (standings points place is_part parts) current current (omega arith) refl

  -- what the current part shows
  pub shown-part : (ahead : Bool) (parts : List X) (current : ℕ) (x : X) → ((y : X) → IsRising (points y)) → IsAligned ahead (standings points place is_part parts) current
      → slice_get parts current ≡ Some x
      → point_at (merged (lists_of (standings points place is_part parts))) (merged_place ahead (standings points place is_part parts) current) ≡ point_at (points x) (place x)
  shown-part ahead parts current x rise s at =
      shown ahead (standings points place is_part parts) current (rising-standings points place is_part parts rise) s ∙ head_of-part points place is_part parts current x at

-- ---- looks

sum_by-same : {X : Type 0} (f g : X → ℕ) (xs : List X) → ((x : X) → f x ≡ g x) → sum_by f xs ≡ sum_by g xs
sum_by-same f g [] h = refl
sum_by-same f g (x ∷ xs) h =
    sum_by-cons f x xs ∙ ap (λ (n : ℕ). n + sum_by f xs) (h x) ∙ ap (λ (n : ℕ). g x + n) (sum_by-same f g xs h) ∙ sym (sum_by-cons g x xs)

-- the points before one, by the cut
pub entries-cut : (o : Option Point) (lists : List (List Point)) → entries_before o lists ≡ sum_by (count_in (cut_of true o)) lists
entries-cut None lists = sum_by-same length (count_in (λ _. true)) lists (λ ps. sym (count_in-all ps))
entries-cut (Some p) lists = sum_by-same (count_below p.name) (count_in (below p.name)) lists (λ ps. sym (count_in-below p.name ps))

-- the points below a name, by the cut
pub entries-below : (n : Name) (lists : List (List Point)) → entries_below n lists ≡ sum_by (count_in (below n)) lists
entries-below n lists = sum_by-same (count_below n) (count_in (below n)) lists (λ ps. sym (count_in-below n ps))

-- the looks of a seek
pub seek-ge-looks : (key : Bor (List ℕ)) (parts : List Standing) → sum_by (λ s. looks_of (SeekGe key) s.points) parts ≡ seek_looks (lists_of parts)
seek-ge-looks key [] = refl
seek-ge-looks key (s ∷ parts) =
    sum_by-cons (λ (t : Standing). bits (length t.points) + 2) s parts
    ∙ ap (λ (n : ℕ). (bits (length s.points) + 2) + n) (seek-ge-looks key parts)
    ∙ sym (sum_by-cons (λ (ps : List Point). bits (length ps) + 2) s.points (lists_of parts))

module _ {X : Type 0} (points : X → List Point) (place : X → ℕ) (is_part : X → Bool) where
  -- the looks of a step on, by the names that are left and reached
  pub next-looks : (ahead : Bool) (old new : List X) (from current start end : ℕ) → ((x : X) → IsRising (points x))
      → IsAligned ahead (standings points place is_part old) from → IsTrue ahead
      → After true (cut_past ahead (head_of (heads (standings points place is_part old)) from)) (standings points place is_part old) (standings points place is_part new) current
      → end + sum_by (count_in (cut_of true (head_of (heads (standings points place is_part old)) from))) (lists_of (standings points place is_part old))
      ≤ start + sum_by (count_in (cut_past true (head_of (heads (standings points place is_part old)) from))) (lists_of (standings points place is_part old))
      → end + entries_before (point_at (merged (lists_of (standings points place is_part old))) (merged_place ahead (standings points place is_part old) from)) (map points old)
      ≤ start + entries_before (point_at (merged (lists_of (standings points place is_part new))) (merged_place true (standings points place is_part new) current)) (map points old)
  next-looks false old new from current start end rise s on done looks = absurd cc
  next-looks true old new from current start end rise s on done looks =
      let all : List X → List Standing = standings points place is_part in
      let was = shown true (all old) from (rising-standings points place is_part old rise) s in
      let is = shown true (all new) current (rising-standings points place is_part new rise) done.aligned in
      let left = entries-cut (head_of (heads (all old)) from) (map points old) in
      let reached = entries-cut (head_of (heads (all new)) current) (map points old) in
      let lists = lists-standings points place is_part old in
      let moved : sum_by (count_in (cut_past true (head_of (heads (all old)) from))) (map points old) ≡ sum_by (count_in (cut_of true (head_of (heads (all new)) current))) (map points old) =
      subst (λ (ls : List (List Point)). sum_by (count_in (cut_past true (head_of (heads (all old)) from))) ls ≡ sum_by (count_in (cut_of true (head_of (heads (all new)) current))) ls) lists done.counts in
      let so : end + sum_by (count_in (cut_of true (head_of (heads (all old)) from))) (map points old) ≤ start + sum_by (count_in (cut_past true (head_of (heads (all old)) from))) (map points old) =
      subst (λ (ls : List (List Point)). end + sum_by (count_in (cut_of true (head_of (heads (all old)) from))) ls ≤ start + sum_by (count_in (cut_past true (head_of (heads (all old)) from))) ls) lists looks in
      rw (was, is) (omega arith)

  -- no point of a part stands between the name sought and the one reached
  pub seek-reached : (n : Name) (old new : List X) (current : ℕ) → ((x : X) → IsRising (points x))
      → After true (below n) (standings points place is_part old) (standings points place is_part new) current
      → entries_before (point_at (merged (lists_of (standings points place is_part new))) (merged_place true (standings points place is_part new) current)) (map points old)
      ≡ entries_below n (map points old)
  seek-reached n old new current rise done =
      let all : List X → List Standing = standings points place is_part in
      let is = shown true (all new) current (rising-standings points place is_part new rise) done.aligned in
      ap (λ (o : Option Point). entries_before o (map points old)) is
      ∙ entries-cut (head_of (heads (all new)) current) (map points old)
      ∙ sym (subst (λ (ls : List (List Point)). sum_by (count_in (below n)) ls ≡ sum_by (count_in (cut_of true (head_of (heads (all new)) current))) ls)
      (lists-standings points place is_part old) done.counts)
      ∙ sym (entries-below n (map points old))

-- the merged place is among the merged points, before the first or past the last
pub merged_place-le : (ahead : Bool) (parts : List Standing) (current : ℕ) → merged_place ahead parts current ≤ length (merged (lists_of parts)) + 1
merged_place-le ahead parts current = place_in-le ahead (cut_of ahead (head_of (heads parts) current)) (merged (lists_of parts))
