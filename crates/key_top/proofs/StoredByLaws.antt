-- What is stored by a moment, and the greatest of what is stored.
use Rattle.std.specs.Prelude.{◌≡◌, ℕ, ◌≤◌, max, List, [], ◌∷◌, ◌++◌, map, Some}
use Rattle.std.specs.List.{AllByRecursion}
use Rattle.std.proofs.Common.{ap, subst, arith}
use Rattle.std.proofs.lemmas.Bool.Decides.{nat_tests}
use Rattle.mvcc_key.specs.Lists.{first}
use Rattle.mvcc_key.specs.Order.{Timestamp, Key, is_same_key, later}
use Rattle.mvcc_key.specs.History.{Version, Intent, History, intent_of, versions_of}
use Rattle.mvcc_key.proofs.EachLaws.{All-split, All-unmap, All-filter}
use Rattle.stat_delta.specs.Moments.{greatest, IsStoredBy}

-- what holds of all holds of the first
first-all : {A : Type 0} (P : A → Type 0) (xs : List A) (x : A) → AllByRecursion P xs → first xs ≡ Some x → P x
first-all P [] x all e = absurd cc
first-all P (y ∷ ys) x all e = let same : y ≡ x = cc in subst P same all.0

-- an intent of a history is
pub intent-by : (m : ℕ) (h : History) (key : Key) (i : Intent) → IsStoredBy m h → intent_of key h ≡ Some i → i.ts.wall ≤ m
intent-by m h key i by was =
    let two = All-split (λ w. w ≤ m) (map (λ v. v.ts.wall) h.versions ++ map (λ i. i.ts.wall) h.intents) (map (λ t. t.ts.wall) h.tombstones) by in
    let one = All-split (λ w. w ≤ m) (map (λ v. v.ts.wall) h.versions) (map (λ i. i.ts.wall) h.intents) two.0 in
    first-all (λ j. j.ts.wall ≤ m) _ i (All-filter (λ j. j.ts.wall ≤ m) (λ j. is_same_key j.key key) h.intents (All-unmap (λ w. w ≤ m) (λ j. j.ts.wall) h.intents one.1)) was

-- so is the newest version of a key
pub version-by : (m : ℕ) (h : History) (key : Key) (v : Version) (rest : List Version) → IsStoredBy m h → versions_of key h ≡ v ∷ rest → v.ts.wall ≤ m
version-by m h key v rest by is =
    let two = All-split (λ w. w ≤ m) (map (λ v. v.ts.wall) h.versions ++ map (λ i. i.ts.wall) h.intents) (map (λ t. t.ts.wall) h.tombstones) by in
    let one = All-split (λ w. w ≤ m) (map (λ v. v.ts.wall) h.versions) (map (λ i. i.ts.wall) h.intents) two.0 in
    first-all (λ w. w.ts.wall ≤ m) _ v (All-filter (λ w. w.ts.wall ≤ m) (λ w. is_same_key w.key key) h.versions (All-unmap (λ w. w ≤ m) (λ w. w.ts.wall) h.versions one.0)) (ap first is)

-- the greatest is at most what all of them are at most
pub below_bound : (n m : ℕ) (walls : List ℕ) → n ≤ m → AllByRecursion (λ w. w ≤ m) walls → greatest n walls ≤ m
below_bound n m [] up all = up
below_bound n m (w ∷ ws) up all = below_bound (max n w) m ws (omega (arith, up, all.0)) all.1

-- the later of two wall times
pub later-low : (s t : Timestamp) → t.wall ≤ (later s t).wall
later-low s t = grind (arith, nat_tests)

pub later-keeps : (s t : Timestamp) → s.wall ≤ (later s t).wall
later-keeps s t = grind (arith, nat_tests)

pub later-high : (s t : Timestamp) → (later s t).wall ≤ max s.wall t.wall
later-high s t = grind (arith, nat_tests)
