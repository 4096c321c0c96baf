-- The moment at which statistics stand: the latest of those at which they stood before and of all that is stored.
use Rattle.std.specs.Prelude.{ℕ, ◌≤◌, max, List, ◌++◌, map, fold}
use Rattle.std.specs.List.{AllByRecursion}
use Rattle.mvcc_key.specs.History.{History}

-- the wall times at which something is stored
abbrev pub stored_walls : History → List ℕ
stored_walls h =
    map (λ v. v.ts.wall) h.versions ++ map (λ i. i.ts.wall) h.intents ++ map (λ t. t.ts.wall) h.tombstones

-- the greatest of a number and a list
abbrev pub greatest : ℕ → List ℕ → ℕ
greatest n walls = fold max n walls

-- nothing that is stored is after the wall time
abbrev pub IsStoredBy : ℕ → History → Type 0
IsStoredBy wall h = AllByRecursion (λ w. w ≤ wall) (stored_walls h)
