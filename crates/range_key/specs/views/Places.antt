-- Where a key stands among fragments.
use Rattle.std.specs.Prelude.{◌≡◌, Bool, true, false, List, [], ◌∷◌, ⊤}
use Rattle.std.specs.List.{AllByRecursion}
use Rattle.mvcc_key.specs.Order.{Key, is_below, is_at_or_below}
use Rattle.mvcc_key.specs.Fragments.{Fragment}

-- the first, where there is one, fails the test
abbrev pub FirstFails : (Fragment → Bool) → List Fragment → Type 0
FirstFails test [] = ⊤
FirstFails test (f ∷ fs) = test f ≡ false

-- the first, where there is one, ends above the key
abbrev pub EndsAbove : Key → List Fragment → Type 0
EndsAbove key = FirstFails (λ f. is_at_or_below f.end key)

-- the first, where there is one, ends at or above the key
abbrev pub EndsFrom : Key → List Fragment → Type 0
EndsFrom key = FirstFails (λ f. is_below f.end key)

-- each starts at or below the key
abbrev pub StartBy : Key → List Fragment → Type 0
StartBy key fs = AllByRecursion (λ f. is_at_or_below f.start key ≡ true) fs

-- each starts below the key
abbrev pub StartBelow : Key → List Fragment → Type 0
StartBelow key fs = AllByRecursion (λ f. is_below f.start key ≡ true) fs
