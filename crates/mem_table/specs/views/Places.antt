-- Where a name stands among operations in order, and operations merged.
use Rattle.std.specs.Prelude.{◌≡◌, ◌≢◌, ℕ, ◌+◌, ◌<◌, ◌≤◌, List, [], ◌++◌, length, map, take, drop, slice_get, slice_index_or, Some, None, All}
use Rattle.std.specs.List.{AllByRecursion}
use Rattle.std.specs.declared.cmp.Ordering.{Ordering}
use Rattle.std.specs.declared.cmp.Ordering.TheVariants.{Less, Equal}
use Rattle.std.specs.Ordering.{on}
use Rattle.mvcc_key.specs.Lists.{in_order}
use Rattle.mvcc_key.specs.Order.{Name, name_cmp}
use Rattle.mvcc_key.specs.Encoded.{name_in}
use Rattle.mvcc_key.specs.Points.{Point}
use Rattle.mvcc_key.specs.declared.batch.PointOp.{PointOp}
use Rattle.mem_table.specs.declared.place.MemPlace.{MemPlace}

-- the name of an operation
abbrev pub name_of_op : PointOp → Name
name_of_op op = name_in op.key

-- by name
abbrev pub op_cmp : PointOp → PointOp → Ordering
op_cmp = on name_of_op name_cmp

-- the newest operation of each name, in order
abbrev pub newest_ops : List PointOp → List PointOp → List PointOp
newest_ops newer older = in_order op_cmp (newer ++ older)

-- of things that have names, those from `low` up to `high`, one or none, have this one: those before are below it, those behind above
pub record IsRangeBy (X : Type 0) (named : X → Name) (name : Name) (xs : List X) (low high : ℕ) : Type 0 where
  pub ordered : low ≤ high
  pub one : high ≤ low + 1
  pub within : high ≤ length xs
  pub below : AllByRecursion (λ x. name_cmp (named x) name ≡ Less) (take low xs)
  pub tied : low < high → (x : X) → slice_get xs low ≡ Some x → name_cmp name (named x) ≡ Equal
  pub above : AllByRecursion (λ x. name_cmp name (named x) ≡ Less) (drop high xs)

-- the range of a name among operations
abbrev pub IsRangeOf : Name → List PointOp → ℕ → ℕ → Type 0
IsRangeOf name ops low high = IsRangeBy PointOp name_of_op name ops low high

-- the place of a name among points
abbrev pub IsPlaceOf : Name → List Point → MemPlace → Type 0
IsPlaceOf name points place = IsRangeBy Point (λ p. p.name) name points place.low place.behind

-- the place of some name among points
abbrev pub IsPlace : List Point → MemPlace → Type 0
IsPlace points place = (name : Name) × IsPlaceOf name points place

-- an operation under no name, read where a number has none
abbrev pub no_op : PointOp
no_op = record { key = []; value = None }

-- each is the number of an operation
abbrev pub AreNumbersOf : List PointOp → List ℕ → Type 0
AreNumbersOf ops = All (λ number. number < length ops)

-- the operations with these numbers, in their order
abbrev pub listed : List PointOp → List ℕ → List PointOp
listed ops = map (λ number. slice_index_or ops number no_op)

-- the number has this operation now, and each other keeps its own
pub record IsStored (op : PointOp) (number : ℕ) (old new : List PointOp) : Type 0 where
  pub longer : length old ≤ length new
  pub here : slice_get new number ≡ Some op
  pub others : (n : ℕ) → n < length old → n ≢ number → slice_get new n ≡ slice_get old n
