-- The parts of a store: the memory table and the runs, newest first, by what each of them names.
use Rattle.std.specs.Prelude.{ℕ, ◌-◌, Bool, true, false, ◌&&◌, ◌||◌, not, List, [], ◌∷◌, ◌++◌, length, take, drop, map, filter, flat_map, bytes_eq, nat_lt, if◌then◌else◌}
use Rattle.std.specs.List.{list_any}
use Rattle.std.specs.declared.cmp.Ordering.{Ordering}
use Rattle.std.specs.Ordering.{on}
use Rattle.mvcc_key.specs.Lists.{in_order, is_empty}
use Rattle.mvcc_key.specs.Order.{Name, name_cmp, is_same_name, Pair}
use Rattle.mvcc_key.specs.Fragments.{Fragment}
use Rattle.mvcc_key.specs.SameFragments.{are_same_fragments}

-- what a part says of a name: it is set, or cleared
pub record NameState : Type 0 where
  pub name : Name
  pub is_set : Bool

-- by name
abbrev pub state_cmp : NameState → NameState → Ordering
state_cmp = on (λ s. s.name) name_cmp

-- a part: its names in order, whether it holds range operations, and the fragments that it and all older parts give
pub record Part : Type 0 where
  pub states : List NameState
  pub ranges : Bool
  pub closing : List Fragment

-- a part that holds nothing, over older parts with these fragments
abbrev pub empty_part : List Fragment → Part
empty_part closing = record { states = []; ranges = false; closing = closing }

-- no name and no range operation
abbrev pub is_empty_part : Part → Bool
is_empty_part p = is_empty p.states && not p.ranges

-- a new store
abbrev pub first_parts : List Part
first_parts = empty_part [] ∷ []

-- the name is set
abbrev pub set_state : Name → NameState
set_state n = record { name = n; is_set = true }

-- the name is cleared
abbrev pub cleared_state : Name → NameState
cleared_state n = record { name = n; is_set = false }

-- the newest state of each name, in order; of two lists the first is the newer
abbrev pub newest_states : List NameState → List NameState
newest_states = in_order state_cmp

-- the pair is there, with the same bytes
abbrev pub has_pair : List Pair → Pair → Bool
has_pair pairs p = list_any (λ q. is_same_name q.name p.name && bytes_eq q.value p.value) pairs

-- a pair of the same name is there
abbrev pub has_name : List Pair → Pair → Bool
has_name pairs p = list_any (λ q. is_same_name q.name p.name) pairs

-- the states of the names whose pairs differ
abbrev pub changes : List Pair → List Pair → List NameState
changes before after =
    map (λ p. set_state p.name) (filter (λ p. not (has_pair before p)) after)
    ++ map (λ p. cleared_state p.name) (filter (λ p. not (has_name after p)) before)

-- pairs and fragments before and after a command
pub record Stage : Type 0 where
  pub pairs : List Pair
  pub fragments : List Fragment

-- the memory table after a command
abbrev pub changed_part : Stage → Stage → Part → Part
changed_part before after p = record {
  states = newest_states (changes before.pairs after.pairs ++ p.states);
  ranges = p.ranges || not (are_same_fragments before.fragments after.fragments);
  closing = after.fragments;
}

-- the memory table takes up what a command changed
unfoldable pub after_batch : Stage → Stage → List Part → List Part
after_batch before after [] = []
after_batch before after (table ∷ runs) = changed_part before after table ∷ runs

-- a memory table that is not empty becomes the newest run
unfoldable pub flushed : List Part → List Part
flushed [] = []
flushed (table ∷ runs) = if is_empty_part table then table ∷ runs else empty_part table.closing ∷ table ∷ runs

-- the fragments over which the newest of the runs closes
abbrev pub closing_of : List Part → List Fragment
closing_of [] = []
closing_of (p ∷ ps) = p.closing

-- runs united into one: the newest state of a name wins, and cleared names go
abbrev pub united : List Part → Part
united runs = record {
  states = filter (λ s. s.is_set) (newest_states (flat_map (λ p. p.states) runs));
  ranges = not (is_empty (closing_of runs));
  closing = closing_of runs;
}

-- no part at all where the part is empty
abbrev pub unless_empty : Part → List Part
unless_empty p = if is_empty_part p then [] else p ∷ []

-- the runs after the oldest are united
abbrev pub compacted_runs : ℕ → List Part → List Part
compacted_runs keep runs = if nat_lt keep (length runs) then take (keep - 1) runs ++ unless_empty (united (drop (keep - 1) runs)) else runs

-- the oldest runs are united so that at most so many are left
unfoldable pub compacted : ℕ → List Part → List Part
compacted keep [] = []
compacted keep (table ∷ runs) = table ∷ compacted_runs keep runs

-- what is shown of a part
pub record PartShape : Type 0 where
  pub keys : ℕ
  pub clears : ℕ
  pub ranges : Bool

-- how many names, how many cleared ones, and whether there are range operations
abbrev pub part_shape : Part → PartShape
part_shape p = record {
  keys = length p.states;
  clears = length (filter (λ s. not s.is_set) p.states);
  ranges = p.ranges;
}

-- the shapes of all parts, newest first
abbrev pub layout : List Part → List PartShape
layout parts = map part_shape parts
