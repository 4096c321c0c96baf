-- How many looks a write takes at most, told by what the parts name.
use Rattle.std.specs.Prelude.{ℕ, ◌+◌, ◌-◌, ◌*◌, List, length, take, find, sum_by, count_by, Option, Some, None}
use Rattle.std.specs.Ordering.{is_lt}
use Rattle.mvcc_key.specs.Limits.{max_bound_length}
use Rattle.mvcc_key.specs.Order.{no_time, Key, is_below, Name, name_cmp, Pair}
use Rattle.mvcc_key.specs.Fragments.{fragments}
use Rattle.mvcc_key.specs.views.Looks.{bits}
use Rattle.intent_meta.specs.StoredPairs.{stored_pairs}
use Rattle.lsm_store.specs.Parts.{Part}
use Rattle.mvcc_engine.specs.Step.{State}

-- how many names of the parts, set or cleared, are below a name
abbrev pub names_below : Name → List Part → ℕ
names_below n parts = sum_by (λ p. count_by (λ s. is_lt (name_cmp s.name n)) p.states) parts

-- how many are below that of a pair, or all where there is none
abbrev pub names_before : Option Pair → List Part → ℕ
names_before (Some p) parts = names_below p.name parts
names_before None parts = sum_by (λ p. length p.states) parts

-- how many there are from the record of a key up to, and without, the first stored pair of a key above it
abbrev pub names_from : Key → State → ℕ
names_from key s =
    names_before (find (λ p. is_below key p.name.key) (stored_pairs s.history)) s.parts - names_below (record { key = key; ts = no_time }) s.parts

-- the most looks that one seek takes in the parts
abbrev pub one_seek : List Part → ℕ
one_seek parts = sum_by (λ p. bits (length p.states) + 2) parts

-- the most looks that a write of the key takes: of a key that is longer than any stored one, so many bytes count
unfoldable pub looks_at : State → Key → ℕ
looks_at s key =
    8 * names_from (take max_bound_length key) s + 6 * one_seek s.parts + 4 * (bits (length (fragments (s.history).tombstones)) + 1)
