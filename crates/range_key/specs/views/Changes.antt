-- What a change makes of a list of fragments.
use Rattle.std.specs.Prelude.{◌≡◌, Bool, List}
use Rattle.mvcc_key.specs.Order.{Timestamp, Key}
use Rattle.mvcc_key.specs.History.{RangeTombstone, with_tombstone}
use Rattle.mvcc_key.specs.Fragments.{Fragment, fragments, stack_at, take_out, tombstones_of}
use Rattle.mvcc_key.specs.Pieces.{stack_with, stack_without}

-- whichever tombstones the old list shows, the new one shows them with one more
abbrev pub AddsTombstone : Key → Key → Timestamp → List Fragment → List Fragment → Type 0
AddsTombstone start end ts old new =
    (tombstones : List RangeTombstone) → old ≡ fragments tombstones
    → new ≡ fragments (with_tombstone (record { start = start; end = end; ts = ts }) tombstones)

-- whichever tombstones the old list shows, the new one shows them without the span in those that pass the test
abbrev pub TakesOut : Key → Key → (Timestamp → Bool) → List Fragment → List Fragment → Type 0
TakesOut start end test old new =
    (tombstones : List RangeTombstone) → old ≡ fragments tombstones
    → new ≡ fragments (take_out start end (λ t. test t.ts) tombstones)

-- over each key of the span the timestamp is in its place, and every other key's stack is as it was
abbrev pub PutsOver : Key → Key → Timestamp → List Fragment → List Fragment → Type 0
PutsOver start end ts old new = (key : Key) → stack_at new key ≡ stack_with start end ts key (stack_at old key)

-- over each key of the span the timestamps that pass the test are gone, and every other key's stack is as it was
abbrev pub TakesFrom : Key → Key → (Timestamp → Bool) → List Fragment → List Fragment → Type 0
TakesFrom start end test old new = (key : Key) → stack_at new key ≡ stack_without start end test key (stack_at old key)

-- the fragments without the timestamps over the span that pass the test
abbrev pub without_times : Key → Key → (Timestamp → Bool) → List Fragment → List Fragment
without_times start end test fs = fragments (take_out start end (λ t. test t.ts) (tombstones_of fs))
