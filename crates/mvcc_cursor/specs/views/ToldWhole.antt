-- What is told of a key has bytes.
use Rattle.mvcc_key.specs.History.{History}
use Rattle.std.specs.List.Sorted.{IsStrictlySortedBy}
use Rattle.intent_meta.specs.Valid.{IsValid}
use Rattle.intent_meta.specs.views.WholeKeys.{IsKeyHistory}
use Rattle.intent_meta.proofs.WholeKeyLaws.{keys_are_whole}
use Rattle.mvcc_cursor.specs.Standing.{Place, BeforeFirst, AtKey, PastLast, told_at, nothing_told}

-- nothing is told
nothing-whole : IsKeyHistory nothing_told
unfolding IsStrictlySortedBy
nothing-whole = record { in_order = tt; items = tt; intent = tt }

-- what is told of the key at a place is what may be told of one
pub told-whole : (at : Place) (h : History) → IsValid h → IsKeyHistory (told_at at h)
told-whole BeforeFirst h valid = nothing-whole
told-whole (AtKey key) h valid = keys_are_whole h key valid
told-whole PastLast h valid = nothing-whole
