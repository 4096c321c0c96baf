-- What a version changes in front of the newest one of a key without an intent, over which there is no tombstone.
use Rattle.std.specs.Prelude.{◌≡◌, ℕ, Bool, true, false, [], Some, None}
use Rattle.std.proofs.Common.{arith}
use Rattle.std.proofs.lemmas.Int.{ints}
use Rattle.mvcc_key.specs.Order.{Timestamp}
use Rattle.mvcc_key.specs.Field.{Field}
use Rattle.stat_core.specs.DeadSince.{VersionShape, dead_since}
use Rattle.stat_core.specs.ComputeStats.{key_sums}
use Rattle.stat_core.proofs.FieldLaws.{each-field}
use Rattle.stat_delta.specs.Changes.{change_by_version}
use Rattle.key_top.specs.views.Versions.{change_by_first, change_by_next}

-- the first version of a key
pub first-change : (now key_length : ℕ) (v : VersionShape) (f : Field) → change_by_version now key_length [] v None f ≡ change_by_first now key_length v f
unfolding key_sums dead_since
first-change now key_length v = by v.ts v.value_length v.deletion
  where
    by : (ts : Timestamp) (n : ℕ) (d : Bool) (f : Field)
        → change_by_version now key_length [] (record { ts = ts; value_length = n; deletion = d }) None f
        ≡ change_by_first now key_length (record { ts = ts; value_length = n; deletion = d }) f
    by ts n true = each-field _ (omega (arith, ints)) (omega (arith, ints)) (omega (arith, ints)) (omega (arith, ints)) (omega (arith, ints)) (omega (arith, ints)) (omega (arith, ints)) (omega (arith, ints)) (omega (arith, ints)) (omega (arith, ints)) (omega (arith, ints)) (omega (arith, ints)) (omega (arith, ints)) (omega (arith, ints))
    by ts n false = each-field _ (omega (arith, ints)) (omega (arith, ints)) (omega (arith, ints)) (omega (arith, ints)) (omega (arith, ints)) (omega (arith, ints)) (omega (arith, ints)) (omega (arith, ints)) (omega (arith, ints)) (omega (arith, ints)) (omega (arith, ints)) (omega (arith, ints)) (omega (arith, ints)) (omega (arith, ints))

-- a version in front of the newest one
pub next-change : (now key_length : ℕ) (old new : VersionShape) (f : Field) → change_by_version now key_length [] new (Some old) f ≡ change_by_next now key_length old new f
unfolding key_sums dead_since
next-change now key_length old new = by old.ts new.ts old.value_length new.value_length old.deletion new.deletion
  where
    by : (s t : Timestamp) (m n : ℕ) (d e : Bool) (f : Field)
        → change_by_version now key_length [] (record { ts = t; value_length = n; deletion = e }) (Some (record { ts = s; value_length = m; deletion = d })) f
        ≡ change_by_next now key_length (record { ts = s; value_length = m; deletion = d }) (record { ts = t; value_length = n; deletion = e }) f
    by s t m n true true = each-field _ (omega (arith, ints)) (omega (arith, ints)) (omega (arith, ints)) (omega (arith, ints)) (omega (arith, ints)) (omega (arith, ints)) (omega (arith, ints)) (omega (arith, ints)) (omega (arith, ints)) (omega (arith, ints)) (omega (arith, ints)) (omega (arith, ints)) (omega (arith, ints)) (omega (arith, ints))
    by s t m n true false = each-field _ (omega (arith, ints)) (omega (arith, ints)) (omega (arith, ints)) (omega (arith, ints)) (omega (arith, ints)) (omega (arith, ints)) (omega (arith, ints)) (omega (arith, ints)) (omega (arith, ints)) (omega (arith, ints)) (omega (arith, ints)) (omega (arith, ints)) (omega (arith, ints)) (omega (arith, ints))
    by s t m n false true = each-field _ (omega (arith, ints)) (omega (arith, ints)) (omega (arith, ints)) (omega (arith, ints)) (omega (arith, ints)) (omega (arith, ints)) (omega (arith, ints)) (omega (arith, ints)) (omega (arith, ints)) (omega (arith, ints)) (omega (arith, ints)) (omega (arith, ints)) (omega (arith, ints)) (omega (arith, ints))
    by s t m n false false = each-field _ (omega (arith, ints)) (omega (arith, ints)) (omega (arith, ints)) (omega (arith, ints)) (omega (arith, ints)) (omega (arith, ints)) (omega (arith, ints)) (omega (arith, ints)) (omega (arith, ints)) (omega (arith, ints)) (omega (arith, ints)) (omega (arith, ints)) (omega (arith, ints)) (omega (arith, ints))
