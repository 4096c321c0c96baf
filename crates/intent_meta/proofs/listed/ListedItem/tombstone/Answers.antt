use Rattle.std.proofs.Common.{refl}
use Rattle.mvcc_value.specs.Encoding.{value_bytes}
use Rattle.intent_meta.proofs.listed.ListedItem.tombstone.Goals as goal

pub invariant_of-result-2 : goal.invariant_of-result-2
unfolding value_bytes
invariant_of-result-2 c = record { bytes_are = refl; whole = record { local = refl; body = tt } }
