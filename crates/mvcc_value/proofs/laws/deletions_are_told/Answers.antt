use Rattle.mvcc_value.proofs.LengthLaws.{is_deletion_value-value_bytes, is_value_length-value_bytes}
use Rattle.mvcc_value.proofs.laws.deletions_are_told.Goals as goal

pub returns : goal.returns
returns c = record { bytes = is_deletion_value-value_bytes; length = is_value_length-value_bytes }
