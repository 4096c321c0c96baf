use Rattle.range_key.proofs.OperationLaws.{fragments_after-shows, operations_of-fragments}
use Rattle.range_key.proofs.KindLaws.{operations_of-parts, operations_of-spans}
use Rattle.range_key.proofs.laws.laws_of_operations.Goals as goal

pub returns : goal.returns
returns c = record { tell = fragments_after-shows; again = operations_of-fragments; parts = operations_of-parts; spans = operations_of-spans }
