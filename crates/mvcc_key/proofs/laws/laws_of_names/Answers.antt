-- The laws of names.
use Rattle.mvcc_key.proofs.OrderLaws.{name_cmp-total, name_cmp-IsAntisymmetric}
use Rattle.mvcc_key.proofs.KeyFormatLaws.{name_of-encoded_name}
use Rattle.mvcc_key.proofs.NamedLaws.{reading-encoded, refused-encoded}
use Rattle.mvcc_key.proofs.laws.laws_of_names.Goals as goal

pub returns : goal.returns
returns c = record { ordered = name_cmp-total; one = name_cmp-IsAntisymmetric; again = name_of-encoded_name; back = reading-encoded; refused = refused-encoded }
