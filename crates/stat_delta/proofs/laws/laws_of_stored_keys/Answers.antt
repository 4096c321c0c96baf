-- The laws of a change of one key.
use Rattle.stat_delta.proofs.StoredKeyLaws.{others_of-stored}
use Rattle.stat_delta.proofs.TopLaws.{share-stored, stored_change-key, stored_change-top}
use Rattle.stat_delta.proofs.KeyDeltaLaws.{stored_change-add}
use Rattle.stat_delta.proofs.laws.laws_of_stored_keys.Goals as goal

pub returns : goal.returns
returns c = record { others = others_of-stored; shares = share-stored; changes = stored_change-key; on_top = stored_change-top; add_up = stored_change-add }
