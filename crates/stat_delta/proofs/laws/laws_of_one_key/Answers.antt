-- The laws of each change of a key.
use Rattle.stat_delta.proofs.KeyDeltaLaws.{stored_change-version, stored_change-put, stored_change-comes, stored_change-replaced, stored_change-removal, stored_change-commit}
use Rattle.stat_delta.proofs.laws.laws_of_one_key.Goals as goal

pub returns : goal.returns
returns c = record {
  version_comes = stored_change-version;
  intent_is_put = stored_change-put;
  intent_comes = stored_change-comes;
  intent_is_replaced = stored_change-replaced;
  intent_goes = stored_change-removal;
  intent_becomes_version = stored_change-commit;
}
