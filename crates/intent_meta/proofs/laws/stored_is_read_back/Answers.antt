use Rattle.mvcc_key.proofs.TombstonesOfLaws.{fragments-again}
use Rattle.intent_meta.proofs.ReadBackLaws.{history_of-stored_pairs, stored_pairs-rise}
use Rattle.intent_meta.proofs.laws.stored_is_read_back.Goals as goal

pub returns : goal.returns
returns c = record {
  read = history_of-stored_pairs;
  fragments = λ h. fragments-again h.tombstones;
  rising = stored_pairs-rise;
}
