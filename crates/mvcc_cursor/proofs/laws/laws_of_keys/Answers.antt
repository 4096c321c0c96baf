-- The points of a key.
use Rattle.lsm_store.specs.Shown.{shown, fragments_in}
use Rattle.mvcc_cursor.specs.WellFormed.{history_in}
use Rattle.mvcc_cursor.proofs.HistoryLaws.{points-key}
use Rattle.mvcc_cursor.proofs.LongKeyLaws.{long_keys-cut}
use Rattle.mvcc_cursor.proofs.ReadBackLaws.{histories-read}
use Rattle.mvcc_cursor.proofs.StoreLaws.{shown-set}
use Rattle.mvcc_cursor.proofs.laws.laws_of_keys.Goals as goal

pub returns-clause-points : goal.returns-clause-points
returns-clause-points c = λ store key well. points-key (history_in store) (shown store) (fragments_in store) well (shown-set store) key

pub returns-clause-long : goal.returns-clause-long
returns-clause-long c = long_keys-cut

pub returns-clause-read : goal.returns-clause-read
returns-clause-read c = histories-read
