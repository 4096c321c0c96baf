-- What holds of reads of one key.
use Rattle.std.specs.Prelude.{◌≡◌}
use Rattle.mvcc_key.specs.Order.{Key}
use Rattle.mvcc_key.specs.History.{History}
use Rattle.intent_meta.specs.Alike.{AreAlike}
use Rattle.read_rule.specs.Read.{ReadRequest, decide, listed, get}

-- histories that are alike answer a read of a key alike
pub record ReadAlike (h k : History) (r : ReadRequest) (key : Key) : Type 0 where
  pub decided : decide h r key ≡ decide k r key
  pub listed_are : listed h r key ≡ listed k r key
  pub got : get h r key ≡ get k r key

-- at each key
abbrev pub AlikeReadAlike : Type 0
AlikeReadAlike = (h k : History) → AreAlike h k → (r : ReadRequest) (key : Key) → ReadAlike h k r key
