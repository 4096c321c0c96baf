-- What is taken of one key.
use Rattle.std.specs.Prelude.{false}
use Rattle.std.proofs.Common.{◌≡◌, ap}
use Rattle.mvcc_key.specs.Steps.{◌>>=◌, unless_fault}
use Rattle.mvcc_key.specs.Order.{Key}
use Rattle.mvcc_key.specs.History.{History, intent_of}
use Rattle.intent_meta.specs.KeyHistory.{key_history}
use Rattle.read_rule.specs.Read as read
use Rattle.read_rule.specs.Read.{decide, listed}
use Rattle.read_rule.specs.Scan as scan
use Rattle.read_rule.specs.Scan.{ScanLimits, is_full, take_decision, take_key}

module _ (h : History) (r : read.ReadRequest) (l : ScanLimits) (key : Key) (t : scan.Taken) where
  -- below it the decision is taken
  pub key-decides : is_full l t.rows ≡ false → take_key h r l key t ≡ take_decision l key (read.decision r (key_history key h)) (read.listed_of r (intent_of key h)) t
  unfolding decide listed
  key-decides free =
      ap (λ b. unless_fault b (scan.Before key) t >>= (λ room. take_decision l key (read.decision r (key_history key h)) (read.listed_of r (intent_of key h)) room)) free
