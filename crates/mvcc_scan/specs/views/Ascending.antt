-- Intents in the order in which a walk meets them.
use Rattle.std.specs.Prelude.{Bool, List}
use Rattle.std.specs.List.Sorted.{IsStrictlySortedBy}
use Rattle.mvcc_key.specs.Refusal.{IntentSeen}
use Rattle.read_rule.specs.Scan as scan
use Rattle.mvcc_scan.specs.views.Walking.{way_cmp}

-- each is of a key further on than those before it
abbrev pub IsInWay : Bool → List IntentSeen → Type 0
IsInWay backwards = IsStrictlySortedBy (λ i j. way_cmp backwards i.key j.key)

-- so stands what a walk has taken
pub record IsAllInWay (backwards : Bool) (w : scan.Walk) : Type 0 where
  pub listed : IsInWay backwards w.taken.listed
  pub conflicts : IsInWay backwards w.taken.conflicts
