-- The ranges so far and those of what is left are all ranges.
use Rattle.std.proofs.Common.{◌≡◌, ◌+◌, ◌++◌, length, option_map, ℕ, List, Bor}
use Rattle.std.specs.Prelude.{Option, Some, None}
use Rattle.txn_state.specs.views.Seen.{ranges_of}
use Rattle.script_words.specs.Forms.{ranges}
use Rattle.script_words.proofs.SequenceLaws.{ranges_left}
use Rattle.script_words.proofs.forms.ranges.Given as goal

-- how much is left
abbrev pub left : Option (Bor (List ℕ)) → ℕ
left None = 0
left (Some listed) = length listed.now + 1

abbrev pub invariant-loop-rest : goal.invariant-loop-rest
invariant-loop-rest l = ranges l.bytes ≡ option_map (λ more. ranges_of l.ranges.items ++ more) (ranges_left (option_map (λ r. r.now) l.rest))

abbrev pub decreases-loop-rest : goal.decreases-loop-rest
decreases-loop-rest l = left l.rest
