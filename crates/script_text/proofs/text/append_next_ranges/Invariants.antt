-- The ranges so far are printed.
use Rattle.std.proofs.Common.{◌≡◌, ◌++◌, take, flat_map}
use Rattle.txn_state.specs.views.Seen.{ranges_of}
use Rattle.script_text.specs.Text.{next_range}
use Rattle.script_text.proofs.text.append_next_ranges.Given as goal

abbrev pub invariant-loop-other : goal.invariant-loop-other
invariant-loop-other l = l.into.items ≡ l.initial.into.items ++ flat_map next_range (ranges_of (take l.other-index l.others))
