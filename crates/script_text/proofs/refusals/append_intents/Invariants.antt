-- The intents so far are printed.
use Rattle.std.proofs.Common.{◌≡◌, ◌++◌, take, flat_map}
use Rattle.script_text.specs.Text.{conflict_text}
use Rattle.script_text.proofs.refusals.append_intents.Given as goal

abbrev pub invariant-loop-intent : goal.invariant-loop-intent
invariant-loop-intent l = l.into.items ≡ l.initial.into.items ++ flat_map conflict_text (take l.intent-index l.intents)
