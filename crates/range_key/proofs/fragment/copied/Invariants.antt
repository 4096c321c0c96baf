use Rattle.std.proofs.Common.{◌≡◌, take}
use Rattle.range_key.proofs.fragment.copied.Given as goal

abbrev pub invariant-loop-fragment : goal.invariant-loop-fragment
invariant-loop-fragment l = l.copies.items ≡ take l.fragment-index l.fragments
