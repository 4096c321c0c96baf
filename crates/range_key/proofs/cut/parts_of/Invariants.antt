use Rattle.std.proofs.Common.{◌≡◌, take}
use Rattle.mvcc_key.specs.Fragments.{cut_to}
use Rattle.range_key.proofs.cut.parts_of.Given as goal

abbrev pub invariant-loop-fragment : goal.invariant-loop-fragment
invariant-loop-fragment l = l.parts.items ≡ cut_to l.start l.end (take l.fragment-index l.fragments)
