use Rattle.std.proofs.Common.{◌≡◌, drop}
use Rattle.mvcc_key.specs.Fragments.{cut_to}
use Rattle.mvcc_key.specs.Pieces.{thinned}
use Rattle.range_key.specs.views.Joining.{joined_on}
use Rattle.range_key.specs.views.Taken.{is_taken}
use Rattle.range_key.proofs.change.thin.Given as goal

abbrev pub invariant-loop-fragment : goal.invariant-loop-fragment
invariant-loop-fragment l =
    joined_on l.pieces (thinned (is_taken l.taken) (cut_to l.start l.end (drop l.fragment-index l.fragments)))
    ≡ joined_on l.initial.pieces (thinned (is_taken l.taken) (cut_to l.start l.end l.fragments))
