use Rattle.std.proofs.Common.{◌≡◌, drop}
use Rattle.mvcc_key.specs.Fragments.{cut_to}
use Rattle.mvcc_key.specs.Pieces.{laid_over}
use Rattle.mvcc_key.specs.views.Seen.{time_of}
use Rattle.range_key.specs.views.Joining.{joined_on}
use Rattle.range_key.proofs.change.lay_over.Given as goal

abbrev pub invariant-loop-fragment : goal.invariant-loop-fragment
invariant-loop-fragment l =
    joined_on l.pieces (laid_over l.from l.end (time_of l.ts) (cut_to l.start l.end (drop l.fragment-index l.fragments)))
    ≡ joined_on l.initial.pieces (laid_over l.start l.end (time_of l.ts) (cut_to l.start l.end l.fragments))
