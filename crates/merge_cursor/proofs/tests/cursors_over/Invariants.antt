use Rattle.std.proofs.Common.{◌≡◌, All}
use Rattle.merge_cursor.proofs.tests.cursors_over.Given as goal

abbrev pub invariant-loop-list : goal.invariant-loop-list
invariant-loop-list l = All (λ c. c.at ≡ 0) l.cursors.items
