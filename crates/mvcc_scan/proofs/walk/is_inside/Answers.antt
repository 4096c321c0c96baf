-- The key of the cursor is ahead where it is within the far bound.
use Rattle.std.proofs.Common.{◌∙◌}
use Rattle.mvcc_cursor.specs.views.Seen.{seen}
use Rattle.mvcc_scan.specs.views.Walking.{bounds_of}
use Rattle.mvcc_scan.proofs.CursorLaws.{is-inside, is-outside}
use Rattle.mvcc_scan.proofs.walk.is_inside.Goals as goal

pub returns-in-Some : goal.returns-in-Some
returns-in-Some c = λ way. c.has_not_passed.ensures ∙ is-inside (bounds_of c.args.bounds) (seen c.args.cursor.now) way c.in-Some.key.now c.in-Some.ensures

pub returns-in-None : goal.returns-in-None
returns-in-None c = λ way. is-outside (bounds_of c.args.bounds) (seen c.args.cursor.now) way c.in-None.ensures
