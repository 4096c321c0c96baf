-- A cursor at a stored key shows it.
use Rattle.std.proofs.Common.{◌∙◌, ◌≡◌, Some, None}
use Rattle.mvcc_cursor.specs.views.Seen.{seen}
use Rattle.mvcc_scan.proofs.CursorLaws.{here-key}
use Rattle.mvcc_scan.proofs.walk.key_here.Goals as goal

pub returns-in-Some : goal.returns-in-Some
returns-in-Some c = λ key at some.
    let same : Some c.in-Some.key.now ≡ Some key = c.in-Some.ensures ∙ here-key (seen c.args.cursor.now) key at some in cc

pub returns-in-None : goal.returns-in-None
returns-in-None c = λ key at some.
    let same : None ≡ Some key = c.in-None.ensures ∙ here-key (seen c.args.cursor.now) key at some in absurd cc
