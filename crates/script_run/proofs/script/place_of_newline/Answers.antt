-- The place of the first newline.
use Rattle.memchr.specs.Find.{is_byte}
use Rattle.script_run.proofs.LineLaws.{first-position}
use Rattle.script_run.proofs.script.place_of_newline.Goals as goal

pub returns-clause-value : goal.returns-clause-value
returns-clause-value c = first-position (is_byte 0x0a) c.args.script.now c.memchr.result c.memchr.ensures
