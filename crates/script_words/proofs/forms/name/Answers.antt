-- Bytes of a name are text.
use Rattle.std.proofs.Common.{sym, ◌∙◌}
use Rattle.script_words.proofs.FormLaws.{names_are_text}
use Rattle.script_words.proofs.forms.name.Goals as goal

pub returns-in-Err : goal.returns-in-Err
returns-in-Err c = absurd (c.in-Err.ensures.cases.0 (names_are_text c.args.bytes.now (sym c.are_name_bytes.ensures ∙ c.if-not-are_name_bytes.false)))
