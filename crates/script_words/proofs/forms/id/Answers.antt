-- Bytes that are no id.
use Rattle.std.proofs.Common.{sym, ◌∙◌}
use Rattle.uuid.specs.Text.{parsed}
use Rattle.script_words.specs.Forms.{id}
use Rattle.script_words.proofs.FormLaws.{None-without_value}
use Rattle.script_words.proofs.forms.id.Goals as goal

pub returns-in-Err : goal.returns-in-Err
unfolding id
returns-in-Err c = rw (sym c.is_other_urn.ensures ∙ c.if-is_other_urn.false) (None-without_value (parsed c.args.bytes.now) (λ u e. let h = c.in-Err.ensures.ok.1 (u, e) in cc))
