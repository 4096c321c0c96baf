-- A number behind its words, the end of the line, and what is left.
use Rattle.std.proofs.Common.{◌++◌, codes}
use Rattle.std.specs.Fmt.{decimal}
use Rattle.std.specs.Option.{option_map}
use Rattle.script_text.specs.Text.{resolved_lines, resume_line}
use Rattle.script_text.specs.views.Seen.{span_of}
use Rattle.script_text.proofs.TextLaws.{two_pieces}
use Rattle.script_text.proofs.text.append_resolved_lines.Goals as goal

pub returns-clause-ok : goal.returns-clause-ok
unfolding resolved_lines
returns-clause-ok c =
    let words = codes "resolve_range: resolved=" ++ decimal c.args.count in
    let one = two_pieces c.args.into.now.items c.append_numbered.new.into.items c.append.new.into.items words (codes "\n") c.in_ok-append_numbered.ensures.ok c.in_ok-append.ensures.ok in
    two_pieces c.args.into.now.items c.append.new.into.items c.append_resume_line.new.into.items (words ++ codes "\n") (resume_line (option_map (λ s. span_of s.now) c.args.resume)) one c.in_ok-append_resume_line.ensures.ok
