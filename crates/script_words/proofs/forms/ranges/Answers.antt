-- One range more, and a range that is none.
use Rattle.std.proofs.Common.{◌++◌, ◌∙◌, sym, ap, ap₂, subst, option_map}
use Rattle.txn_state.specs.views.Seen.{ranges_of}
use Rattle.script_words.specs.Forms.{range, ranges}
use Rattle.script_words.specs.views.Reading.{Fails}
use Rattle.script_words.proofs.FormLaws.{Gives-fault}
use Rattle.script_words.proofs.SequenceLaws.{ranges_left, ranges-more, ranges-Fails}
use Rattle.script_words.proofs.forms.ranges.Goals as goal

pub returns-in_err-range : goal.returns-in_err-range
returns-in_err-range c =
    let so_far = c.loop-rest.invariant ∙ ap (λ o. option_map (λ more. ranges_of c.loop-rest.ranges.items ++ more) (ranges_left (option_map (λ r. r.now) o))) c.in-Some.is in
    let fails = subst (λ piece. Fails c.in_err-range.field-0.0 (range piece)) c.cut.ensures.before c.in_err-range.ensures in
    Gives-fault (λ rs. ranges_of rs.items) c.from_residual.result c.in_err-range.field-0.0 (ranges c.args.bytes.now) c.from_residual.ensures.1
    (ranges-Fails c.in_err-range.field-0.0 c.loop-rest.ranges.items c.args.bytes.now c.in-Some.listed.now so_far fails)

pub loop-rest-preserved : goal.loop-rest-preserved
loop-rest-preserved c =
    let so_far = c.loop-rest.invariant ∙ ap (λ o. option_map (λ more. ranges_of c.loop-rest.ranges.items ++ more) (ranges_left (option_map (λ r. r.now) o))) c.in-Some.is in
    so_far
    ∙ ranges-more c.loop-rest.ranges.items c.in_ok-range.field-0 c.in-Some.listed.now (ap range (sym c.cut.ensures.before) ∙ c.in_ok-range.ensures)
    ∙ ap₂ (λ items rest. option_map (λ more. ranges_of items ++ more) (ranges_left rest)) (sym c.in_ok-push.ensures.ok) (sym c.cut.ensures.after)
