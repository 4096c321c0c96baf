use Rattle.std.proofs.Common.{None, ◌∙◌}
use Rattle.std.proofs.lemmas.Result.{err_from_is_err_and}
use Rattle.intent_meta.specs.views.Seen.{seen_entry}
use Rattle.intent_meta.proofs.EntriesLaws.{rest-front, rest-next, rest-fault, rest-end}
use Rattle.intent_meta.proofs.decoding.history.Goals as goal

pub loop-init : goal.loop-init
loop-init c = rest-front c.args.count None c.args.limit c.args.bytes.now

pub returns-in_err-entry : goal.returns-in_err-entry
returns-in_err-entry c =
    let p = err_from_is_err_and c.from_residual.result c.from_residual.ensures.1 in
    rw (p.1, p.2) (c.loop.invariant ∙ rest-fault c.args.count c.loop.counter c.loop.before c.args.limit c.loop.rest.now c.in_err-entry.field-0.0 c.loop-test.true c.in_err-entry.ensures)

pub loop-preserved : goal.loop-preserved
loop-preserved c =
    c.loop.invariant ∙ rest-next c.args.count c.loop.counter c.loop.before c.args.limit c.loop.rest.now (seen_entry c.in_ok-entry.entry) c.in_ok-entry.behind.now c.loop-test.true c.in_ok-entry.ensures

pub returns : goal.returns
returns c = c.loop.invariant ∙ rest-end c.args.count c.loop.counter c.loop.before c.args.limit c.loop.rest.now c.loop-test.false
