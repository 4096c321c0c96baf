-- Bad options refuse before all else.
use Rattle.std.proofs.Common.{sym, ◌∙◌}
use Rattle.mvcc_cursor.specs.WellFormed.{history_in}
use Rattle.mvcc_scan.specs.views.Seen.{asked}
use Rattle.mvcc_scan.proofs.GetLaws.{get-bad}
use Rattle.mvcc_scan.proofs.get.plan_get_with.Goals as goal

pub returns-then-has_bad_options : goal.returns-then-has_bad_options
returns-then-has_bad_options c =
    get-bad (history_in c.args.store.now) (asked c.args.who c.args.options) c.args.key.now (sym c.has_bad_options.ensures ∙ c.if-has_bad_options.true)
