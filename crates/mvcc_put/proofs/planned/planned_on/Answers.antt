-- A plan by what is known of the key is that of each history that has this of it.
use Rattle.std.specs.Prelude.{◌≤◌, length}
use Rattle.std.proofs.Common.{sym, subst}
use Rattle.mvcc_key.specs.Limits.{max_key_length}
use Rattle.write_rule.specs.views.Seen.{request_of}
use Rattle.write_rule.specs.declared.fault.WriteFault.TheVariants as fault
use Rattle.key_top.specs.Top.{IsShortTop}
use Rattle.key_top.specs.views.Seen.{seen_top}
use Rattle.key_top.proofs.TopLaws.{top-short}
use Rattle.mvcc_put.proofs.PlanLaws.{not_above, sets-short, planned-put}
use Rattle.mvcc_put.proofs.planned.planned_on.Goals as goal

pub change_on_top-change-requires-clause-short : goal.change_on_top-change-requires-clause-short
change_on_top-change-requires-clause-short g c =
    let planned = c.in_ok-planned.planned in
    let short : length c.args.key.now ≤ max_key_length = not_above planned (fault.KeyTooLong (length c.args.key.now)) max_key_length (length c.args.key.now) (c.in_ok-planned.ensures.long).1 in
    let known = c.requires.known short in
    sets-short known.history c.args.last c.args.key.now (request_of c.args.request.now) planned known.valid (c.in_ok-planned.ensures.outcome known.history known.valid known.told_is)

pub change_on_top-change-requires-clause-top : goal.change_on_top-change-requires-clause-top
change_on_top-change-requires-clause-top g c =
    let planned = c.in_ok-planned.planned in
    let short : length c.args.key.now ≤ max_key_length = not_above planned (fault.KeyTooLong (length c.args.key.now)) max_key_length (length c.args.key.now) (c.in_ok-planned.ensures.long).1 in
    let known = c.requires.known short in
    subst IsShortTop (sym known.top_is) (top-short known.history c.args.key.now known.valid short)

pub returns-clause-outcome : goal.returns-clause-outcome
returns-clause-outcome g c h valid by told top =
    let planned = c.in_ok-planned.planned in
    planned-put h c.args.last c.args.key.now (request_of c.args.request.now) planned valid (c.in_ok-planned.ensures.outcome h valid told)
    (seen_top c.args.top.now) c.change_on_top-change.result by top c.change_on_top-change.ensures.batch c.change_on_top-change.ensures.counts
