-- A look is what the decision comes to, with the intent that it lists.
use Rattle.std.proofs.Common.{refl}
use Rattle.mvcc_cursor.specs.WellFormed.{history_in}
use Rattle.mvcc_cursor.specs.views.Seen.{seen, told_by}
use Rattle.mvcc_cursor.specs.views.ToldWhole.{told-whole}
use Rattle.read_rule.specs.views.Decided.{request_of}
use Rattle.mvcc_scan.proofs.KeptLaws.{decided-readable, listed-is}
use Rattle.mvcc_scan.proofs.look.look.Goals as goal

pub keep-requires : goal.keep-requires
keep-requires g c = decided-readable (request_of c.args.request.now) (told_by c.args.cursor.now) c.decide-is_listed.result.0 c.decide-is_listed.ensures.decision

pub returns-clause-looked : goal.returns-clause-looked
returns-clause-looked g c =
    let r = request_of c.args.request.now in
    let cursor = c.args.cursor.now in
    let k = told_by cursor in
    record {
      kept = c.in_ok-kept.ensures r k c.decide-is_listed.ensures.decision (c.provisional_len-len.ensures r refl);
      listed = listed-is r k (told-whole (seen cursor).at (history_in (seen cursor).store) cursor.well_formed.valid) c.intent_met-met.result c.intent_met-met.ensures c.decide-is_listed.result.1 c.decide-is_listed.ensures.listed c.met_if.result c.met_if.ensures;
    }
