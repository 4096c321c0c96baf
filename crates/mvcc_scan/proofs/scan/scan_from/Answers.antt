-- The walk of the whole span is what the scan answers by.
use Rattle.std.proofs.Common.{sym, ap, subst, ◌∙◌}
use Rattle.read_rule.specs.Scan.{answer_of, nothing_taken, walk, walked_keys}
use Rattle.read_rule.specs.views.Decided.{request_of}
use Rattle.mvcc_cursor.specs.WellFormed.{IsWellFormed, history_in}
use Rattle.mvcc_cursor.specs.views.Seen.{seen}
use Rattle.mvcc_scan.specs.views.Seen.{AnswersScan, limits_of}
use Rattle.mvcc_scan.specs.views.Walking.{IsWalk, ahead, bounds_of}
use Rattle.mvcc_scan.proofs.AnswerLaws.{scan-walked}
use Rattle.mvcc_scan.proofs.WayLaws.{scan-in_way}
use Rattle.mvcc_scan.proofs.scan.scan_from.Goals as goal

pub returns : goal.returns
returns g c =
    let h = history_in c.args.store.now in
    let r = request_of c.args.request.now in
    let l = limits_of c.args.limits.now in
    let b = bounds_of c.args.bounds in
    let there = seen c.begin.new.cursor in
    let st = ap (λ x. x.store) c.in_ok-cursor.ensures in
    let begun = c.begin.ensures.ahead (subst (λ x. IsWellFormed (history_in x) x) (sym st) c.requires.formed) in
    let same = ap (λ x. walk (history_in x) r l (ahead b there) nothing_taken) (c.begin.ensures.store ∙ st)
    ∙ ap (λ ks. walk h r l ks nothing_taken) (begun.are ∙ ap (λ x. walked_keys (history_in x) b.start b.end b.backwards) st) in
    subst (AnswersScan c.answer.result)
    (ap (λ d. answer_of b.start b.end d (walk h r l (walked_keys h b.start b.end d) nothing_taken)) c.requires.same ∙ sym (scan-walked h r b.start b.end l c.requires.good c.requires.span))
    (c.answer.ensures l (walk h r l (walked_keys h b.start b.end b.backwards) nothing_taken)
    (subst (λ w. IsWalk l w c.in_ok-walked.walked) same c.in_ok-walked.ensures) (scan-in_way h r l b))
