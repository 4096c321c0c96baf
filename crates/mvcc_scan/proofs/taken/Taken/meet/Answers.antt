-- What a look at the cursor's key comes to is taken.
use Rattle.std.specs.Prelude.{IfOk, is_some}
use Rattle.std.proofs.Common.{sym, ap, subst, ◌∙◌}
use Rattle.mvcc_key.specs.Lists.{first}
use Rattle.mvcc_key.specs.History.{intent_of}
use Rattle.intent_meta.specs.KeyHistory.{key_history}
use Rattle.read_rule.specs.Read.{decision, listed_of}
use Rattle.read_rule.specs.Scan.{take_decision}
use Rattle.read_rule.specs.views.Decided.{request_of}
use Rattle.mvcc_cursor.specs.Standing.{here, told_at}
use Rattle.mvcc_cursor.specs.WellFormed.{history_in}
use Rattle.mvcc_cursor.specs.views.Seen.{seen}
use Rattle.mvcc_scan.specs.views.Kept.{IsLooked}
use Rattle.mvcc_scan.specs.views.Seen.{limits_of}
use Rattle.mvcc_scan.specs.views.Taking.{IsAfter}
use Rattle.mvcc_scan.proofs.TakenLaws.{key-decides}
use Rattle.mvcc_scan.proofs.taken.Taken.meet.Goals as goal

pub returns-clause-met : goal.returns-clause-met
returns-clause-met g c = λ key t at some taken.
    let h = history_in (seen c.args.cursor.now).store in
    let r = request_of c.args.request.now in
    let l = limits_of c.args.limits.now in
    let same = c.in_ok-looked.ensures.stays.place_same in
    let here_is = c.key_here-2.ensures key (ap (λ x. x.at) same ∙ at) (ap (λ x. is_some (first (here x))) same ∙ some) in
    let looked = subst (λ a. IsLooked r (told_at a h) c.in_ok-looked.looked) at c.in_ok-looked.ensures.looked in
    subst (λ d. IfOk c.take.result (λ stop. IsAfter l t d stop c.take.new.self))
    (ap (λ x. take_decision l x (decision r (key_history key h)) (listed_of r (intent_of key h)) t) here_is
    ∙ sym (key-decides h r l key t (sym (c.is_full.ensures t taken) ∙ c.if-is_full.false)))
    (c.take.ensures r (key_history key h) t (sym here_is) looked taken)
