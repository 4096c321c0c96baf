-- It moves with the entries that count.
use Rattle.std.proofs.Common.{sym, ap, ◌∙◌, subst, None}
use Rattle.std.specs.Prelude.{IfSome, option_map}
use Rattle.mvcc_key.specs.Order.{Timestamp, is_no_time, later}
use Rattle.mvcc_key.specs.views.Seen.{time_of}
use Rattle.mvcc_key.proofs.TimeLaws.{up_to_later_first, up_to_timed}
use Rattle.mvcc_value.specs.Encoding.{IsEncodable}
use Rattle.intent_meta.specs.Rules.{AreRecordEntries}
use Rattle.intent_meta.specs.views.Lent.{LentIntent}
use Rattle.intent_meta.proofs.FieldLaws.{IsRecordOf-record_in}
use Rattle.intent_resolve.specs.Resolve.{dropped}
use Rattle.intent_resolve.specs.views.Left.{seen_left}
use Rattle.intent_resolve.specs.views.Own.{IsOfStored, with_last}
use Rattle.intent_resolve.specs.views.Seen.{update_of}
use Rattle.intent_resolve.proofs.RuleLaws.{pending-none, pending-some, dropped-all}
use Rattle.intent_resolve.proofs.resolution.moving.Goals as goal

pub moved-requires-clause-time : goal.moved-requires-clause-time
moved-requires-clause-time c =
    let head = c.args.own.head in
    let rules = (IsRecordOf-record_in head.bytes.now head.are_bytes head.are_read).is_record in
    let old = time_of c.ts.result in
    let new = time_of c.args.update.now.ts in
    ap is_no_time c.later-ts.ensures ∙ up_to_timed old (later old new) (up_to_later_first old new) (ap is_no_time c.ts.ensures ∙ (rules.ts).some)

pub moved-requires-clause-rules : goal.moved-requires-clause-rules
moved-requires-clause-rules c = subst (λ o. IfSome o (λ p. AreRecordEntries None p.1.sequence p.0)) c.in-Some.is c.in_ok-kept.ensures.rules

pub moved-requires-clause-last : goal.moved-requires-clause-last
moved-requires-clause-last c = subst (λ o. IfSome o (λ p. IsOfStored p.1)) c.in-Some.is c.in_ok-kept.ensures.last

pub returns-in_ok-moved-in-Some : goal.returns-in_ok-moved-in-Some
returns-in_ok-moved-in-Some c = λ i of below.
    let u = update_of c.args.update.now in
    let entries = (dropped u i).entries in
    let times = c.later-ts.ensures ∙ ap (λ (t : Timestamp). later t u.ts) (c.ts.ensures ∙ ap (λ (l : LentIntent). l.head.ts) of.lent) in
    pending-some u i (seen_left c.in_ok-moved-in-Some.field-0) (time_of c.later-ts.result) (with_last (c.in-Some.before, c.in-Some.last)) below
    (ap (option_map with_last) (sym c.in-Some.is) ∙ c.in_ok-kept.ensures.entries i of) times
    (λ e. c.in_ok-moved-in-Some.ensures i entries of (dropped-all (λ d. IsEncodable d.value) u i (of.whole).bodies) e)

pub returns-in-None : goal.returns-in-None
returns-in-None c = λ i of below.
    pending-none (update_of c.args.update.now) i below (ap (option_map with_last) (sym c.in-None.is) ∙ c.in_ok-kept.ensures.entries i of)
