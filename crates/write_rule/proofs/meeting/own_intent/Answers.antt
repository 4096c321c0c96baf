use Rattle.intent_meta.specs.views.Lent.{seen_intent_at}
use Rattle.intent_meta.proofs.FieldLaws.{IsRecordOf-record_in}
use Rattle.write_rule.proofs.OwnLaws.{lent_own, plain_value, plain_short}
use Rattle.write_rule.proofs.meeting.own_intent.Goals as goal

pub of-requires-clause-plain : goal.of-requires-clause-plain
of-requires-clause-plain g c =
    let seen = seen_intent_at c.in-Some.intent in
    let k = g.K.KeyItems.shown c.args.items.now in
    let own = lent_own k seen (g.met.K.KeyItems.whole c.args.items.now) c.in-Some.ensures in
    plain_value seen own.intent k.key own.lent own.whole

pub of-requires-clause-short : goal.of-requires-clause-short
of-requires-clause-short g c =
    let seen = seen_intent_at c.in-Some.intent in
    let k = g.K.KeyItems.shown c.args.items.now in
    let own = lent_own k seen (g.met.K.KeyItems.whole c.args.items.now) c.in-Some.ensures in
    let head = c.in-Some.intent.head in
    plain_short seen own.intent own.lent (IsRecordOf-record_in head.bytes.now head.are_bytes head.are_read).is_record
