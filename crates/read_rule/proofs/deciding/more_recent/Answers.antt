use Rattle.std.proofs.Common.{◌≡◌, false, is_le, sym, ap, ◌∙◌}
use Rattle.std.specs.Option.{option_map}
use Rattle.mvcc_key.specs.Items.{newest}
use Rattle.mvcc_key.specs.Order.{time_cmp, is_up_to}
use Rattle.mvcc_key.specs.views.Seen.{time_of}
use Rattle.intent_meta.specs.views.Lent.{seen_item}
use Rattle.txn_state.specs.Transaction.{read_time}
use Rattle.txn_state.specs.views.Seen.{actor_of}
use Rattle.read_rule.specs.views.Decided.{request_of}
use Rattle.read_rule.proofs.AnswerLaws.{none_fails, none_recent, lent_below}
use Rattle.read_rule.proofs.deciding.more_recent.Goals as goal

pub returns-then-not-request : goal.returns-then-not-request
returns-then-not-request g c = ap (option_map (λ i. i.ts)) (sym (none_fails (request_of c.args.request.now) (g.K.KeyItems.shown c.args.items.now).items c.if-not-request.true))

pub returns-else-is_le : goal.returns-else-is_le
returns-else-is_le g c =
    let k = g.K.KeyItems.shown c.args.items.now in
    let read = read_time (actor_of c.args.request.now.who) in
    let below : is_up_to read (time_of c.in_ok-item.item.ts) ≡ false =
    ap (λ t. is_le (time_cmp t (time_of c.in_ok-item.item.ts))) (sym c.read_time.ensures) ∙ ap is_le (sym c.compare.ensures) ∙ sym c.is_le.ensures ∙ c.if-is_le.false in
    ap (option_map (λ i. i.ts)) (sym (none_recent (request_of c.args.request.now) k (g.met.K.KeyItems.whole c.args.items.now)
    (lent_below (newest k.items) (seen_item c.in_ok-item.item) read c.in_ok-item.ensures below)))
