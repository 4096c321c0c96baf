use Rattle.std.proofs.Common.{◌≡◌, arith, refl, ◌∙◌, sym}
use Rattle.std.specs.Option.{option_map}
use Rattle.mvcc_key.specs.Items.{newest_at}
use Rattle.mvcc_key.specs.views.Seen.{time_of}
use Rattle.intent_meta.specs.views.Lent.{lent_item, seen_item}
use Rattle.txn_state.specs.Transaction.{read_time}
use Rattle.read_rule.specs.declared.decision.Decision.TheVariants.{Conflict, Uncertain, TooOld, EpochFault}
use Rattle.read_rule.specs.views.Decided.{request_of}
use Rattle.read_rule.proofs.AnswerLaws.{refused_is, too_old_is, uncertain_is, by_item_is, stays-trans}
use Rattle.read_rule.proofs.CauseLaws.{has_causes}
use Rattle.read_rule.proofs.deciding.decide.Goals as goal

pub returns-in-Own : goal.returns-in-Own
returns-in-Own g c =
    let k = g.K.KeyItems.shown c.args.items.now in
    let r = request_of c.args.request.now in
    let decision = c.by_entry.ensures r k refl (g.met.K.KeyItems.whole c.args.items.now) c.in-Own.ensures c.intent.ensures in
    let causes = has_causes r k (c.by_entry.result) decision in (
      (refl, λ _. tt, record { shown_same = refl; place_same = refl }),
      record { stays = tt; decision = decision; listed = sym c.in-Own.ensures.unlisted; conflict = causes.conflict; epoch = causes.epoch; too_old = causes.too_old; uncertain = causes.uncertain; later = omega arith },
    )

pub returns-in-Conflict : goal.returns-in-Conflict
returns-in-Conflict g c =
    let k = g.K.KeyItems.shown c.args.items.now in
    let r = request_of c.args.request.now in
    let decision = refused_is r k _ c.in-Conflict.ensures in
    let causes = has_causes r k (Conflict c.in-Conflict.id c.in-Conflict.ts) decision in (
      (refl, λ _. tt, record { shown_same = refl; place_same = refl }),
      record { stays = tt; decision = decision; listed = sym c.in-Conflict.ensures.unlisted; conflict = causes.conflict; epoch = causes.epoch; too_old = causes.too_old; uncertain = causes.uncertain; later = omega arith },
    )

pub returns-in-EpochFault : goal.returns-in-EpochFault
returns-in-EpochFault g c =
    let k = g.K.KeyItems.shown c.args.items.now in
    let r = request_of c.args.request.now in
    let decision = refused_is r k _ c.in-EpochFault.ensures in
    let causes = has_causes r k (EpochFault c.in-EpochFault.own c.in-EpochFault.other) decision in (
      (refl, λ _. tt, record { shown_same = refl; place_same = refl }),
      record { stays = tt; decision = decision; listed = sym c.in-EpochFault.ensures.unlisted; conflict = causes.conflict; epoch = causes.epoch; too_old = causes.too_old; uncertain = causes.uncertain; later = omega arith },
    )

pub returns-in-Some : goal.returns-in-Some
returns-in-Some g c =
    let k = g.K.KeyItems.shown c.args.items.now in
    let r = request_of c.args.request.now in
    let decision = too_old_is r k _ (time_of c.in-Some.ts) c.in-Passed.ensures c.in-Some.ensures in
    let causes = has_causes r k (TooOld c.in-Some.ts) decision in (
      (refl, λ _. tt, record { shown_same = refl; place_same = refl }),
      record { stays = tt; decision = decision; listed = c.in-Passed.ensures.listed_is; conflict = causes.conflict; epoch = causes.epoch; too_old = causes.too_old; uncertain = causes.uncertain; later = omega arith },
    )

pub returns-in-Some-unsure : goal.returns-in-Some-unsure
returns-in-Some-unsure g c =
    let k = g.K.KeyItems.shown c.args.items.now in
    let r = request_of c.args.request.now in
    let decision = uncertain_is r k _ (time_of c.in-Some-unsure.ts) (time_of c.in-Some-unsure.local) c.in-Passed.ensures (rw c.in_default.is at c.more_recent.ensures) c.in-Some-unsure.ensures.value in
    let causes = has_causes r k (Uncertain c.in-Some-unsure.ts c.in-Some-unsure.local) decision in (
      (refl, λ _. tt, c.unsure.ensures.stays),
      record { stays = tt; decision = decision; listed = c.in-Passed.ensures.listed_is; conflict = causes.conflict; epoch = causes.epoch; too_old = causes.too_old; uncertain = causes.uncertain; later = omega arith },
    )

pub returns : goal.returns
returns g c =
    let k = g.K.KeyItems.shown c.args.items.now in
    let r = request_of c.args.request.now in
    let seen : option_map seen_item c.at_or_below.result ≡ option_map lent_item (newest_at (read_time r.who) k.items) =
    c.at_or_below.ensures.value ∙ (λ i. option_map lent_item (newest_at (c.read_time.ensures i) (c.unsure.ensures.stays.shown_same i).items)) in
    let decision = c.by_item.ensures r k (g.met.K.KeyItems.whole c.args.items.now) (by_item_is r k _ c.in-Passed.ensures (rw c.in_default.is at c.more_recent.ensures) c.in_default-unsure.ensures.value) seen in
    let causes = has_causes r k (c.by_item.result) decision in (
      (refl, λ _. tt, stays-trans g.K.KeyItems.shown g.K.KeyItems.place _ _ _ c.unsure.ensures.stays c.at_or_below.follows.holds-at-none),
      record { stays = tt; decision = decision; listed = c.in-Passed.ensures.listed_is; conflict = causes.conflict; epoch = causes.epoch; too_old = causes.too_old; uncertain = causes.uncertain; later = omega (arith, c.unsure.ensures.later, c.at_or_below.ensures.later) },
    )
