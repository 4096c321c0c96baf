use Rattle.std.proofs.Common.{◌≡◌, Some, ap, sym, ◌∙◌}
use Rattle.std.specs.Prelude.{is_ok, option_map}
use Rattle.intent_meta.specs.views.Lent.{seen_item}
use Rattle.write_rule.specs.views.Own.{stamped}
use Rattle.write_rule.proofs.ReadingLaws.{lent_newest, lent_reads}
use Rattle.write_rule.proofs.newest.newest_of.Goals as goal

pub body_of-body-requires : goal.body_of-body-requires
body_of-body-requires g c =
    let item = lent_newest (g.K.KeyItems.shown c.args.items.now) (seen_item c.in_ok-item.item) (g.met.K.KeyItems.whole c.args.items.now) c.in_ok-item.ensures in
    ap is_ok (lent_reads (seen_item c.in_ok-item.item) item.item item.lent item.whole)

pub returns : goal.returns
returns g c =
    let item = lent_newest (g.K.KeyItems.shown c.args.items.now) (seen_item c.in_ok-item.item) (g.met.K.KeyItems.whole c.args.items.now) c.in_ok-item.ensures in
    let ts = ap (λ l. l.ts) item.lent in
    let body = c.body_of-body.ensures item.item item.whole item.lent in
    let same : Some (record { ts = _; body = _ }) ≡ Some (stamped item.item) = λ j. Some (record { ts = ts j; body = body j }) in
    same ∙ ap (option_map stamped) (sym item.is)
