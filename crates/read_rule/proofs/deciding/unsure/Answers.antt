use Rattle.std.proofs.Common.{is_le, sym, ap, ◌∙◌}
use Rattle.std.specs.Option.{option_map}
use Rattle.mvcc_key.specs.Order.{time_cmp}
use Rattle.intent_meta.specs.views.Lent.{item_times}
use Rattle.read_rule.specs.views.Decided.{request_of}
use Rattle.read_rule.proofs.AnswerLaws.{none_unsure}
use Rattle.read_rule.proofs.deciding.unsure.Goals as goal

pub returns-then-is_le-clause-value : goal.returns-then-is_le-clause-value
returns-then-is_le-clause-value g c =
    ap (option_map item_times) (sym (none_unsure (request_of c.args.request.now) (g.K.KeyItems.shown c.args.items.now).items
    ((λ i. is_le (time_cmp (sym c.uncertainty_limit-limit.ensures i) (sym c.read_time-read.ensures i))) ∙ ap is_le (sym c.compare.ensures) ∙ sym c.is_le.ensures ∙ c.if-is_le.true)))
