use Rattle.std.proofs.Common.{Some, ap, sym, ◌∙◌}
use Rattle.std.specs.Option.{option_map}
use Rattle.intent_meta.specs.views.Lent.{lent_intent}
use Rattle.intent_meta.specs.views.Listed.{intent_at}
use Rattle.intent_meta.proofs.listed_items.ListedItemsKeyItems.intent.Goals as goal

pub returns-in-Some : goal.returns-in-Some
returns-in-Some c = ap Some (c.lent.ensures.lent c.args.self.now.key) ∙ ap (λ o. option_map lent_intent (option_map (intent_at c.args.self.now.key) o)) (sym c.in-Some.is)
