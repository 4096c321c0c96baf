use Rattle.std.proofs.Common.{sym, subst}
use Rattle.std.specs.List.Sorted.{IsStrictlySortedBy}
use Rattle.intent_meta.specs.views.WholeKeys.{IsKeyHistory}
use Rattle.intent_meta.specs.views.Listed.{listed}
use Rattle.intent_meta.proofs.listed_items.ListedItems.new.Goals as goal

pub invariant_of-result : goal.invariant_of-result
unfolding IsStrictlySortedBy
invariant_of-result c = record {
  whole =
      subst (λ is. IsKeyHistory (listed c.args.key c.args.intent is)) (sym c.new.ensures) (record { in_order = tt; items = tt; intent = c.intent_is_whole.ensures c.args.key });
}
