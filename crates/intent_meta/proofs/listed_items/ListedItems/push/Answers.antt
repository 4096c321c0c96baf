use Rattle.std.proofs.Common.{sym, subst, ap, ◌∙◌}
use Rattle.intent_meta.specs.views.WholeKeys.{IsWholeItem}
use Rattle.intent_meta.specs.views.Listed.{is_older}
use Rattle.intent_meta.specs.views.SeenListed.{history_of}
use Rattle.intent_meta.proofs.KeyHistoryLaws.{pushed-whole}
use Rattle.intent_meta.proofs.listed_items.ListedItems.push.Goals as goal

pub invariant_of-self : goal.invariant_of-self
invariant_of-self c = record {
  whole =
      pushed-whole c.push.result (history_of c.args.self.now) c.args.item c.push.new.self c.args.self.now.whole
      (subst IsWholeItem c.item.view_is c.item.invariant.whole)
      (sym (ap (λ is. is_older is c.args.item) c.as_slice.ensures) ∙ sym c.is_older.ensures ∙ c.if-not-is_older.false)
      c.push.ensures.ok c.push.ensures.err;
}
