use Rattle.std.proofs.Common.{◌≡◌, Some, is_lt, ap, ◌∙◌}
use Rattle.mvcc_key.specs.Lists.{last}
use Rattle.mvcc_key.specs.Order.{time_cmp}
use Rattle.intent_meta.specs.views.Listed.{is_older_than}
use Rattle.intent_meta.proofs.LentLaws.{last-at}
use Rattle.intent_meta.proofs.listed_items.is_older.Goals as goal

pub returns-in-Some : goal.returns-in-Some
returns-in-Some c =
    let found : Some c.in-Some.last.now ≡ last c.args.items.now = (rw c.in-Some.is at c.last.ensures.value) ∙ last-at c.args.items.now in
    c.is_lt.ensures ∙ ap is_lt (c.compare.ensures ∙ λ i. time_cmp (c.ts.ensures.ts i) (c.ts-in-Some.ensures.ts i))
    ∙ ap (λ o. is_older_than o c.args.item.now.ts) found
