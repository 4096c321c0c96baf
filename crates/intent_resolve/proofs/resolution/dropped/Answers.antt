-- Where the epochs are equal the ignored entries do not count.
use Rattle.std.proofs.Common.{◌∙◌, ap, sym, map, cond}
use Rattle.mvcc_key.specs.History.{without_ignored}
use Rattle.mvcc_key.specs.views.Seen.{range_of}
use Rattle.intent_resolve.specs.views.Seen.{update_of}
use Rattle.intent_resolve.proofs.RuleLaws.{part}
use Rattle.intent_resolve.proofs.PartLaws.{filter-all}
use Rattle.intent_resolve.proofs.resolution.dropped.Goals as goal

pub returns-then-is_of_epoch : goal.returns-then-is_of_epoch
returns-then-is_of_epoch c = λ i of.
    let same = sym (c.is_of_epoch.ensures i of) ∙ c.if-is_of_epoch.true in
    ap (λ rs. without_ignored (map range_of rs) i.entries) c.as_slice.ensures ∙ λ j. (cond (sym same j) (part (update_of c.args.update.now) i) i).entries

pub returns-else-is_of_epoch : goal.returns-else-is_of_epoch
returns-else-is_of_epoch c = λ i of.
    let other = sym (c.is_of_epoch.ensures i of) ∙ c.if-is_of_epoch.false in
    filter-all i.entries ∙ λ j. (cond (sym other j) (part (update_of c.args.update.now) i) i).entries
