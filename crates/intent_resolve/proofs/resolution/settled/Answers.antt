use Rattle.std.proofs.Common.{ap, ◌∙◌, map}
use Rattle.std.specs.Prelude.{option_map}
use Rattle.mvcc_key.specs.Lists.{last}
use Rattle.mvcc_key.specs.History.{Body, Entry, without_ignored}
use Rattle.mvcc_key.specs.views.Seen.{range_of}
use Rattle.intent_resolve.specs.views.Seen.{update_of}
use Rattle.intent_resolve.proofs.RuleLaws.{commit-none}
use Rattle.intent_resolve.proofs.resolution.settled.Goals as goal

pub returns-in-Some : goal.returns-in-Some
returns-in-Some c = λ i of same.
    c.version_of.ensures i of same
    (c.in-Some.ensures i of ∙ ap (λ rs. option_map (λ (e : Entry Body). e.value) (last (without_ignored (map range_of rs) i.entries))) c.as_slice.ensures)

pub returns-in-None : goal.returns-in-None
returns-in-None c = λ i of same.
    commit-none (update_of c.args.update.now) i same
    (c.in-None.ensures i of ∙ ap (λ rs. option_map (λ (e : Entry Body). e.value) (last (without_ignored (map range_of rs) i.entries))) c.as_slice.ensures)
