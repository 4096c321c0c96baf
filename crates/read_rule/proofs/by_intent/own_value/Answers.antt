use Rattle.std.proofs.Common.{◌∙◌}
use Rattle.std.specs.Option.{option_map}
use Rattle.mvcc_key.specs.History.{entry_at}
use Rattle.intent_meta.specs.Entries.{entries_with}
use Rattle.intent_meta.specs.views.Seen.{seen_intent}
use Rattle.intent_meta.specs.views.Lent.{seen_intent_at}
use Rattle.read_rule.proofs.IntentLaws.{own_value-is}
use Rattle.read_rule.proofs.by_intent.own_value.Goals as goal

pub returns : goal.returns
returns c = λ i is some.
    c.entry_at.ensures
    ∙ (λ j. option_map (λ e. e.value) (entry_at (c.sequence.ensures.value j) (c.ignored.ensures.value j) (entries_with (seen_intent c.args.intent.head) c.args.intent.provisional.now)))
    ∙ own_value-is i (seen_intent_at c.args.intent) c.args.txn.now.sequence c.args.txn.now.ignored is some
