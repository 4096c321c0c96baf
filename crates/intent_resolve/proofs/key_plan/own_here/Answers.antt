use Rattle.std.proofs.Common.{ap, ◌∙◌}
use Rattle.std.specs.Prelude.{option_map}
use Rattle.intent_meta.specs.views.Lent.{lent_intent, seen_intent_at}
use Rattle.mvcc_cursor.specs.Standing.{told}
use Rattle.mvcc_cursor.specs.views.Seen.{seen}
use Rattle.intent_resolve.proofs.LookLaws.{some_there, mapped_some, mapped_is}
use Rattle.intent_resolve.proofs.key_plan.own_here.Goals as goal

pub unwrap-at-requires : goal.unwrap-at-requires
unwrap-at-requires c =
    let there = some_there (told (seen c.args.cursor.now)).intent c.requires in
    mapped_some seen_intent_at c.intent.result _ (c.intent.ensures ∙ ap (option_map lent_intent) there.1)

pub returns-clause-lent : goal.returns-clause-lent
returns-clause-lent c = λ i is. mapped_is seen_intent_at c.intent.result c.unwrap-at.result _ c.unwrap-at.ensures (c.intent.ensures ∙ ap (option_map lent_intent) is)
