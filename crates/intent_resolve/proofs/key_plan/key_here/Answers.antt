use Rattle.std.proofs.Common.{◌∙◌}
use Rattle.mvcc_cursor.specs.Standing.{told}
use Rattle.mvcc_cursor.specs.WellFormed.{history_in}
use Rattle.mvcc_cursor.specs.views.Seen.{seen}
use Rattle.mvcc_key.proofs.HistoryLaws.{intent_of-key}
use Rattle.intent_resolve.proofs.LookLaws.{key-here, some_there, mapped_some, mapped_is}
use Rattle.intent_resolve.proofs.PlanLaws.{is_at, intent-there}
use Rattle.intent_resolve.proofs.key_plan.key_here.Goals as goal

pub unwrap-requires : goal.unwrap-requires
unwrap-requires c =
    let s = seen c.args.cursor.now in
    let there = some_there (told s).intent c.requires.there in
    let place = is_at s there.0 there.1 in
    mapped_some _ c.key.result _ (c.key.ensures ∙ key-here s place.key there.0 place.at c.requires.formed (intent-there s place.key there.0 place.at there.1))

pub returns : goal.returns
returns c = λ key at.
    let s = seen c.args.cursor.now in
    let there = some_there (told s).intent c.requires.there in
    let was = intent-there s key there.0 at there.1 in
    mapped_is _ c.key.result c.unwrap.result _ c.unwrap.ensures (c.key.ensures ∙ key-here s key there.0 at c.requires.formed was)
    ∙ intent_of-key key (history_in s.store) there.0 was
