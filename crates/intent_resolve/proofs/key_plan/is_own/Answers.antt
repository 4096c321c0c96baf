use Rattle.std.specs.Prelude.{bytes_eq}
use Rattle.std.proofs.Common.{◌∙◌}
use Rattle.intent_meta.specs.views.Seen.{seen_intent}
use Rattle.mvcc_cursor.specs.Standing.{told}
use Rattle.mvcc_cursor.specs.views.Seen.{seen}
use Rattle.intent_resolve.specs.views.Seen.{update_of}
use Rattle.intent_resolve.proofs.LookLaws.{own-some, own-none}
use Rattle.intent_resolve.proofs.key_plan.is_own.Goals as goal

pub returns-in-Some : goal.returns-in-Some
returns-in-Some c =
    own-some (update_of c.args.update.now) (seen_intent c.in-Some.head) (told (seen c.args.cursor.now)).intent c.is_same.result c.in-Some.ensures
    (c.is_same.ensures ∙ λ j. bytes_eq ((c.from.ensures ∙ c.id.ensures) j) (c.from-in-Some.ensures j))

pub returns-in-None : goal.returns-in-None
returns-in-None c = own-none (update_of c.args.update.now) (told (seen c.args.cursor.now)).intent c.in-None.ensures
