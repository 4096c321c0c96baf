-- The intent that is lent tells the one that was met.
use Rattle.std.proofs.Common.{◌∙◌}
use Rattle.intent_meta.specs.views.Lent.{seen_intent_at}
use Rattle.mvcc_cursor.specs.views.Seen.{told_by}
use Rattle.mvcc_scan.proofs.KeptLaws.{met-some}
use Rattle.mvcc_scan.proofs.met.intent_met.Goals as goal

pub returns : goal.returns
returns c =
    met-some (told_by c.args.cursor.now).intent (seen_intent_at c.in_ok-intent.intent) _ _ c.in_ok-intent.ensures (c.from.ensures ∙ c.id.ensures) c.ts.ensures
