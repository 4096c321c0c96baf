-- The local timestamp of the intent that is moved.
use Rattle.std.proofs.Common.{ap, ◌∙◌}
use Rattle.mvcc_key.specs.views.Seen.{time_of}
use Rattle.intent_meta.specs.views.Lent.{LentIntent}
use Rattle.intent_resolve.specs.views.Own.{local_after}
use Rattle.intent_resolve.proofs.own_intent.OwnIntent.moved_local.Goals as goal

pub returns : goal.returns
returns c i of =
    let times = c.ts.ensures ∙ ap (λ (l : LentIntent). l.head.ts) of.lent in
    c.moved_time.ensures ∙ λ j. local_after (times j) (of.local j) (time_of c.args.ts)
