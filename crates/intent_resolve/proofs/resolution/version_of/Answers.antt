-- A commit below the intent is refused, and else its last value is a version.
use Rattle.std.proofs.Common.{sym, ap, subst, ◌∙◌}
use Rattle.std.specs.Ordering.{is_lt}
use Rattle.mvcc_key.specs.views.Seen.{time_of}
use Rattle.mvcc_value.specs.views.Seen.{seen_body}
use Rattle.intent_meta.specs.views.Lent.{LentIntent}
use Rattle.mvcc_cursor.specs.views.Lent.{LentVersion}
use Rattle.intent_resolve.specs.Resolve.{Committed, resolution}
use Rattle.intent_resolve.specs.views.Left as left
use Rattle.intent_resolve.specs.views.Left.{IsRuled}
use Rattle.intent_resolve.specs.views.Seen.{update_of}
use Rattle.intent_resolve.proofs.RuleLaws.{commit-below, commit-above}
use Rattle.intent_resolve.proofs.resolution.version_of.Goals as goal

pub returns-then-is_lt : goal.returns-then-is_lt
returns-then-is_lt c = λ i of same some.
    commit-below (update_of c.args.update.now) i (seen_body c.args.value) (time_of c.ts-old.result) same some
    (c.ts-old.ensures ∙ ap (λ (l : LentIntent). l.head.ts) of.lent)
    (ap is_lt (sym c.compare.ensures) ∙ sym c.is_lt.ensures ∙ c.if-is_lt.true)

pub returns : goal.returns
returns c = λ i of same some.
    let u = update_of c.args.update.now in
    subst (λ (v : LentVersion). IsRuled (resolution Committed u i) (left.Becomes v)) (sym c.in_ok-version.ensures)
    (commit-above u i (seen_body c.args.value) (time_of c.ts-old.result) (time_of c.moved_local.result) same some
    (c.ts-old.ensures ∙ ap (λ (l : LentIntent). l.head.ts) of.lent)
    (ap is_lt (sym c.compare.ensures) ∙ sym c.is_lt.ensures ∙ c.if-is_lt.false)
    (c.moved_local.ensures i of))
