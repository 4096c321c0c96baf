-- The status decides.
use Rattle.std.proofs.Common.{refl, sym, ap, subst}
use Rattle.intent_resolve.specs.Resolve.{Gone, resolution}
use Rattle.intent_resolve.specs.views.Left.{Rules}
use Rattle.intent_resolve.specs.views.Seen.{status_of, update_of}
use Rattle.intent_resolve.proofs.resolution.resolve_intent.Goals as goal

pub returns-in-Aborted : goal.returns-in-Aborted
returns-in-Aborted c = λ i of. record {
  resolution_is = Gone;
  resolves = ap (λ s. resolution (status_of s) (update_of c.args.update.now) i) c.in-Aborted.is;
  left_is = refl;
}

pub returns-in-Committed : goal.returns-in-Committed
returns-in-Committed c = λ i of.
    subst (λ s. Rules c.committed.result (resolution (status_of s) (update_of c.args.update.now) i)) (sym c.in-Committed.is) (c.committed.ensures i of)

pub returns-in-Pending : goal.returns-in-Pending
returns-in-Pending c = λ i of.
    subst (λ s. Rules c.pending.result (resolution (status_of s) (update_of c.args.update.now) i)) (sym c.in-Pending.is) (c.pending.ensures i of)
