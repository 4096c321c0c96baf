use Rattle.std.proofs.Common.{sym, subst}
use Rattle.mvcc_key.specs.Canonical.{IsCanonical}
use Rattle.mvcc_key.proofs.SpanCutLaws.{cut_to-canonical}
use Rattle.range_key.proofs.lent.FragmentsRef.truncate.Goals as goal

pub of-requires : goal.of-requires
of-requires c =
    subst IsCanonical (sym c.in_ok-held.ensures) (cut_to-canonical c.args.start.now c.args.end.now c.self.inside.held.now c.self.invariant)

pub returns-clause-canonical : goal.returns-clause-canonical
returns-clause-canonical c =
    subst IsCanonical (sym c.of.ensures)
    (subst IsCanonical (sym c.in_ok-held.ensures) (cut_to-canonical c.args.start.now c.args.end.now c.self.inside.held.now c.self.invariant))
