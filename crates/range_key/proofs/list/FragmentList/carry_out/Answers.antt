use Rattle.std.proofs.Common.{◌∙◌, ap, sym, not}
use Rattle.mvcc_key.specs.SameFragments.{are_same_fragments}
use Rattle.range_key.specs.views.Planned.{with_pieces}
use Rattle.range_key.proofs.SameLaws.{are_same-true, not_false}
use Rattle.range_key.proofs.list.FragmentList.carry_out.Goals as goal

pub returns-else-alters-clause-ok : goal.returns-else-alters-clause-ok
returns-else-alters-clause-ok c =
    are_same-true c.args.self.now (with_pieces c.args.self.now c.args.change)
    (not_false _ (ap (λ fs. not (are_same_fragments fs (with_pieces fs c.args.change))) (sym (c.as_slice.ensures.value ∙ c.self.view_is)) ∙ sym c.alters.ensures ∙ c.if-alters.false))
