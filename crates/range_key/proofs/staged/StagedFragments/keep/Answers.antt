use Rattle.std.proofs.Common.{◌∙◌, sym, ap, not, List}
use Rattle.mvcc_key.specs.Fragments.{Fragment}
use Rattle.mvcc_key.specs.SameFragments.{are_same_fragments}
use Rattle.range_key.specs.views.Planned.{with_pieces}
use Rattle.range_key.specs.views.Stages.{Stage}
use Rattle.range_key.proofs.SameLaws.{are_same-true, not_false}
use Rattle.range_key.proofs.staged.StagedFragments.keep.Goals as goal

pub returns-else-alters-clause-next : goal.returns-else-alters-clause-next
returns-else-alters-clause-next c =
    let fragments = c.args.self.now.fragments in
    let shown = c.as_slice.ensures.value ∙ ap (λ (s : Stage). s.fragments) c.self.view_is in
    c.requires.settled
    ∙ are_same-true fragments (with_pieces fragments c.args.change)
    (not_false _ (ap (λ (fs : List Fragment). not (are_same_fragments fs (with_pieces fs c.args.change))) (sym shown) ∙ sym c.alters.ensures ∙ c.if-alters.false))
