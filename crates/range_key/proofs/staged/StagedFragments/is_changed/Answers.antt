use Rattle.std.proofs.Common.{◌≡◌, false, not, sym, subst}
use Rattle.range_key.specs.declared.staged.Next.{Next}
use Rattle.mvcc_key.specs.SameFragments.{are_same_fragments}
use Rattle.range_key.specs.views.Staged.{next_of}
use Rattle.range_key.specs.views.Stages.{Stage}
use Rattle.range_key.proofs.SameLaws.{are_same-itself}
use Rattle.range_key.proofs.staged.StagedFragments.is_changed.Goals as goal

pub returns-in-Same : goal.returns-in-Same
returns-in-Same c =
    let held = c.self.inside.held.items in
    subst (λ (s : Stage). false ≡ not (are_same_fragments s.fragments s.next)) c.self.view_is
    (subst (λ (n : Next). false ≡ not (are_same_fragments held (next_of held n))) (sym c.in-Same.is) (are_same-itself held))
