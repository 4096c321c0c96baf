use Rattle.std.proofs.Common.{◌∙◌, ap, sym, not, slice_range, List}
use Rattle.mvcc_key.specs.Fragments.{Fragment}
use Rattle.mvcc_key.specs.SameFragments.{are_same_fragments}
use Rattle.range_key.proofs.SameLaws.{same-stretch}
use Rattle.range_key.proofs.planned.Change.alters.Goals as goal

pub returns : goal.returns
returns c =
    let change = c.args.self.now in
    c.ne.ensures
    ∙ ap (λ (ps : List Fragment). not (are_same_fragments (slice_range c.args.fragments.now change.low change.high) ps)) c.as_slice.ensures.value
    ∙ ap not (sym (same-stretch change.low change.high c.args.fragments.now change.pieces.items c.requires.ordered))
