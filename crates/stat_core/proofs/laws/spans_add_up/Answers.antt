use Rattle.stat_core.proofs.laws.spans_add_up.Goals as goal
use Rattle.stat_core.proofs.SliceLaws.{compute_span-canonical_cut}

pub returns : goal.returns
returns c = compute_span-canonical_cut
