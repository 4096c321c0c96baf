-- Whether two lists of fragments are the same.
use Rattle.std.specs.Prelude.{Bool, List, ◌&&◌}
use Rattle.std.specs.Cmp.Lexicographic.{pointwise}
use Rattle.mvcc_key.specs.Order.{is_same_key}
use Rattle.mvcc_key.specs.Fragments.{Fragment, is_same_stack}

-- the same bounds and the same stack
abbrev pub is_same_fragment : Fragment → Fragment → Bool
is_same_fragment f g = is_same_key f.start g.start && is_same_key f.end g.end && is_same_stack f.stack g.stack

-- the same fragments
abbrev pub are_same_fragments : List Fragment → List Fragment → Bool
are_same_fragments = pointwise is_same_fragment
