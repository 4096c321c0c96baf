-- Pieces joined as they come.
use Rattle.std.specs.Prelude.{Bool, false, ◌&&◌, List, [], ◌∷◌, ◌++◌, fold, if◌then◌else◌}
use Rattle.mvcc_key.specs.Order.{Timestamp, Key, is_same_key}
use Rattle.mvcc_key.specs.Fragments.{Fragment, is_same_stack}
use Rattle.mvcc_key.specs.Pieces.{piece}

-- a piece that starts here with this stack is one with the last
abbrev pub is_one_with_last : List Fragment → Key → List Timestamp → Bool
is_one_with_last [] start stack = false
is_one_with_last (f ∷ []) start stack = is_same_key f.end start && is_same_stack f.stack stack
is_one_with_last (f ∷ g ∷ gs) start stack = is_one_with_last (g ∷ gs) start stack

-- the list with the last up to this end
abbrev pub with_last_end : List Fragment → Key → List Fragment
with_last_end [] end = []
with_last_end (f ∷ []) end = piece f.start end f.stack ∷ []
with_last_end (f ∷ g ∷ gs) end = f ∷ with_last_end (g ∷ gs) end

-- the list with a piece behind it, or one with the last
abbrev pub joined_with : List Fragment → Fragment → List Fragment
joined_with fs p = if is_one_with_last fs p.start p.stack then with_last_end fs p.end else fs ++ p ∷ []

-- the list with more pieces behind it
abbrev pub joined_on : List Fragment → List Fragment → List Fragment
joined_on = fold joined_with
