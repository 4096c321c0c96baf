-- A list of fragments, and what is to stand in its place.
use Rattle.std.specs.Prelude.{ℕ, ◌+◌, ◌≤◌, List, ⊤, vec_len}
use Rattle.mvcc_key.specs.Fragments.{Fragment}
use Rattle.mvcc_key.specs.Canonical.{IsCanonical}
use Rattle.range_key.specs.views.Planned.{IsWithin, with_pieces}
use Rattle.range_key.specs.declared.staged.Next.{Next}
use Rattle.range_key.specs.declared.staged.Next.TheVariants.{Same, Changed, Other}

-- the list that is to stand in the place of this one
abbrev pub next_of : List Fragment → Next → List Fragment
next_of fs Same = fs
next_of fs (Changed change) = with_pieces fs change
next_of fs (Other list) = list

-- a change is of this list, in which there is room for its pieces
abbrev pub IsReady : List Fragment → ℕ → ℕ → Next → Type 0
IsReady fs len capacity Same = ⊤
IsReady fs len capacity (Changed change) = IsWithin fs change × (len + vec_len change.pieces ≤ capacity)
IsReady fs len capacity (Other list) = ⊤

-- both lists are canonical, and the second can be put in place
pub record IsStaged (fs : List Fragment) (len capacity : ℕ) (next : Next) : Type 0 where
  pub canonical : IsCanonical fs
  pub next_canonical : IsCanonical (next_of fs next)
  pub ready : IsReady fs len capacity next
