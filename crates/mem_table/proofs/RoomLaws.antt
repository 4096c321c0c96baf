-- Room for names.
use Rattle.std.proofs.Common.{ℕ, ◌≤◌, arith}
use Rattle.mem_table.specs.views.Seen.{HasRoom}
use Rattle.mem_table.specs.declared.sorted.SortedOps.{SortedOps}

-- room for many is room for fewer
pub room-less : (s : SortedOps) (more fewer : ℕ) → fewer ≤ more → HasRoom s more → HasRoom s fewer
room-less s more fewer le h = record { leaves = (let l = h.leaves in omega arith); ops = (let o = h.ops in omega arith); few = (let f = h.few in omega arith) }
