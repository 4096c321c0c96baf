use Rattle.std.proofs.Common.{List, ℕ, subst}
use Rattle.mvcc_key.specs.Encoded.{name_in, IsName}
use Rattle.mem_table.specs.views.Places.{IsPlaceOf}
use Rattle.mem_table.specs.views.Seen.{points_held}
use Rattle.std.proofs.Common.{sym}
use Rattle.mem_table.proofs.sorted.SortedOps.put.Goals as goal

pub find-place-requires : goal.find-place-requires
find-place-requires c = subst IsName (sym c.as_slice.ensures) c.requires.op.name

pub replace-requires-clause-place : goal.replace-requires-clause-place
replace-requires-clause-place c =
    subst (λ (key : List ℕ). IsPlaceOf (name_in key) (points_held c.args.self.now) c.find-place.result) c.as_slice.ensures c.find-place.ensures

pub add-requires-clause-place : goal.add-requires-clause-place
add-requires-clause-place c =
    subst (λ (key : List ℕ). IsPlaceOf (name_in key) (points_held c.args.self.now) c.find-place.result) c.as_slice.ensures c.find-place.ensures
