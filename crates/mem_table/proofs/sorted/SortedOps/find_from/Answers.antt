use Rattle.std.proofs.Common.{◌≡◌, List, sym, ap, ◌∙◌, arith}
use Rattle.std.specs.Prelude.{slice_get}
use Rattle.mvcc_key.specs.Encoded.{name_in}
use Rattle.mvcc_key.specs.Points.{Point}
use Rattle.mem_table.specs.views.Slots.{numbers_in}
use Rattle.mem_table.specs.views.Gaps.{place_of}
use Rattle.mem_table.specs.views.Seen.{points_held}
use Rattle.mem_table.proofs.HeldLaws.{indexed-held, points-listed, length-points}
use Rattle.mem_table.proofs.FoundLaws.{place-known, place-new}
use Rattle.mem_table.proofs.sorted.SortedOps.find_from.Goals as goal

pub is_at-requires-clause-index : goal.is_at-requires-clause-index
is_at-requires-clause-index g c =
    let s = c.args.self.now in
    indexed-held s.ops.ops.items s.leaves.leaves.items s.numbers s.abbreviated_keys s.entries

pub returns-then-is_at : goal.returns-then-is_at
returns-then-is_at g c =
    let s = c.args.self.now in
    let leaves = s.leaves.leaves.items in
    let place = place_of leaves c.gap_of-leaf.result.0 c.gap_of-leaf.result.1 in
    let low_is : c.place-low.result ≡ place = c.place-low.ensures in
    let count = length-points s.ops.ops.items (numbers_in leaves) in
    place-known (name_in c.args.key.now) (points_held s) c.place-low.result c.is_at.result s.entries.rising (low_is ∙ c.gap_of-leaf.ensures.place)
    (λ holds. (let within = c.is_at.ensures.within holds in omega arith)) c.if-is_at.true
    (λ p here. c.is_at.ensures.found p (ap (λ (ps : List Point). slice_get ps place) (sym (points-listed s.ops.ops.items (numbers_in leaves)))
    ∙ ap (slice_get (points_held s)) (sym low_is) ∙ here))

pub returns-else-is_at : goal.returns-else-is_at
returns-else-is_at g c =
    let s = c.args.self.now in
    let leaves = s.leaves.leaves.items in
    let place = place_of leaves c.gap_of-leaf.result.0 c.gap_of-leaf.result.1 in
    let low_is : c.place-low.result ≡ place = c.place-low.ensures in
    place-new (name_in c.args.key.now) (points_held s) c.place-low.result c.is_at.result s.entries.rising (low_is ∙ c.gap_of-leaf.ensures.place) c.if-is_at.false
    (λ p here. c.is_at.ensures.found p (ap (λ (ps : List Point). slice_get ps place) (sym (points-listed s.ops.ops.items (numbers_in leaves)))
    ∙ ap (slice_get (points_held s)) (sym low_is) ∙ here))
