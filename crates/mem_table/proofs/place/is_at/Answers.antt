use Rattle.std.proofs.Common.{◌≡◌, ℕ, List, sym, ap, ◌∙◌, arith}
use Rattle.std.specs.Prelude.{slice_get, Some}
use Rattle.std.specs.Option.{option_map}
use Rattle.std.specs.Ordering.{is_eq}
use Rattle.std.proofs.lemmas.Option.{slice_get-map, slice_get_within}
use Rattle.mvcc_key.specs.Order.{Name, name_cmp}
use Rattle.mvcc_key.specs.Encoded.{name_in}
use Rattle.mvcc_key.specs.Points.{Point}
use Rattle.mvcc_key.proofs.PointLaws.{HasPoint-key, named-key}
use Rattle.mem_table.specs.views.Entries.{entry_at, numbered}
use Rattle.mem_table.specs.views.Slots.{numbers_in}
use Rattle.mem_table.specs.views.Gaps.{place_of}
use Rattle.mem_table.proofs.GapLaws.{place-within}
use Rattle.mem_table.proofs.NumberedLaws.{key-name, length-numbered}
use Rattle.mem_table.proofs.place.is_at.Goals as goal

pub cmp_encoded-requires-clause-left : goal.cmp_encoded-requires-clause-left
cmp_encoded-requires-clause-left g c =
    let points = g.E.Entries.points c.args.entries.now in
    let number = c.number.result in
    named-key points number c.key.result.now (HasPoint-key points number c.key.result.now (g.met.E.Entries.encodable c.args.entries.now) c.key.ensures)

pub returns-in-Some-clause-found : goal.returns-in-Some-clause-found
returns-in-Some-clause-found g c p is =
    let points = g.E.Entries.points c.args.entries.now in
    let leaves = c.args.leaves.now.leaves.items in
    let numbers : List ℕ = numbers_in leaves in
    let number = c.number.result in
    let place = c.in-Some.ensures.1 in
    let at : slice_get (numbered points numbers) (place_of leaves c.in-Some.at.0 c.in-Some.at.1) ≡ Some (entry_at points number) =
    slice_get-map (entry_at points) numbers _ ∙ ap (option_map (entry_at points)) c.number.ensures in
    let same : Some (entry_at points number) ≡ Some p = sym at ∙ ap (slice_get (numbered points numbers)) place ∙ is in
    let entry : entry_at points number ≡ p = cc in
    let named : name_in c.key.result.now ≡ p.name = key-name points number c.key.result.now (g.met.E.Entries.encodable c.args.entries.now) c.key.ensures ∙ ap (λ (q : Point). q.name) entry in
    c.is_eq.ensures ∙ ap is_eq (c.cmp_encoded.ensures ∙ ap (λ (n : Name). name_cmp n (name_in c.args.sought.now)) named)

pub returns-in-Some-clause-within : goal.returns-in-Some-clause-within
returns-in-Some-clause-within g c holds =
    let leaves = c.args.leaves.now.leaves.items in
    let slot = c.in-Some.ensures.0 in
    let place = c.in-Some.ensures.1 in
    let within = place-within leaves c.in-Some.at.0 c.in-Some.at.1 slot.leaf_within slot.slot_within in
    omega arith

pub returns-in-None-clause-found : goal.returns-in-None-clause-found
returns-in-None-clause-found g c p is =
    let points = g.E.Entries.points c.args.entries.now in
    let numbers : List ℕ = numbers_in c.args.leaves.now.leaves.items in
    let within = slice_get_within (numbered points numbers) _ p is in
    let count = length-numbered points numbers in
    let past = c.in-None.ensures in
    absurd (omega arith)
