-- Places among leaves.
use Rattle.std.proofs.Common.{◌≡◌, ℕ, ◌+◌, ◌-◌, ◌<◌, ◌≤◌, List, length, get_or, sym, ap, ◌∙◌, arith}
use Rattle.std.specs.Prelude.{slice_get, Some}
use Rattle.std.proofs.lemmas.Option.{slice_get-get_or}
use Rattle.std.proofs.lemmas.List.{get_or_default}
use Rattle.std.proofs.lemmas.List.Concat.{get_or-flat_map}
use Rattle.std.proofs.lemmas.List.Folds.{length-flat_map-take}
use Rattle.mem_table.specs.views.Slots.{Slots, no_slots, AreLeaves, numbers_in}
use Rattle.mem_table.specs.views.Gaps.{leaf_at, place_of, IsSlot}
use Rattle.mem_table.proofs.LeafLaws.{leaf-at}
use Rattle.mem_table.proofs.EditLaws.{place-next}

-- the leaf that was read, and its numbers
pub numbers-read : (leaves : List Slots) (leaf : ℕ) (found : Slots) (numbers : List ℕ) → leaf < length leaves → found ≡ get_or leaves leaf found → numbers ≡ found.numbers
    → numbers ≡ (leaf_at leaves leaf).numbers
numbers-read leaves leaf found numbers within read is = is ∙ ap (λ (s : Slots). s.numbers) (read ∙ get_or_default leaves leaf found no_slots within)

-- a slot is within all leaves
pub place-within : (leaves : List Slots) (leaf slot : ℕ) → leaf < length leaves → slot < length (leaf_at leaves leaf).numbers → place_of leaves leaf slot < length (numbers_in leaves)
place-within leaves leaf slot within there = (let le = length-flat_map-take (λ (s : Slots). s.numbers) leaves leaf no_slots within in omega arith)

-- the number at a slot
pub number-there : (leaves : List Slots) (leaf slot : ℕ) (found : Slots) (numbers : List ℕ) → leaf < length leaves → slot < length (leaf_at leaves leaf).numbers
    → found ≡ get_or leaves leaf found → numbers ≡ found.numbers → slice_get (numbers_in leaves) (place_of leaves leaf slot) ≡ Some (get_or numbers slot 0)
number-there leaves leaf slot found numbers within there read is =
    slice_get-get_or (numbers_in leaves) (place_of leaves leaf slot) 0 (place-within leaves leaf slot within there)
    ∙ ap Some (get_or-flat_map (λ (s : Slots). s.numbers) leaves leaf slot no_slots 0 within there ∙ ap (λ (ns : List ℕ). get_or ns slot 0) (sym (numbers-read leaves leaf found numbers within read is)))

-- behind the last slot of a leaf comes the first of the next
pub slot-next : (leaves : List Slots) (leaf slot : ℕ) (found : Slots) (numbers : List ℕ) → AreLeaves leaves → leaf + 1 < length leaves → slot ≤ length (leaf_at leaves leaf).numbers
    → length numbers ≤ slot → found ≡ get_or leaves leaf found → numbers ≡ found.numbers
    → IsSlot leaves (leaf + 1) 0 × (place_of leaves (leaf + 1) 0 ≡ place_of leaves leaf slot)
slot-next leaves leaf slot found numbers are within there past read is =
    let same = ap length (numbers-read leaves leaf found numbers (omega arith) read is) in
    let one = (leaf-at leaves (leaf + 1) no_slots are within).enough in
    let last : length (leaf_at leaves leaf).numbers ≡ slot = omega arith in
    (record { leaf_within = within; slot_within = omega arith }, place-next leaves leaf within ∙ ap (place_of leaves leaf) last)

-- before the first slot of a leaf comes the last of the one before
pub slot-before : (leaves : List Slots) (leaf slot : ℕ) (found : Slots) (numbers : List ℕ) → AreLeaves leaves → leaf ≤ length leaves - 1 → 0 < leaf → slot ≡ 0
    → found ≡ get_or leaves (leaf - 1) found → numbers ≡ found.numbers
    → IsSlot leaves (leaf - 1) (length numbers - 1) × (place_of leaves (leaf - 1) (length numbers - 1) + 1 ≡ place_of leaves leaf slot)
slot-before leaves leaf slot found numbers are within some first read is =
    let same = ap length (numbers-read leaves (leaf - 1) found numbers (omega arith) read is) in
    let one = (leaf-at leaves (leaf - 1) no_slots are (omega arith)).enough in
    let back : leaf - 1 + 1 ≡ leaf = omega arith in
    let next = place-next leaves (leaf - 1) (omega arith) in
    let here = ap (λ (n : ℕ). place_of leaves n 0) back in
    (record { leaf_within = omega arith; slot_within = omega arith }, omega arith)
