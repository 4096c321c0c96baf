-- Leaves after a change.
use Rattle.std.proofs.Common.{◌≡◌, ℕ, zero, suc, ◌+◌, ◌-◌, ◌<◌, ◌≤◌, List, [], ◌∷◌, ◌++◌, length, map, take, drop, set, get_or, refl, sym, ap, ap₂, subst, ◌∙◌, arith, append_assoc}
use Rattle.std.specs.Prelude.{insert}
use Rattle.std.proofs.lemmas.List.{map-append, length-append, length-take-le, length-drop, take-map, drop-map, take-append-drop, get_or_default, map-set, get_or-set_same}
use Rattle.std.proofs.lemmas.List.Edits.{length-insert, insert_end, insert-append_left, insert-append_right}
use Rattle.mvcc_key.specs.Points.{Point}
use Rattle.mem_table.specs.views.Entries.{abbreviated_at}
use Rattle.mem_table.specs.views.Slots.{Slots, no_slots, half, most, IsEmptyLeaf, IsLeaf, least_before, AreLeaves, first_abbreviated, with_slot, lower_half, upper_half, split_leaf, numbers_in, HaveAbbreviatedKeys}
use Rattle.mem_table.specs.views.Gaps.{leaf_at, place_of}
use Rattle.mem_table.proofs.LeafLaws.{leaf-at}

-- ---- one slot more

map-insert : (f : ℕ → ℕ) (xs : List ℕ) (i x : ℕ) → map f (insert xs i x) ≡ insert (map f xs) i (f x)
map-insert f xs i x = map-append f (take i xs) (x ∷ drop i xs) ∙ ap₂ (λ (us : List ℕ) (vs : List ℕ). us ++ f x ∷ vs) (sym (take-map f i xs)) (sym (drop-map f i xs))

-- a leaf with one more slot
pub leaf-more : (least : ℕ) (s : Slots) (slot abbreviated number : ℕ) → IsLeaf least s → length s.numbers < most → slot ≤ length s.numbers → IsLeaf least (with_slot s slot abbreviated number)
leaf-more least s slot abbreviated number is room within =
    let numbers = length-insert s.numbers slot number within in
    let beside = is.beside in
    let abbreviated_keys = length-insert s.abbreviated_keys slot abbreviated (omega arith) in
    record { enough = (let e = is.enough in omega arith); few = omega arith; beside = omega arith }

leaves-set : (leaves : List Slots) (i slot abbreviated number : ℕ) → AreLeaves leaves → i < length leaves → length (leaf_at leaves i).numbers < most → slot ≤ length (leaf_at leaves i).numbers
    → AreLeaves (set leaves i (with_slot (leaf_at leaves i) slot abbreviated number))
leaves-set [] i slot abbreviated number are within room there = absurd (omega arith)
leaves-set (s ∷ ss) zero slot abbreviated number are within room there = (leaf-more (least_before ss) s slot abbreviated number are.0 room there, are.1)
leaves-set (s ∷ []) (suc i) slot abbreviated number are within room there = absurd (omega arith)
leaves-set (s ∷ t ∷ ts) (suc zero) slot abbreviated number are within room there = (are.0, leaves-set (t ∷ ts) zero slot abbreviated number are.1 (omega arith) room there)
leaves-set (s ∷ t ∷ ts) (suc (suc i)) slot abbreviated number are within room there = (are.0, leaves-set (t ∷ ts) (suc i) slot abbreviated number are.1 (omega arith) room there)

-- with one more slot in one of them, leaves have enough slots
pub put-leaves : (leaves new : List Slots) (i slot abbreviated number : ℕ) (s : Slots) → AreLeaves leaves → i < length leaves → length (leaf_at leaves i).numbers < most → slot ≤ length (leaf_at leaves i).numbers
    → s ≡ get_or leaves i s → new ≡ set leaves i (with_slot s slot abbreviated number) → AreLeaves new
put-leaves leaves new i slot abbreviated number s are within room there read is =
    let at : s ≡ leaf_at leaves i = read ∙ get_or_default leaves i s no_slots within in
    subst AreLeaves (sym (is ∙ ap (λ (t : Slots). set leaves i (with_slot t slot abbreviated number)) at)) (leaves-set leaves i slot abbreviated number are within room there)

put_numbers : (leaves : List Slots) (i slot abbreviated number : ℕ) → i < length leaves → slot ≤ length (leaf_at leaves i).numbers
    → numbers_in (set leaves i (with_slot (leaf_at leaves i) slot abbreviated number)) ≡ insert (numbers_in leaves) (place_of leaves i slot) number
put_numbers [] i slot abbreviated number within there = absurd (omega arith)
put_numbers (s ∷ ss) zero slot abbreviated number within there = sym (insert-append_left s.numbers (numbers_in ss) slot number there) ∙ ap (λ (n : ℕ). insert (s.numbers ++ numbers_in ss) n number) (omega arith)
put_numbers (s ∷ ss) (suc i) slot abbreviated number within there =
    let rest = put_numbers ss i slot abbreviated number (omega arith) there in
    let before = length-append s.numbers (numbers_in (take i ss)) in
    let place : length (s.numbers ++ numbers_in (take i ss)) + slot - length s.numbers ≡ place_of ss i slot = omega arith in
    ap (λ (ns : List ℕ). s.numbers ++ ns) rest
    ∙ ap (λ (n : ℕ). s.numbers ++ insert (numbers_in ss) n number) (sym place)
    ∙ sym (insert-append_right s.numbers (numbers_in ss) (length s.numbers) (length (s.numbers ++ numbers_in (take i ss)) + slot) number refl (omega arith))

-- their numbers are the old ones with that one put at its place
pub put-numbers : (leaves new : List Slots) (i slot abbreviated number : ℕ) (s : Slots) → i < length leaves → slot ≤ length (leaf_at leaves i).numbers
    → s ≡ get_or leaves i s → new ≡ set leaves i (with_slot s slot abbreviated number) → numbers_in new ≡ insert (numbers_in leaves) (place_of leaves i slot) number
put-numbers leaves new i slot abbreviated number s within there read is =
    let at : s ≡ leaf_at leaves i = read ∙ get_or_default leaves i s no_slots within in
    ap numbers_in (is ∙ ap (λ (t : Slots). set leaves i (with_slot t slot abbreviated number)) at) ∙ put_numbers leaves i slot abbreviated number within there

put_abbreviated_keys : (points : List Point) (leaves : List Slots) (i slot abbreviated number : ℕ) → i < length leaves → abbreviated ≡ abbreviated_at points number → HaveAbbreviatedKeys points leaves
    → HaveAbbreviatedKeys points (set leaves i (with_slot (leaf_at leaves i) slot abbreviated number))
put_abbreviated_keys points [] i slot abbreviated number within is h = absurd (omega arith)
put_abbreviated_keys points (s ∷ ss) zero slot abbreviated number within is h =
    (ap₂ (λ (hs : List ℕ) (x : ℕ). insert hs slot x) h.0 is ∙ sym (map-insert (abbreviated_at points) s.numbers slot number), h.1)
put_abbreviated_keys points (s ∷ ss) (suc i) slot abbreviated number within is h = (h.0, put_abbreviated_keys points ss i slot abbreviated number (omega arith) is h.1)

-- and the abbreviated keys are still those of the entries
pub put-abbreviated_keys : (points : List Point) (leaves new : List Slots) (i slot abbreviated number : ℕ) (s : Slots) → i < length leaves → s ≡ get_or leaves i s
    → new ≡ set leaves i (with_slot s slot abbreviated number) → abbreviated ≡ abbreviated_at points number → HaveAbbreviatedKeys points leaves → HaveAbbreviatedKeys points new
put-abbreviated_keys points leaves new i slot abbreviated number s within read is abbreviated_is h =
    let at : s ≡ leaf_at leaves i = read ∙ get_or_default leaves i s no_slots within in
    subst (HaveAbbreviatedKeys points) (sym (is ∙ ap (λ (t : Slots). set leaves i (with_slot t slot abbreviated number)) at)) (put_abbreviated_keys points leaves i slot abbreviated number within abbreviated_is h)

pub put-firsts : (leaves new : List Slots) (firsts : List ℕ) (i : ℕ) (s changed : Slots) → i < length leaves → firsts ≡ map first_abbreviated leaves → new ≡ set leaves i s
    → changed ≡ get_or new i changed → set firsts i (first_abbreviated changed) ≡ map first_abbreviated new
put-firsts leaves new firsts i s changed within are is read =
    let at : changed ≡ s = read ∙ ap (λ (ls : List Slots). get_or ls i changed) is ∙ get_or-set_same leaves i s changed within in
    ap₂ (λ (hs : List ℕ) (t : Slots). set hs i (first_abbreviated t)) are at ∙ sym (map-set first_abbreviated leaves i s) ∙ ap (map first_abbreviated) (sym is)

-- ---- one leaf more at the end

-- a leaf of one slot
pub leaf-one : (s : Slots) (abbreviated number : ℕ) → IsEmptyLeaf s → IsLeaf 1 (with_slot s 0 abbreviated number)
leaf-one s abbreviated number empty =
    let abbreviated_keys = ap length empty.0 in
    let numbers = ap length empty.1 in
    let more_abbreviated_keys = length-insert s.abbreviated_keys 0 abbreviated (omega arith) in
    let more_numbers = length-insert s.numbers 0 number (omega arith) in
    record { enough = omega arith; few = omega arith; beside = omega arith }

pub begin-leaves : (leaves : List Slots) (s : Slots) → AreLeaves leaves → ((last : ℕ) → last + 1 ≡ length leaves → half ≤ length (leaf_at leaves last).numbers)
    → IsLeaf 1 s → AreLeaves (leaves ++ s ∷ [])
begin-leaves [] s are enough one = (one, tt)
begin-leaves (t ∷ []) s are enough one = (record { enough = enough 0 (omega arith); few = are.0.few; beside = are.0.beside }, (one, tt))
begin-leaves (t ∷ u ∷ us) s are enough one = (are.0, begin-leaves (u ∷ us) s are.1 (λ last is. enough (suc last) (omega arith)) one)

pub begin-firsts : (leaves new : List Slots) (firsts news : List ℕ) (empty fresh : Slots) (abbreviated number : ℕ) → firsts ≡ map first_abbreviated leaves → fresh ≡ with_slot empty 0 abbreviated number
    → new ≡ leaves ++ fresh ∷ [] → news ≡ firsts ++ abbreviated ∷ [] → news ≡ map first_abbreviated new
begin-firsts leaves new firsts news empty fresh abbreviated number are is_fresh is_new is_news =
    is_news ∙ ap₂ (λ (hs : List ℕ) (h : ℕ). hs ++ h ∷ []) are (ap first_abbreviated (sym is_fresh)) ∙ sym (map-append first_abbreviated leaves (fresh ∷ [])) ∙ ap (map first_abbreviated) (sym is_new)

-- ---- a leaf split

-- the two halves of a full leaf
pub leaf-lower : (s : Slots) → IsLeaf 1 s → length s.numbers ≡ most → IsLeaf half (lower_half s)
leaf-lower s is full =
    let numbers = length-take-le half s.numbers (omega arith) in
    let beside = is.beside in
    let abbreviated_keys = length-take-le half s.abbreviated_keys (omega arith) in
    record { enough = omega arith; few = omega arith; beside = omega arith }

pub leaf-upper : (s : Slots) → IsLeaf 1 s → length s.numbers ≡ most → IsLeaf half (upper_half s)
leaf-upper s is full =
    let numbers = length-drop half s.numbers in
    let beside = is.beside in
    let abbreviated_keys = length-drop half s.abbreviated_keys in
    record { enough = omega arith; few = omega arith; beside = omega arith }

least_half : (ss : List Slots) (s : Slots) → IsLeaf half s → IsLeaf (least_before ss) s
least_half [] s is = record { enough = (let e = is.enough in omega arith); few = is.few; beside = is.beside }
least_half (t ∷ ts) s is = is

-- split leaves have enough slots
pub split-leaves : (leaves : List Slots) (i : ℕ) → AreLeaves leaves → i < length leaves → length (leaf_at leaves i).numbers ≡ most → AreLeaves (split_leaf leaves i)
split-leaves [] i are within full = absurd (omega arith)
split-leaves (s ∷ ss) zero are within full =
    let one = leaf-at (s ∷ ss) 0 no_slots are (omega arith) in
    (leaf-lower s one full, (least_half ss (upper_half s) (leaf-upper s one full), are.1))
split-leaves (s ∷ []) (suc i) are within full = absurd (omega arith)
split-leaves (s ∷ t ∷ ts) (suc zero) are within full = (are.0, split-leaves (t ∷ ts) zero are.1 (omega arith) full)
split-leaves (s ∷ t ∷ ts) (suc (suc i)) are within full = (are.0, split-leaves (t ∷ ts) (suc i) are.1 (omega arith) full)

-- the same numbers
pub split-numbers : (leaves : List Slots) (i : ℕ) → numbers_in (split_leaf leaves i) ≡ numbers_in leaves
split-numbers [] i = refl
split-numbers (s ∷ ss) zero = sym (append_assoc (take half s.numbers) (drop half s.numbers) (numbers_in ss)) ∙ ap (λ (ns : List ℕ). ns ++ numbers_in ss) (take-append-drop half s.numbers)
split-numbers (s ∷ ss) (suc i) = ap (λ (ns : List ℕ). s.numbers ++ ns) (split-numbers ss i)

-- the abbreviated keys are still those of the entries
pub split-abbreviated_keys : (points : List Point) (leaves : List Slots) (i : ℕ) → HaveAbbreviatedKeys points leaves → HaveAbbreviatedKeys points (split_leaf leaves i)
split-abbreviated_keys points [] i h = tt
split-abbreviated_keys points (s ∷ ss) zero h =
    (ap (take half) h.0 ∙ take-map (abbreviated_at points) half s.numbers, (ap (drop half) h.0 ∙ drop-map (abbreviated_at points) half s.numbers, h.1))
split-abbreviated_keys points (s ∷ ss) (suc i) h = (h.0, split-abbreviated_keys points ss i h.1)

-- what is written: the lower half over the leaf, and the upper half behind it
split_set : (leaves : List Slots) (i : ℕ) → i < length leaves → insert (set leaves i (lower_half (leaf_at leaves i))) (suc i) (upper_half (leaf_at leaves i)) ≡ split_leaf leaves i
split_set [] i within = absurd (omega arith)
split_set (s ∷ ss) zero within = refl
split_set (s ∷ ss) (suc i) within = ap (λ (us : List Slots). s ∷ us) (split_set ss i (omega arith))

pub split-set : (leaves new : List Slots) (i : ℕ) (s lower upper : Slots) → i < length leaves → s ≡ get_or leaves i s → lower ≡ lower_half s → upper ≡ upper_half s
    → new ≡ insert (set leaves i lower) (i + 1) upper → new ≡ split_leaf leaves i
split-set leaves new i s lower upper within read is_lower is_upper is =
    let at : s ≡ leaf_at leaves i = read ∙ get_or_default leaves i s no_slots within in
    let next : i + 1 ≡ suc i = omega arith in
    is ∙ ap₂ (λ (l : Slots) (u : Slots). insert (set leaves i l) (i + 1) u) (is_lower ∙ ap lower_half at) (is_upper ∙ ap upper_half at)
    ∙ ap (λ (n : ℕ). insert (set leaves i (lower_half (leaf_at leaves i))) n (upper_half (leaf_at leaves i))) next
    ∙ split_set leaves i within

first_of_lower : (hs : List ℕ) → get_or (take half hs) 0 0 ≡ get_or hs 0 0
first_of_lower [] = refl
first_of_lower (h ∷ hs) = refl

split_firsts : (leaves : List Slots) (i : ℕ) → i < length leaves → insert (map first_abbreviated leaves) (suc i) (first_abbreviated (upper_half (leaf_at leaves i))) ≡ map first_abbreviated (split_leaf leaves i)
split_firsts [] i within = absurd (omega arith)
split_firsts (s ∷ ss) zero within = ap (λ (h : ℕ). h ∷ first_abbreviated (upper_half s) ∷ map first_abbreviated ss) (sym (first_of_lower s.abbreviated_keys))
split_firsts (s ∷ ss) (suc i) within = ap (λ (hs : List ℕ). first_abbreviated s ∷ hs) (split_firsts ss i (omega arith))

-- and the first abbreviated keys
pub split-firsts : (leaves : List Slots) (firsts new : List ℕ) (i : ℕ) (s upper : Slots) → i < length leaves → s ≡ get_or leaves i s → upper ≡ upper_half s
    → firsts ≡ map first_abbreviated leaves → new ≡ insert firsts (i + 1) (first_abbreviated upper) → new ≡ map first_abbreviated (split_leaf leaves i)
split-firsts leaves firsts new i s upper within read is_upper are is =
    let at : s ≡ leaf_at leaves i = read ∙ get_or_default leaves i s no_slots within in
    let next : i + 1 ≡ suc i = omega arith in
    is ∙ ap₂ (λ (hs : List ℕ) (u : Slots). insert hs (i + 1) (first_abbreviated u)) are (is_upper ∙ ap upper_half at)
    ∙ ap (λ (n : ℕ). insert (map first_abbreviated leaves) n (first_abbreviated (upper_half (leaf_at leaves i)))) next
    ∙ split_firsts leaves i within

-- ---- places after a split

pub split-count : (leaves : List Slots) (i : ℕ) → i < length leaves → length (split_leaf leaves i) ≡ length leaves + 1
split-count [] i within = absurd (omega arith)
split-count (s ∷ ss) zero within = omega arith
split-count (s ∷ ss) (suc i) within = (let rest = split-count ss i (omega arith) in omega arith)

pub split-at-lower : (leaves : List Slots) (i : ℕ) → i < length leaves → leaf_at (split_leaf leaves i) i ≡ lower_half (leaf_at leaves i)
split-at-lower [] i within = absurd (omega arith)
split-at-lower (s ∷ ss) zero within = refl
split-at-lower (s ∷ ss) (suc i) within = split-at-lower ss i (omega arith)

split_at_upper : (leaves : List Slots) (i : ℕ) → i < length leaves → leaf_at (split_leaf leaves i) (suc i) ≡ upper_half (leaf_at leaves i)
split_at_upper [] i within = absurd (omega arith)
split_at_upper (s ∷ ss) zero within = refl
split_at_upper (s ∷ ss) (suc i) within = split_at_upper ss i (omega arith)

pub split-at-upper : (leaves : List Slots) (i : ℕ) → i < length leaves → leaf_at (split_leaf leaves i) (i + 1) ≡ upper_half (leaf_at leaves i)
split-at-upper leaves i within = (let one : i + 1 ≡ suc i = omega arith in ap (λ (n : ℕ). leaf_at (split_leaf leaves i) n) one ∙ split_at_upper leaves i within)

pub split-place-lower : (leaves : List Slots) (i slot : ℕ) → i < length leaves → place_of (split_leaf leaves i) i slot ≡ place_of leaves i slot
split-place-lower [] i slot within = absurd (omega arith)
split-place-lower (s ∷ ss) zero slot within = refl
split-place-lower (s ∷ ss) (suc i) slot within =
    let rest = split-place-lower ss i slot (omega arith) in
    omega (arith, length-append s.numbers (numbers_in (take i ss)), length-append s.numbers (numbers_in (take i (split_leaf ss i))))

split_place_upper : (leaves : List Slots) (i slot : ℕ) → i < length leaves → half ≤ length (leaf_at leaves i).numbers → half ≤ slot
    → place_of (split_leaf leaves i) (suc i) (slot - half) ≡ place_of leaves i slot
split_place_upper [] i slot within many more = absurd (omega arith)
split_place_upper (s ∷ ss) zero slot within many more =
    let count = length-take-le half s.numbers many in
    let none = length-append (take half s.numbers) [] in
    omega arith
split_place_upper (s ∷ ss) (suc i) slot within many more =
    let rest = split_place_upper ss i slot (omega arith) many more in
    omega (arith, length-append s.numbers (numbers_in (take i ss)), length-append s.numbers (numbers_in (take (suc i) (split_leaf ss i))))

pub split-place-upper : (leaves : List Slots) (i slot : ℕ) → i < length leaves → half ≤ length (leaf_at leaves i).numbers → half ≤ slot
    → place_of (split_leaf leaves i) (i + 1) (slot - half) ≡ place_of leaves i slot
split-place-upper leaves i slot within many more =
    let one : i + 1 ≡ suc i = omega arith in
    ap (λ (n : ℕ). place_of (split_leaf leaves i) n (slot - half)) one ∙ split_place_upper leaves i slot within many more

-- the place behind the last slot of the last leaf
pub place-end : (leaves : List Slots) (i : ℕ) → i + 1 ≡ length leaves → place_of leaves i (length (leaf_at leaves i).numbers) ≡ length (numbers_in leaves)
place-end [] i last = absurd (omega arith)
place-end (s ∷ []) zero last = omega (arith, length-append s.numbers [])
place-end (s ∷ []) (suc i) last = absurd (omega arith)
place-end (s ∷ t ∷ ts) zero last = absurd (omega arith)
place-end (s ∷ t ∷ ts) (suc i) last =
    let rest = place-end (t ∷ ts) i (omega arith) in
    omega (arith, length-append s.numbers (numbers_in (take i (t ∷ ts))), length-append s.numbers (numbers_in (t ∷ ts)))

-- the place behind the last slot of another leaf is the first of the next
pub place-next : (leaves : List Slots) (i : ℕ) → i + 1 < length leaves → place_of leaves (i + 1) 0 ≡ place_of leaves i (length (leaf_at leaves i).numbers)
place-next leaves i within = (let one : i + 1 ≡ suc i = omega arith in ap (λ (n : ℕ). place_of leaves n 0) one ∙ next leaves i within)
  where
    next : (leaves : List Slots) (i : ℕ) → i + 1 < length leaves → place_of leaves (suc i) 0 ≡ place_of leaves i (length (leaf_at leaves i).numbers)
    next [] i within = absurd (omega arith)
    next (s ∷ ss) zero within = omega (arith, length-append s.numbers [])
    next (s ∷ ss) (suc i) within =
        let rest = next ss i (omega arith) in
        omega (arith, length-append s.numbers (numbers_in (take i ss)), length-append s.numbers (numbers_in (take (suc i) ss)))

-- ---- a slot in one of the halves

pub lower-long : (leaves new : List Slots) (i : ℕ) → i < length leaves → length (leaf_at leaves i).numbers ≡ most → new ≡ split_leaf leaves i → length (leaf_at new i).numbers ≡ half
lower-long leaves new i within full is =
    ap (λ (ls : List Slots). length (leaf_at ls i).numbers) is ∙ ap (λ (s : Slots). length s.numbers) (split-at-lower leaves i within)
    ∙ length-take-le half (leaf_at leaves i).numbers (omega arith)

pub upper-long : (leaves new : List Slots) (i : ℕ) → i < length leaves → length (leaf_at leaves i).numbers ≡ most → new ≡ split_leaf leaves i → length (leaf_at new (i + 1)).numbers ≡ half
upper-long leaves new i within full is =
    let count = length-drop half (leaf_at leaves i).numbers in
    let rest : length (drop half (leaf_at leaves i).numbers) ≡ half = omega arith in
    ap (λ (ls : List Slots). length (leaf_at ls (i + 1)).numbers) is ∙ ap (λ (s : Slots). length s.numbers) (split-at-upper leaves i within) ∙ rest

pub lower-numbers : (leaves new : List Slots) (i slot number : ℕ) (numbers : List ℕ) → i < length leaves → new ≡ split_leaf leaves i
    → numbers ≡ insert (numbers_in new) (place_of new i slot) number → numbers ≡ insert (numbers_in leaves) (place_of leaves i slot) number
lower-numbers leaves new i slot number numbers within is put =
    put ∙ ap (λ (ls : List Slots). insert (numbers_in ls) (place_of ls i slot) number) is
    ∙ ap₂ (λ (ns : List ℕ) (n : ℕ). insert ns n number) (split-numbers leaves i) (split-place-lower leaves i slot within)

pub upper-numbers : (leaves new : List Slots) (i slot number : ℕ) (numbers : List ℕ) → i < length leaves → length (leaf_at leaves i).numbers ≡ most → half ≤ slot → new ≡ split_leaf leaves i
    → numbers ≡ insert (numbers_in new) (place_of new (i + 1) (slot - half)) number → numbers ≡ insert (numbers_in leaves) (place_of leaves i slot) number
upper-numbers leaves new i slot number numbers within full more is put =
    put ∙ ap (λ (ls : List Slots). insert (numbers_in ls) (place_of ls (i + 1) (slot - half)) number) is
    ∙ ap₂ (λ (ns : List ℕ) (n : ℕ). insert ns n number) (split-numbers leaves i) (split-place-upper leaves i slot within (omega arith) more)

-- a number put behind all
pub end-numbers : (leaves : List Slots) (i slot number : ℕ) → i + 1 ≡ length leaves → slot ≡ length (leaf_at leaves i).numbers
    → numbers_in leaves ++ number ∷ [] ≡ insert (numbers_in leaves) (place_of leaves i slot) number
end-numbers leaves i slot number last at =
    sym (insert_end (numbers_in leaves) number)
    ∙ ap (λ (n : ℕ). insert (numbers_in leaves) n number) (sym (ap (place_of leaves i) at ∙ place-end leaves i last))
