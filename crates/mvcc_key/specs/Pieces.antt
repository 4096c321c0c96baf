-- Pieces: fragments in order that may still be joined, and the pieces that a change makes.
use Rattle.std.specs.Prelude.{◌≡◌, Bool, true, false, not, List, [], ◌∷◌, ◌++◌, filter, cond, ⊤, flat_map}
use Rattle.std.specs.List.{AllByRecursion}
use Rattle.mvcc_key.specs.Lists.{before_last, put_in_order}
use Rattle.mvcc_key.specs.Order.{Timestamp, newer_first, Key, is_below, is_at_or_below, is_within}
use Rattle.mvcc_key.specs.History.{RangeTombstone, with_tombstone}
use Rattle.mvcc_key.specs.Fragments.{Fragment, joined, fragments, stack_at, part_within, cut_to, take_out}
use Rattle.mvcc_key.specs.Canonical.{IsFragment, IsCanonical, is_apart}

-- a fragment by its parts
abbrev pub piece : Key → Key → List Timestamp → Fragment
piece start end stack = record { start = start; end = end; stack = stack }

-- the fragments begin at or above the bound
abbrev pub StartsFrom : Key → List Fragment → Type 0
StartsFrom bound [] = ⊤
StartsFrom bound (f ∷ fs) = is_at_or_below bound f.start ≡ true

-- each is a fragment that ends at or before the next begins
abbrev pub ArePieces : List Fragment → Type 0
ArePieces [] = ⊤
ArePieces (f ∷ fs) = IsFragment f × StartsFrom f.end fs × ArePieces fs

-- each ends at or before the bound
abbrev pub EndBy : Key → List Fragment → Type 0
EndBy bound fs = AllByRecursion (λ f. is_at_or_below f.end bound ≡ true) fs

-- the last of a list alone, where there is one
abbrev pub last_alone : List Fragment → List Fragment
last_alone [] = []
last_alone (f ∷ []) = f ∷ []
last_alone (f ∷ g ∷ gs) = last_alone (g ∷ gs)

-- the first of a list alone, where there is one
abbrev pub first_alone : List Fragment → List Fragment
first_alone [] = []
first_alone (f ∷ fs) = f ∷ []

-- what stands behind the first
abbrev pub behind_first : List Fragment → List Fragment
behind_first [] = []
behind_first (f ∷ fs) = fs

-- each ends below the bound
abbrev pub EndBelow : Key → List Fragment → Type 0
EndBelow bound fs = AllByRecursion (λ f. is_below f.end bound ≡ true) fs

-- the list begins above the bound
abbrev pub StartsAbove : Key → List Fragment → Type 0
StartsAbove bound [] = ⊤
StartsAbove bound (f ∷ fs) = is_below bound f.start ≡ true

-- each fragment cut to a span of its own
abbrev pub cut : (Fragment → Key) → (Fragment → Key) → List Fragment → List Fragment
cut low high = flat_map (λ f. part_within (low f) (high f) f)

-- the fragments below the key
abbrev pub cut_below : Key → List Fragment → List Fragment
cut_below key = cut (λ f. f.start) (λ f. key)

-- the fragments from the key on
abbrev pub cut_from : Key → List Fragment → List Fragment
cut_from key = cut (λ f. key) (λ f. f.end)

-- the stack with the timestamp in its place where the key is in the span, and else the stack
abbrev pub stack_with : Key → Key → Timestamp → Key → List Timestamp → List Timestamp
stack_with start end ts key stack = cond (is_within start end key) (put_in_order newer_first ts stack) stack

-- the stack without the timestamps that pass the test where the key is in the span, and else the stack
abbrev pub stack_without : Key → Key → (Timestamp → Bool) → Key → List Timestamp → List Timestamp
stack_without start end test key stack = cond (is_within start end key) (filter (λ s. not (test s)) stack) stack

-- both lists show every key outside the span the same
abbrev pub AgreeOutside : Key → Key → List Fragment → List Fragment → Type 0
AgreeOutside start end fs gs = (key : Key) → is_within start end key ≡ false → stack_at fs key ≡ stack_at gs key

-- a free stretch, where there is one, under the one timestamp
abbrev pub filled : Key → Key → Timestamp → List Fragment
filled start end ts = cond (is_below start end) (piece start end (ts ∷ []) ∷ []) []

-- the timestamp laid over the pieces within a span, and over the free stretches between them
abbrev pub laid_over : Key → Key → Timestamp → List Fragment → List Fragment
laid_over start end ts [] = filled start end ts
laid_over start end ts (f ∷ fs) =
    filled start f.start ts ++ (piece f.start f.end (put_in_order newer_first ts f.stack) ∷ laid_over f.end end ts fs)

-- a piece with the stack, if that is not empty
abbrev pub covered_piece : Key → Key → List Timestamp → List Fragment
covered_piece start end [] = []
covered_piece start end (t ∷ ts) = piece start end (t ∷ ts) ∷ []

-- each piece without the timestamps that pass the test, where any are left
abbrev pub thinned : (Timestamp → Bool) → List Fragment → List Fragment
thinned test = flat_map (λ f. covered_piece f.start f.end (filter (λ s. not (test s)) f.stack))

-- the list with these pieces in place of what it has within the span
abbrev pub with_middle : Key → Key → List Fragment → List Fragment → List Fragment
with_middle start end middle fs = cut_below start fs ++ (middle ++ cut_from end fs)

-- the pieces after one more tombstone
abbrev pub added_pieces : RangeTombstone → List Fragment → List Fragment
added_pieces t fs = with_middle t.start t.end (laid_over t.start t.end t.ts (cut_to t.start t.end fs)) fs

-- the pieces after a span taken out
abbrev pub taken_pieces : Key → Key → (Timestamp → Bool) → List Fragment → List Fragment
taken_pieces start end test fs = with_middle start end (thinned test (cut_to start end fs)) fs

-- a list cut to a span shows its own stack within the span, and nothing outside
abbrev pub CutShowsItsOwn : Type 0
CutShowsItsOwn = (start end : Key) (fs : List Fragment) (key : Key)
    → stack_at (cut_to start end fs) key ≡ cond (is_within start end key) (stack_at fs key) []

-- a canonical list cut to a span is canonical
abbrev pub CutStaysCanonical : Type 0
CutStaysCanonical = (start end : Key) (fs : List Fragment) → IsCanonical fs → IsCanonical (cut_to start end fs)

-- one more tombstone puts its timestamp in its place over the keys of its span, and leaves the other keys
abbrev pub AddingPuts : Type 0
AddingPuts = (t : RangeTombstone) (ts : List RangeTombstone) (key : Key)
    → stack_at (fragments (with_tombstone t ts)) key ≡ stack_with t.start t.end t.ts key (stack_at (fragments ts) key)

-- a span taken out takes the timestamps that pass the test, over its keys alone
abbrev pub TakingOutLeaves : Type 0
TakingOutLeaves = (start end : Key) (test : Timestamp → Bool) (ts : List RangeTombstone) (key : Key) → is_below start end ≡ true
    → stack_at (fragments (take_out start end (λ t. test t.ts) ts)) key ≡ stack_without start end test key (stack_at (fragments ts) key)

-- canonical lists that agree outside a span have the same fragments that neither overlap it nor abut it
abbrev pub ApartStays : Type 0
ApartStays = (start end : Key) (fs gs : List Fragment) → IsCanonical fs → IsCanonical gs → AgreeOutside start end fs gs
    → filter (is_apart start end) fs ≡ filter (is_apart start end) gs

-- one more tombstone makes the middle anew; of the left only the last may join it, and of the right only the first
abbrev pub AddingJoinsBetween : Type 0
AddingJoinsBetween = (t : RangeTombstone) (ts : List RangeTombstone) (left mid right : List Fragment) → is_below t.start t.end ≡ true
    → fragments ts ≡ left ++ (mid ++ right) → EndBy t.start left → StartsFrom t.end right
    → fragments (with_tombstone t ts)
    ≡ before_last left ++ (joined (last_alone left ++ (added_pieces t mid ++ first_alone right)) ++ behind_first right)

-- a span taken out makes its middle anew too
abbrev pub TakingOutJoinsBetween : Type 0
TakingOutJoinsBetween = (start end : Key) (test : Timestamp → Bool) (ts : List RangeTombstone) (left mid right : List Fragment)
    → is_below start end ≡ true → fragments ts ≡ left ++ (mid ++ right) → EndBy start left → StartsFrom end right
    → fragments (take_out start end (λ t. test t.ts) ts)
    ≡ before_last left ++ (joined (last_alone left ++ (taken_pieces start end test mid ++ first_alone right)) ++ behind_first right)

-- what stands apart from the span on both sides stays, and the middle is joined by itself
abbrev pub AddingStaysAround : Type 0
AddingStaysAround = (t : RangeTombstone) (ts : List RangeTombstone) (left mid right : List Fragment) → is_below t.start t.end ≡ true
    → fragments ts ≡ left ++ (mid ++ right) → EndBelow t.start left → StartsAbove t.end right
    → fragments (with_tombstone t ts) ≡ left ++ (joined (added_pieces t mid) ++ right)

-- the same where a span is taken out
abbrev pub TakingOutStaysAround : Type 0
TakingOutStaysAround = (start end : Key) (test : Timestamp → Bool) (ts : List RangeTombstone) (left mid right : List Fragment)
    → is_below start end ≡ true → fragments ts ≡ left ++ (mid ++ right) → EndBelow start left → StartsAbove end right
    → fragments (take_out start end (λ t. test t.ts) ts) ≡ left ++ (joined (taken_pieces start end test mid) ++ right)
