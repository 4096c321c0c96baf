-- Where a key stands among pieces in order.
use Rattle.std.specs.Prelude.{◌≡◌, ℕ, true, false, List, [], ◌∷◌, Option, Some, None, find, take, drop, slice_get, ◌+◌, cond, ◌&&◌, Bool, MatchOption}
use Rattle.std.specs.Option.{option_copied}
use Rattle.std.specs.Slice.{IsItemAt}
use Rattle.std.proofs.lemmas.Option.{slice_get_past, slice_get_read}
use Rattle.std.specs.Borrow.{Bor}
use Rattle.std.proofs.Common.{refl, sym, ◌∙◌, ap, subst, suc, zero, add-one, length}
use Rattle.mvcc_key.specs.Order.{Key, is_below, is_at_or_below, is_within}
use Rattle.mvcc_key.specs.Fragments.{Fragment}
use Rattle.mvcc_key.specs.Pieces.{ArePieces, EndBy, StartsFrom}
use Rattle.mvcc_key.proofs.CanonicalLaws.{at_or_below, below_up}
use Rattle.mvcc_key.proofs.StackLaws.{le_trans, below-means, not_below_is}
use Rattle.mvcc_key.proofs.UniqueLaws.{above_means}
use Rattle.range_key.specs.views.Places.{EndsAbove}

-- what is not at or below a bound is above it
pub not_at-is : (a b : Key) → is_at_or_below a b ≡ false → is_below b a ≡ true
not_at-is a b h = by (is_below b a) refl
  where
    by : (t : Bool) → is_below b a ≡ t → t ≡ true
    by true e = refl
    by false e = let le : is_at_or_below a b ≡ true = not_below_is b a e in cc

-- pieces behind a bound end behind it
pub ends-behind : (b : Key) (fs : List Fragment) (m : ℕ) (g : Fragment) → ArePieces fs → StartsFrom b fs → slice_get fs m ≡ Some g → is_at_or_below b g.end ≡ true
ends-behind b [] m g p s at = cc
ends-behind b (f ∷ fs) zero g p s at =
    let same : f ≡ g = cc in
    rw (sym same) (le_trans b f.start f.end s (at_or_below f.start f.end (p.0).span))
ends-behind b (f ∷ fs) (suc m) g p s at =
    le_trans b f.end g.end (le_trans b f.start f.end s (at_or_below f.start f.end (p.0).span)) (ends-behind f.end fs m g p.2 p.1 at)

-- all up to a piece that ends by the bound do so
pub ends_by-take : (key : Key) (fs : List Fragment) (m : ℕ) (g : Fragment) → ArePieces fs → slice_get fs m ≡ Some g → is_at_or_below g.end key ≡ true
    → EndBy key (take (m + 1) fs)
ends_by-take key fs m g p at low = rw (add-one) (by fs m p at)
  where
    by : (fs : List Fragment) (m : ℕ) → ArePieces fs → slice_get fs m ≡ Some g → EndBy key (take (suc m) fs)
    by [] m p at = tt
    by (f ∷ fs) zero p at = let same : f ≡ g = cc in (rw same low, tt)
    by (f ∷ fs) (suc m) p at = (le_trans f.end g.end key (ends-behind f.end fs m g p.2 p.1 at) low, by fs m p.2 at)

-- what stands from a piece on begins with it
pub ends_above-drop : (key : Key) (fs : List Fragment) (m : ℕ) (g : Fragment) → slice_get fs m ≡ Some g → is_at_or_below g.end key ≡ false
    → EndsAbove key (drop m fs)
ends_above-drop key [] zero g at up = tt
ends_above-drop key [] (suc m) g at up = tt
ends_above-drop key (f ∷ fs) zero g at up = let same : f ≡ g = cc in rw same up
ends_above-drop key (f ∷ fs) (suc m) g at up = ends_above-drop key fs m g at up

-- no piece contains a key below the first of them
pub find-below : (fs : List Fragment) (b key : Key) → ArePieces fs → StartsFrom b fs → is_below key b ≡ true
    → find (λ f. is_within f.start f.end key) fs ≡ None
find-below [] b key p s h = refl
find-below (f ∷ fs) b key p s h =
    let under : is_below key f.start ≡ true = below_up key b f.start h s in
    let low : is_below key f.end ≡ true = below_up key f.start f.end under (at_or_below f.start f.end (p.0).span) in
    ap (λ t. cond (t && is_below key f.end) (Some f) (find (λ f. is_within f.start f.end key) fs)) (below-means key f.start under)
    ∙ find-below fs f.end key p.2 p.1 low

-- the fragment that contains the key is at the first place that ends above it, or there is none
pub find-at : (key : Key) (fs : List Fragment) (place : ℕ) → ArePieces fs → EndBy key (take place fs) → EndsAbove key (drop place fs)
    → MatchOption (slice_get fs place) (find (λ f. is_within f.start f.end key) fs ≡ None)
    (λ f. find (λ f. is_within f.start f.end key) fs ≡ cond (is_at_or_below f.start key) (Some f) None)
find-at key [] place p before from = refl
find-at key (f ∷ fs) zero p before from = by (is_at_or_below f.start key) refl
  where
    low : is_below key f.end ≡ true
    low = not_at-is f.end key from

    by : (t : Bool) → is_at_or_below f.start key ≡ t
        → cond (t && is_below key f.end) (Some f) (find (λ f. is_within f.start f.end key) fs) ≡ cond t (Some f) None
    by true e = ap (λ t. cond t (Some f) (find (λ f. is_within f.start f.end key) fs)) low
    by false e = find-below fs f.end key p.2 p.1 low
find-at key (f ∷ fs) (suc place) p before from =
    next (slice_get fs place) (sym skip) (find-at key fs place p.2 before.1 from)
  where
    none : (a b : Bool) → b ≡ false → cond (a && b) (Some f) (find (λ f. is_within f.start f.end key) fs) ≡ find (λ f. is_within f.start f.end key) fs
    none true b h = ap (λ t. cond t (Some f) (find (λ f. is_within f.start f.end key) fs)) h
    none false b h = refl

    skip : find (λ f. is_within f.start f.end key) (f ∷ fs) ≡ find (λ f. is_within f.start f.end key) fs
    skip = none (is_at_or_below f.start key) (is_below key f.end) (above_means f.end key before.0)

    next : (o : Option Fragment) → find (λ f. is_within f.start f.end key) fs ≡ find (λ f. is_within f.start f.end key) (f ∷ fs)
        → MatchOption o (find (λ f. is_within f.start f.end key) fs ≡ None)
        (λ g. find (λ f. is_within f.start f.end key) fs ≡ cond (is_at_or_below g.start key) (Some g) None)
        → MatchOption o (find (λ f. is_within f.start f.end key) (f ∷ fs) ≡ None)
        (λ g. find (λ f. is_within f.start f.end key) (f ∷ fs) ≡ cond (is_at_or_below g.start key) (Some g) None)
    next None e h = sym e ∙ h
    next (Some g) e h = sym e ∙ h

-- what `get` gives is the fragment at the place
pub get-at : (fs : List Fragment) (i : ℕ) (r : Option (Bor Fragment)) → IsItemAt fs i r → option_copied r ≡ slice_get fs i
get-at fs i None h = sym (slice_get_past fs i h.3)
get-at fs i (Some x) h = sym (slice_get_read fs (length fs) i x.now refl h.3.0 (h.3.1 x.now))

-- where no fragment is at the place, none contains the key
pub find-none : (key : Key) (fs : List Fragment) (place : ℕ) → ArePieces fs → EndBy key (take place fs) → EndsAbove key (drop place fs)
    → slice_get fs place ≡ None → find (λ f. is_within f.start f.end key) fs ≡ None
find-none key fs place p before from none =
    let P : Option Fragment → Type 0 =
    λ o. MatchOption o (find (λ f. is_within f.start f.end key) fs ≡ None) (λ f. find (λ f. is_within f.start f.end key) fs ≡ cond (is_at_or_below f.start key) (Some f) None) in
    subst P none (find-at key fs place p before from)

-- the fragment at the place contains the key just where it starts at or before it
pub find-some : (key : Key) (fs : List Fragment) (place : ℕ) (f : Fragment) (t : Bool) → ArePieces fs → EndBy key (take place fs) → EndsAbove key (drop place fs)
    → slice_get fs place ≡ Some f → is_at_or_below f.start key ≡ t → find (λ f. is_within f.start f.end key) fs ≡ cond t (Some f) None
find-some key fs place f t p before from some e =
    let P : Option Fragment → Type 0 =
    λ o. MatchOption o (find (λ f. is_within f.start f.end key) fs ≡ None) (λ f. find (λ f. is_within f.start f.end key) fs ≡ cond (is_at_or_below f.start key) (Some f) None) in
    let at : find (λ f. is_within f.start f.end key) fs ≡ cond (is_at_or_below f.start key) (Some f) None = subst P some (find-at key fs place p before from) in
    at ∙ ap (λ t. cond t (Some f) None) e
