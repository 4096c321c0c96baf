-- A list of pieces in order, parted by a test that the earlier pass where a later one does.
use Rattle.std.specs.Prelude.{◌≡◌, ℕ, ◌<◌, ◌≤◌, Bool, true, false, List, [], ◌∷◌, length, take, drop}
use Rattle.std.specs.List.{AllByRecursion, AllWithin}
use Rattle.std.specs.List.Sorted.{IsPartitionedBy, IsPartitionPoint}
use Rattle.std.proofs.Common.{arith, suc, zero, get_or}
use Rattle.mvcc_key.specs.Order.{Key, is_below, is_at_or_below}
use Rattle.mvcc_key.specs.Fragments.{Fragment}
use Rattle.mvcc_key.specs.Canonical.{IsFragment}
use Rattle.mvcc_key.specs.Pieces.{ArePieces, StartsFrom, StartsAbove}
use Rattle.mvcc_key.proofs.CanonicalLaws.{at_or_below}
use Rattle.mvcc_key.proofs.StackLaws.{le_trans, not_below_is}
use Rattle.mvcc_key.proofs.SpanCutLaws.{low_up}
use Rattle.range_key.specs.views.Places.{FirstFails}
use Rattle.range_key.proofs.PlaceLaws.{not_at-is}

-- a piece that stands behind the bound
record StandsFrom (b : Key) (g : Fragment) : Type 0 where
  pub fragment : IsFragment g
  pub start : is_at_or_below b g.start ≡ true

-- each of the pieces behind a bound stands behind it
stands : (b : Key) (fs : List Fragment) (j : ℕ) (d : Fragment) → ArePieces fs → StartsFrom b fs → j < length fs → StandsFrom b (get_or fs j d)
stands b [] j d p s h = absurd (omega arith)
stands b (f ∷ fs) zero d p s h = record { fragment = p.0; start = s }
stands b (f ∷ fs) (suc j) d p s h =
    let rest : StandsFrom f.end (get_or fs j d) = stands f.end fs j d p.2 p.1 (omega arith) in
    record {
      fragment = rest.fragment;
      start = le_trans b f.end (get_or fs j d).start (le_trans b f.start f.end s (at_or_below f.start f.end (p.0).span)) rest.start;
    }

-- the test goes down: what stands before a piece that passes it passes it too
abbrev pub GoesDown : (Fragment → Bool) → Type 0
GoesDown test = (f g : Fragment) → IsFragment f → IsFragment g → is_at_or_below f.end g.start ≡ true → test g ≡ true → test f ≡ true

-- pieces are parted by such a test
pub pieces-parted : (test : Fragment → Bool) (fs : List Fragment) → GoesDown test → ArePieces fs → IsPartitionedBy test fs
pieces-parted test fs down p i j d le within passes = by fs i j p le within passes
  where
    by : (fs : List Fragment) (i j : ℕ) → ArePieces fs → i ≤ j → j < length fs → test (get_or fs j d) ≡ true → test (get_or fs i d) ≡ true
    by [] i j p le within passes = absurd (omega arith)
    by (f ∷ fs) zero zero p le within passes = passes
    by (f ∷ fs) zero (suc j) p le within passes =
        let behind : StandsFrom f.end (get_or fs j d) = stands f.end fs j d p.2 p.1 (omega arith) in
        down f (get_or fs j d) p.0 behind.fragment behind.start passes
    by (f ∷ fs) (suc i) zero p le within passes = absurd (omega arith)
    by (f ∷ fs) (suc i) (suc j) p le within passes = by fs i j p.2 (omega arith) (omega arith) passes

-- before the place all pass
pub parted-before : (test : Fragment → Bool) (fs : List Fragment) (n : ℕ) → IsPartitionPoint (λ f. test f ≡ true) (λ f. test f ≡ false) fs n
    → AllByRecursion (λ f. test f ≡ true) (take n fs)
parted-before test fs n h = by fs n h.0
  where
    by : (fs : List Fragment) (n : ℕ) → AllWithin (λ f. test f ≡ true) fs 0 n → AllByRecursion (λ f. test f ≡ true) (take n fs)
    by fs zero h = tt
    by [] (suc n) h = tt
    by (f ∷ fs) (suc n) h = (h 0 f (omega arith) (omega arith), by fs n (λ k d le lt. h (suc k) d (omega arith) (omega arith)))

-- the one at the place fails
pub parted-from : (test : Fragment → Bool) (fs : List Fragment) (n : ℕ) → IsPartitionPoint (λ f. test f ≡ true) (λ f. test f ≡ false) fs n
    → FirstFails test (drop n fs)
parted-from test fs n h = by fs n h.1
  where
    by : (fs : List Fragment) (n : ℕ) → AllWithin (λ f. test f ≡ false) fs n (length fs) → FirstFails test (drop n fs)
    by [] zero h = tt
    by [] (suc n) h = tt
    by (f ∷ fs) zero h = h 0 f (omega arith) (omega arith)
    by (f ∷ fs) (suc n) h = by fs n (λ k d le lt. h (suc k) d (omega arith) (omega arith))

-- the four tests go down
pub ending_below-down : (key : Key) → GoesDown (λ f. is_below f.end key)
ending_below-down key f g p q le h = low_up f.end g.end key (le_trans f.end g.start g.end le (at_or_below g.start g.end q.span)) h

pub ending_by-down : (key : Key) → GoesDown (λ f. is_at_or_below f.end key)
ending_by-down key f g p q le h = le_trans f.end g.end key (le_trans f.end g.start g.end le (at_or_below g.start g.end q.span)) h

pub starting_below-down : (key : Key) → GoesDown (λ f. is_below f.start key)
starting_below-down key f g p q le h = low_up f.start g.start key (le_trans f.start f.end g.start (at_or_below f.start f.end p.span) le) h

pub starting_by-down : (key : Key) → GoesDown (λ f. is_at_or_below f.start key)
starting_by-down key f g p q le h = le_trans f.start g.start key (le_trans f.start f.end g.start (at_or_below f.start f.end p.span) le) h

-- a list whose first does not start below the key starts from it
pub fails-from : (key : Key) (fs : List Fragment) → FirstFails (λ f. is_below f.start key) fs → StartsFrom key fs
fails-from key [] h = tt
fails-from key (f ∷ fs) h = not_below_is f.start key h

-- a list whose first does not start at the key or below it starts above it
pub fails-above : (key : Key) (fs : List Fragment) → FirstFails (λ f. is_at_or_below f.start key) fs → StartsAbove key fs
fails-above key [] h = tt
fails-above key (f ∷ fs) h = not_at-is f.start key h
