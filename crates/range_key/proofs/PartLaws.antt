-- Lists of fragments cut to a span, part by part.
use Rattle.std.specs.Prelude.{◌≡◌, ℕ, ◌+◌, ◌<◌, List, [], ◌∷◌, ◌++◌, length, take, drop}
use Rattle.std.proofs.Common.{sym, ◌∙◌, ap, subst, append-nil, arith, suc, zero, get_or}
use Rattle.std.proofs.lemmas.List.{take-append-drop}
use Rattle.std.proofs.lemmas.Grind.{flat_map-append}
use Rattle.mvcc_key.specs.Order.{Key}
use Rattle.mvcc_key.specs.Fragments.{Fragment, cut_to, part_within}
use Rattle.mvcc_key.specs.Canonical.{IsCanonical}
use Rattle.mvcc_key.specs.Pieces.{ArePieces, EndBy, StartsFrom, cut_below, cut_from}
use Rattle.mvcc_key.proofs.CanonicalLaws.{at_itself}
use Rattle.mvcc_key.proofs.PieceLaws.{canonical-pieces, canonical-first, canonical-second, starts_up}
use Rattle.mvcc_key.proofs.CutKeptLaws.{part_within-before, cut-before_none, cut-behind_none}
use Rattle.mvcc_key.proofs.StackLaws.{le_trans, not_below_is}
use Rattle.range_key.specs.views.Places.{EndsFrom, StartBy}

-- the first part of a canonical list
pub canonical-take : (n : ℕ) (fs : List Fragment) → IsCanonical fs → IsCanonical (take n fs)
canonical-take n fs c = canonical-first (take n fs) (drop n fs) (subst IsCanonical (sym (take-append-drop n fs)) c)

-- the second part of a canonical list
pub canonical-drop : (n : ℕ) (fs : List Fragment) → IsCanonical fs → IsCanonical (drop n fs)
canonical-drop n fs c = canonical-second (take n fs) (drop n fs) (subst IsCanonical (sym (take-append-drop n fs)) c)

-- a list cut to a span is what overlaps the span, cut to it
pub cut_to-overlapping : (start end : Key) (n m : ℕ) (fs : List Fragment) → IsCanonical fs → EndBy start (take n fs) → StartsFrom end (drop m (drop n fs))
    → cut_to start end (take m (drop n fs)) ≡ cut_to start end fs
cut_to-overlapping start end n m fs c before behind =
    sym (ap (cut_to start end) (sym (take-append-drop n fs))
    ∙ flat_map-append (part_within start end) (take n fs) (drop n fs)
    ∙ ap (λ us. us ++ cut_to start end (drop n fs)) (cut-before_none (λ f. start) (λ f. end) start (take n fs) before (λ f. at_itself start))
    ∙ ap (cut_to start end) (sym (take-append-drop m (drop n fs)))
    ∙ flat_map-append (part_within start end) (take m (drop n fs)) (drop m (drop n fs))
    ∙ ap (λ us. cut_to start end (take m (drop n fs)) ++ us) (cut-behind_none (λ f. start) (λ f. end) end (drop m (drop n fs)) pieces behind (λ f. at_itself end))
    ∙ append-nil (cut_to start end (take m (drop n fs))))
  where
    pieces : ArePieces (drop m (drop n fs))
    pieces = canonical-pieces (drop m (drop n fs)) (canonical-drop m (drop n fs) (canonical-drop n fs c))

-- what a list has below a key is the part of its first, where that ends at or above the key
pub cut_below-first : (key : Key) (fs : List Fragment) (f : Fragment) → IsCanonical fs → EndsFrom key fs → 0 < length fs → f ≡ get_or fs 0 f
    → part_within f.start key f ≡ cut_below key fs
cut_below-first key [] f c from some is = absurd (omega arith)
cut_below-first key (g ∷ gs) f c from some is =
    let p : ArePieces (g ∷ gs) = canonical-pieces (g ∷ gs) c in
    ap (λ (h : Fragment). part_within h.start key h) is
    ∙ sym (ap (λ us. part_within g.start key g ++ us)
    (cut-behind_none (λ f. f.start) (λ f. key) key gs p.2 (starts_up key g.end gs (not_below_is g.end key from) p.1) (λ f. at_itself key))
    ∙ append-nil (part_within g.start key g))

-- what a list has from a key on is the part of its last, where each starts at or below the key
pub cut_from-last : (key : Key) (fs : List Fragment) (n : ℕ) (l : Fragment) → IsCanonical fs → StartBy key fs → n + 1 ≡ length fs → l ≡ get_or fs n l
    → part_within key l.end l ≡ cut_from key fs
cut_from-last key [] n l c by h is = absurd (omega arith)
cut_from-last key (f ∷ []) zero l c by h is = ap (λ (g : Fragment). part_within key g.end g) is ∙ sym (append-nil (part_within key f.end f))
cut_from-last key (f ∷ []) (suc n) l c by h is = absurd (omega arith)
cut_from-last key (f ∷ g ∷ gs) zero l c by h is = absurd (omega arith)
cut_from-last key (f ∷ g ∷ gs) (suc n) l c by h is =
    let p : ArePieces (f ∷ g ∷ gs) = canonical-pieces (f ∷ g ∷ gs) c in
    cut_from-last key (g ∷ gs) n l c.2 by.1 (omega arith) is
    ∙ sym (ap (λ us. us ++ cut_from key (g ∷ gs)) (part_within-before key f.end f (le_trans f.end g.start key p.1 by.1.0)))
