-- Pieces joined as they come are what they join to at last.
use Rattle.std.specs.Prelude.{◌≡◌, ℕ, ◌+◌, Bool, true, false, ◌&&◌, List, [], ◌∷◌, ◌++◌, length, cond}
use Rattle.std.proofs.Common.{refl, sym, ◌∙◌, ap, append_assoc, append-nil, arith, suc, zero, get_or, set}
use Rattle.mvcc_key.specs.Order.{Timestamp, Key, is_same_key}
use Rattle.mvcc_key.specs.Fragments.{Fragment, is_same_stack, join_to, joined}
use Rattle.mvcc_key.specs.Pieces.{piece}
use Rattle.mvcc_key.proofs.StackLaws.{same-stack_is, both_true}
use Rattle.range_key.specs.views.Joining.{is_one_with_last, with_last_end, joined_with, joined_on}

-- by a known last, a piece is one with the last
pub is_one_with_last-at : (fs : List Fragment) (n : ℕ) (l : Fragment) (start : Key) (stack : List Timestamp) → n + 1 ≡ length fs → l ≡ get_or fs n l
    → (is_same_key l.end start && is_same_stack l.stack stack) ≡ is_one_with_last fs start stack
is_one_with_last-at [] n l start stack h at = absurd (omega arith)
is_one_with_last-at (f ∷ []) zero l start stack h at = ap (λ (g : Fragment). is_same_key g.end start && is_same_stack g.stack stack) at
is_one_with_last-at (f ∷ []) (suc n) l start stack h at = absurd (omega arith)
is_one_with_last-at (f ∷ g ∷ gs) zero l start stack h at = absurd (omega arith)
is_one_with_last-at (f ∷ g ∷ gs) (suc n) l start stack h at = is_one_with_last-at (g ∷ gs) n l start stack (omega arith) at

-- the last written with another end
pub with_last_end-at : (fs : List Fragment) (n : ℕ) (l : Fragment) (end : Key) → n + 1 ≡ length fs → l ≡ get_or fs n l
    → set fs n (piece l.start end l.stack) ≡ with_last_end fs end
with_last_end-at [] n l end h at = absurd (omega arith)
with_last_end-at (f ∷ []) zero l end h at = ap (λ (g : Fragment). piece g.start end g.stack ∷ []) at
with_last_end-at (f ∷ []) (suc n) l end h at = absurd (omega arith)
with_last_end-at (f ∷ g ∷ gs) zero l end h at = absurd (omega arith)
with_last_end-at (f ∷ g ∷ gs) (suc n) l end h at = ap (λ us. f ∷ us) (with_last_end-at (g ∷ gs) n l end (omega arith) at)

-- behind one piece
joined_with-one : (f p : Fragment) → joined_with (f ∷ []) p ≡ join_to f (p ∷ [])
joined_with-one f p = by (is_same_key f.end p.start && is_same_stack f.stack p.stack)
  where
    by : (t : Bool) → cond t (piece f.start p.end f.stack ∷ []) (f ∷ p ∷ []) ≡ cond t (piece f.start p.end f.stack ∷ []) (f ∷ p ∷ [])
    by t = refl

-- behind more than one the first stays
joined_with-more : (f g : Fragment) (gs : List Fragment) (p : Fragment) → joined_with (f ∷ g ∷ gs) p ≡ f ∷ joined_with (g ∷ gs) p
joined_with-more f g gs p = by (is_one_with_last (g ∷ gs) p.start p.stack)
  where
    by : (t : Bool) → cond t (f ∷ with_last_end (g ∷ gs) p.end) (f ∷ ((g ∷ gs) ++ p ∷ [])) ≡ f ∷ cond t (with_last_end (g ∷ gs) p.end) ((g ∷ gs) ++ p ∷ [])
    by true = refl
    by false = refl

-- three pieces in a row join from either side
three : (f g p : Fragment) → join_to f (join_to g (p ∷ [])) ≡ joined_with (join_to f (g ∷ [])) p
three f g p = by (is_same_key f.end g.start && is_same_stack f.stack g.stack) (is_same_key g.end p.start && is_same_stack g.stack p.stack) refl refl
  where
    subst_stack : (b : Bool) → (is_same_key f.end g.start && is_same_stack f.stack g.stack) ≡ true → (is_same_key g.end p.start && is_same_stack g.stack p.stack) ≡ b
        → (is_same_key g.end p.start && is_same_stack f.stack p.stack) ≡ b
    subst_stack b e k = ap (λ (s : List Timestamp). is_same_key g.end p.start && is_same_stack s p.stack) (same-stack_is f.stack g.stack (both_true (is_same_key f.end g.start) (is_same_stack f.stack g.stack) e).1) ∙ k

    by : (a b : Bool) → (is_same_key f.end g.start && is_same_stack f.stack g.stack) ≡ a → (is_same_key g.end p.start && is_same_stack g.stack p.stack) ≡ b
        → join_to f (cond b (piece g.start p.end g.stack ∷ []) (g ∷ p ∷ [])) ≡ joined_with (cond a (piece f.start g.end f.stack ∷ []) (f ∷ g ∷ [])) p
    by true true e k = let l : (is_same_key g.end p.start && is_same_stack f.stack p.stack) ≡ true = subst_stack true e k in rw (e, l) refl
    by true false e k = let l : (is_same_key g.end p.start && is_same_stack f.stack p.stack) ≡ false = subst_stack false e k in rw (e, l) refl
    by false true e k = rw (e, k) refl
    by false false e k = rw (e, k) refl

-- a piece in front and a piece behind may be joined in either order
around : (f : Fragment) (gs : List Fragment) (p : Fragment) → join_to f (joined_with gs p) ≡ joined_with (join_to f gs) p
around f [] p = sym (joined_with-one f p)
around f (g ∷ []) p = ap (join_to f) (joined_with-one g p) ∙ three f g p
around f (g ∷ h ∷ hs) p = ap (join_to f) (joined_with-more g h hs p) ∙ by (is_same_key f.end g.start && is_same_stack f.stack g.stack)
  where
    by : (a : Bool) → cond a (piece f.start g.end f.stack ∷ joined_with (h ∷ hs) p) (f ∷ g ∷ joined_with (h ∷ hs) p)
        ≡ joined_with (cond a (piece f.start g.end f.stack ∷ h ∷ hs) (f ∷ g ∷ h ∷ hs)) p
    by true = sym (joined_with-more (piece f.start g.end f.stack) h hs p)
    by false = sym (joined_with-more f g (h ∷ hs) p ∙ ap (λ us. f ∷ us) (joined_with-more g h hs p))

-- one more piece joins to what the others join to
joined-more : (ps : List Fragment) (p : Fragment) → joined (ps ++ p ∷ []) ≡ joined_with (joined ps) p
joined-more [] p = refl
joined-more (f ∷ fs) p = ap (join_to f) (joined-more fs p) ∙ around f (joined fs) p

-- so do more pieces
joined_on-joined : (ps qs : List Fragment) → joined_on (joined ps) qs ≡ joined (ps ++ qs)
joined_on-joined ps [] = ap joined (sym (append-nil ps))
joined_on-joined ps (q ∷ qs) =
    ap (λ us. joined_on us qs) (sym (joined-more ps q))
    ∙ joined_on-joined (ps ++ q ∷ []) qs
    ∙ ap joined (append_assoc ps (q ∷ []) qs)

-- pieces joined as they come are the pieces joined
pub joined_on-all : (ps : List Fragment) → joined_on [] ps ≡ joined ps
joined_on-all ps = joined_on-joined [] ps

-- pieces in two parts, joined one part after the other
pub joined_on-append : (out ps qs : List Fragment) → joined_on out (ps ++ qs) ≡ joined_on (joined_on out ps) qs
joined_on-append out [] qs = refl
joined_on-append out (p ∷ ps) qs = joined_on-append (joined_with out p) ps qs

-- pieces joined in three parts
pub joined_on-three : (a b c : List Fragment) → joined_on (joined_on (joined_on [] a) b) c ≡ joined (a ++ (b ++ c))
joined_on-three a b c =
    sym (joined_on-append (joined_on [] a) b c)
    ∙ sym (joined_on-append [] a (b ++ c))
    ∙ joined_on-all (a ++ (b ++ c))

-- a list to which three parts came, one after the other
pub three-parts : (none below middle from : List Fragment) (a b c : List Fragment) → none ≡ [] → below ≡ joined_on none a → middle ≡ joined_on below b → from ≡ joined_on middle c
    → from ≡ joined (a ++ (b ++ c))
three-parts none below middle from a b c e f g h =
    h
    ∙ ap (λ us. joined_on us c) (g ∙ ap (λ us. joined_on us b) (f ∙ ap (λ us. joined_on us a) e))
    ∙ joined_on-three a b c
