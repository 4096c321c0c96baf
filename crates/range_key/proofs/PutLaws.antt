-- Pieces put in the place of a stretch by exchanging, turning and cutting off.
use Rattle.std.specs.Prelude.{◌≡◌, ℕ, ◌+◌, ◌-◌, ◌≤◌, List, [], ◌++◌, length, take, drop, slice_range, min}
use Rattle.std.proofs.Common.{refl, sym, ◌∙◌, ap, ap₂, append_assoc, arith, zero, suc, ◌∷◌}
use Rattle.std.proofs.lemmas.List.{take-append-drop, length-append, length-drop, length-take-le}
use Rattle.std.proofs.Math.Seq.{take-append_seam, drop-append_seam}

module _ {X : Type 0} where
  front_of : (n : ℕ) (us vs : List X) → length us ≡ n → take n (us ++ vs) ≡ us
  front_of n us vs e = ap (λ m. take m (us ++ vs)) (sym e) ∙ take-append_seam us vs

  back_of : (n : ℕ) (us vs : List X) → length us ≡ n → drop n (us ++ vs) ≡ vs
  back_of n us vs e = ap (λ m. drop m (us ++ vs)) (sym e) ∙ drop-append_seam us vs

  -- what stands from one place up to another, put behind what stands behind it
  pub turned : (from to : ℕ) (us vs ws : List X) → length us ≡ from → from + length vs ≡ to
      → take from (us ++ (vs ++ ws)) ++ (drop to (us ++ (vs ++ ws)) ++ slice_range (us ++ (vs ++ ws)) from to) ≡ us ++ (ws ++ vs)
  turned from to us vs ws e f =
      let both : length (us ++ vs) ≡ to = length-append us vs ∙ omega (arith, e, f) in
      let last : drop to (us ++ (vs ++ ws)) ≡ ws = ap (drop to) (sym (append_assoc us vs ws)) ∙ back_of to (us ++ vs) ws both in
      let count : length vs ≡ to - from = omega (arith, f) in
      let mid : slice_range (us ++ (vs ++ ws)) from to ≡ vs = ap (take (to - from)) (back_of from us (vs ++ ws) e) ∙ front_of (to - from) vs ws count in
      ap₂ (λ x y. x ++ y) (front_of from us (vs ++ ws) e) (ap₂ (λ x y. x ++ y) last mid)

  -- the pieces in two parts take the places of two parts of a list
  parts-put : (low both come gone n2 n4 : ℕ) (us gs bs ws ps qs x1 p1 x2 x3 x4 x5 : List X)
      → length us ≡ low → length gs ≡ both → length ps ≡ both → both + length bs ≡ gone → both + length qs ≡ come → length x2 ≡ n2 → length x4 ≡ n4
      → x1 ≡ us ++ (ps ++ (bs ++ ws)) → p1 ≡ gs ++ qs → x2 ≡ x1 ++ p1
      → x3 ≡ take (low + both) x2 ++ (drop (n2 - (come - both)) x2 ++ slice_range x2 (low + both) (n2 - (come - both)))
      → x4 ≡ take (low + come) x3 ++ (drop (low + come + (gone - both)) x3 ++ slice_range x3 (low + come) (low + come + (gone - both)))
      → x5 ≡ take (n4 - gone) x4
      → x5 ≡ us ++ ((ps ++ qs) ++ ws)
  parts-put low both come gone n2 n4 us gs bs ws ps qs x1 p1 x2 x3 x4 x5 l a p b q c2 c4 e1 f1 e2 e3 e4 e5 =
      let s2 : x2 ≡ (us ++ ps) ++ (((bs ++ ws) ++ gs) ++ qs) =
      e2 ∙ ap₂ (λ x y. x ++ y) e1 f1 ∙ simp append_assoc in
      let m2 : length x2 ≡ low + both + (length ((bs ++ ws) ++ gs) + length qs) =
      ap length s2 ∙ length-append (us ++ ps) (((bs ++ ws) ++ gs) ++ qs)
      ∙ ap₂ (λ m n. m + n) (length-append us ps ∙ ap₂ (λ m n. m + n) l p) (length-append ((bs ++ ws) ++ gs) qs) in
      let t2 : low + both + length ((bs ++ ws) ++ gs) ≡ n2 - (come - both) = omega (arith, m2, c2, q) in
      let s3 : x3 ≡ (us ++ ps) ++ (qs ++ ((bs ++ ws) ++ gs)) =
      e3 ∙ ap (λ x. take (low + both) x ++ (drop (n2 - (come - both)) x ++ slice_range x (low + both) (n2 - (come - both)))) s2
      ∙ turned (low + both) (n2 - (come - both)) (us ++ ps) ((bs ++ ws) ++ gs) qs (length-append us ps ∙ ap₂ (λ m n. m + n) l p) t2 in
      let s3' : x3 ≡ (us ++ (ps ++ qs)) ++ (bs ++ (ws ++ gs)) = s3 ∙ simp append_assoc in
      let n3 : length (us ++ (ps ++ qs)) ≡ low + come =
      length-append us (ps ++ qs) ∙ ap₂ (λ m n. m + n) l (length-append ps qs) ∙ omega (arith, p, q) in
      let s4 : x4 ≡ (us ++ (ps ++ qs)) ++ ((ws ++ gs) ++ bs) =
      e4 ∙ ap (λ x. take (low + come) x ++ (drop (low + come + (gone - both)) x ++ slice_range x (low + come) (low + come + (gone - both)))) s3'
      ∙ turned (low + come) (low + come + (gone - both)) (us ++ (ps ++ qs)) bs (ws ++ gs) n3 (omega (arith, b)) in
      let s4' : x4 ≡ ((us ++ (ps ++ qs)) ++ ws) ++ (gs ++ bs) = s4 ∙ simp append_assoc in
      let m4 : length x4 ≡ length ((us ++ (ps ++ qs)) ++ ws) + (length gs + length bs) =
      ap length s4' ∙ length-append ((us ++ (ps ++ qs)) ++ ws) (gs ++ bs) ∙ ap (λ n. length ((us ++ (ps ++ qs)) ++ ws) + n) (length-append gs bs) in
      let k4 : length ((us ++ (ps ++ qs)) ++ ws) ≡ n4 - gone = omega (arith, m4, c4, a, b) in
      e5 ∙ ap (take (n4 - gone)) s4' ∙ front_of (n4 - gone) ((us ++ (ps ++ qs)) ++ ws) (gs ++ bs) k4
      ∙ append_assoc us (ps ++ qs) ws

  take-nil : (n : ℕ) → let none : List X = [] in take n none ++ none ≡ none
  take-nil zero = refl
  take-nil (suc n) = refl

  -- a list from a place on is what stands up to another and from there on
  parted : (from to : ℕ) (xs : List X) → from ≤ to → drop from xs ≡ slice_range xs from to ++ drop to xs
  parted zero to xs h =
      let whole : to - zero ≡ to = omega arith in
      sym (ap (λ n. take n xs ++ drop to xs) whole ∙ take-append-drop to xs)
  parted (suc from) zero xs h = absurd (omega arith)
  parted (suc from) (suc to) [] h = sym (take-nil (suc to - suc from))
  parted (suc from) (suc to) (x ∷ xs) h =
      let same : suc to - suc from ≡ to - from = omega arith in
      parted from to xs (omega arith) ∙ ap (λ n. take n (drop from xs) ++ drop to xs) (sym same)

  -- the pieces take the place of the stretch
  pub pieces-put : (low high both come n2 n4 : ℕ) (xs ps x1 p1 x2 x3 x4 x5 : List X)
      → low ≤ high → high ≤ length xs → come ≡ length ps → both ≡ min (high - low) come → length x2 ≡ n2 → length x4 ≡ n4
      → x1 ≡ take low xs ++ (take both ps ++ drop (low + both) xs)
      → p1 ≡ slice_range xs low (low + both) ++ drop both ps
      → x2 ≡ x1 ++ p1
      → x3 ≡ take (low + both) x2 ++ (drop (n2 - (come - both)) x2 ++ slice_range x2 (low + both) (n2 - (come - both)))
      → x4 ≡ take (low + come) x3 ++ (drop (low + come + (high - low - both)) x3 ++ slice_range x3 (low + come) (low + come + (high - low - both)))
      → x5 ≡ take (n4 - (high - low)) x4
      → x5 ≡ take low xs ++ (ps ++ drop high xs)
  pieces-put low high both come n2 n4 xs ps x1 p1 x2 x3 x4 x5 ordered within all least c2 c4 e1 f1 e2 e3 e4 e5 =
      let gone : both ≤ high - low = omega (arith, least) in
      let some : both ≤ length ps = omega (arith, least, all) in
      let rest : length (drop (low + both) xs) ≡ length xs - (low + both) = length-drop (low + both) xs in
      let mids : length (drop low xs) ≡ length xs - low = length-drop low xs in
      let kept : low + both - low ≡ both = omega arith in
      let first : length (slice_range xs low (low + both)) ≡ both = length-take-le (low + both - low) (drop low xs) (omega (arith, mids)) ∙ kept in
      let second : length (slice_range xs (low + both) high) ≡ high - (low + both) = length-take-le (high - (low + both)) (drop (low + both) xs) (omega (arith, rest)) in
      let left : length (drop both ps) ≡ length ps - both = length-drop both ps in
      parts-put low both come (high - low) n2 n4 (take low xs) (slice_range xs low (low + both)) (slice_range xs (low + both) high) (drop high xs)
      (take both ps) (drop both ps) x1 p1 x2 x3 x4 x5
      (length-take-le low xs (omega arith)) first (length-take-le both ps some) (omega (arith, second)) (omega (arith, left, all)) c2 c4
      (e1 ∙ ap (λ us. take low xs ++ (take both ps ++ us)) (parted (low + both) high xs (omega arith)))
      f1 e2 e3 e4 e5
      ∙ ap (λ us. take low xs ++ (us ++ drop high xs)) (take-append-drop both ps)
