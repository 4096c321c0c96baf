-- Known bytes over several calls.
use Rattle.std.proofs.Common.{◌≡◌, ℕ, ◌+◌, ◌-◌, ◌≤◌, List, ◌++◌, length, take, drop, sym, ap, subst, ◌∙◌, arith, Option, None, Some, length-drop}
use Rattle.std.specs.Io.KnownBytes.{Appends}
use Rattle.std.proofs.lemmas.Grind.{common_steps}
use Rattle.std.proofs.lemmas.List.{drop-drop}
use Rattle.std.proofs.Math.Seq.{take-add}

-- what two calls add, one after the other
pub appends-trans : (a b c : Option (List ℕ)) (xs ys : List ℕ) → Appends a b xs → Appends b c ys → Appends a c (xs ++ ys)
appends-trans None b c xs ys h k = tt
appends-trans (Some p) None c xs ys h k = absurd h
appends-trans (Some p) (Some q) None xs ys h k = absurd k
appends-trans (Some p) (Some q) (Some r) xs ys h k = grind (arith, common_steps)

-- one write of a piece goes on from those before it
pub appends-more : (a b c : Option (List ℕ)) (piece rest : List ℕ) (n : ℕ) → rest ≡ drop (length piece - length rest) piece → length rest ≤ length piece → n ≤ length rest
    → Appends a b (take (length piece - length rest) piece) → Appends b c (take n rest)
    → Appends a c (take (length piece - length (drop n rest)) piece)
appends-more a b c piece rest n is short within before now =
    let count : length piece - length (drop n rest) ≡ length piece - length rest + n = omega (arith, length-drop n rest) in
    let more : take (length piece - length (drop n rest)) piece ≡ take (length piece - length rest) piece ++ take n rest =
    ap (λ k. take k piece) count ∙ take-add (length piece - length rest) n piece ∙ ap (λ v. take (length piece - length rest) piece ++ take n v) (sym is) in
    let P : List ℕ → Type 0 = λ v. Appends a c v in
    subst P (sym more) (appends-trans a b c _ _ before now)

-- what such a write leaves of the piece
pub rest-more : (piece rest : List ℕ) (n : ℕ) → rest ≡ drop (length piece - length rest) piece → length rest ≤ length piece → n ≤ length rest
    → drop n rest ≡ drop (length piece - length (drop n rest)) piece
rest-more piece rest n is short within =
    let count : length piece - length rest + n ≡ length piece - length (drop n rest) = omega (arith, length-drop n rest) in
    ap (drop n) is ∙ drop-drop n (length piece - length rest) piece ∙ ap (λ k. drop k piece) count
