-- Text that is appended piece by piece.
use Rattle.std.specs.Prelude.{◌≡◌, ℕ, true, List, [], ◌∷◌, ◌++◌, Result, Ok, Err, OnOk, OnErr}
use Rattle.std.specs.List.{list_all}
use Rattle.std.proofs.lemmas.Bool.{and_parts}
use Rattle.script_text.specs.Text.{escaped, escaped_byte, is_unescaped}
use Rattle.std.proofs.Common.{refl, sym, ap, ◌∙◌, append-nil, append_assoc}
use Rattle.script_text.specs.views.Appending.{Extends}

-- what stays the same is old with nothing behind it
pub Extends-same : (old new : List ℕ) → new ≡ old → Extends old new
Extends-same old new same = ([], same ∙ sym (append-nil old))

-- and what goes on from more than it
pub Extends-behind : (old mid new more : List ℕ) → mid ≡ old ++ more → Extends mid new → Extends old new
Extends-behind old mid new more is (rest, grown) = (more ++ rest, grown ∙ ap (λ l. l ++ rest) is ∙ append_assoc old more rest)

-- what holds anyhow holds of an error
pub on_err : {T E : Type 0} {P : Type 0} (r : Result T E) → P → OnErr r P
on_err (Ok x) p = tt
on_err (Err e) p = p

-- two pieces
pub two_pieces : (old mid new first second : List ℕ) → mid ≡ old ++ first → new ≡ mid ++ second → new ≡ old ++ (first ++ second)
two_pieces old mid new first second one two = two ∙ ap (λ l. l ++ second) one ∙ append_assoc old first second

-- what holds anyhow holds of a success
pub on_ok : {T E : Type 0} {P : Type 0} (r : Result T E) → P → OnOk r P
on_ok (Ok x) p = p
on_ok (Err e) p = tt

-- what is printed as it is
pub unescaped_text : (bytes : List ℕ) → list_all is_unescaped bytes ≡ true → escaped bytes ≡ bytes
unfolding escaped_byte
unescaped_text [] plain = refl
unescaped_text (b ∷ bs) plain =
    let both = and_parts (is_unescaped b) (list_all is_unescaped bs) plain in
    rw both.0 (ap (λ l. b ∷ l) (unescaped_text bs both.1))
