-- Texts with escapes, and texts without any.
use Rattle.std.specs.Prelude.{◌≡◌, ℕ, ◌+◌, ◌*◌, Bool, true, false, ◌&&◌, not, List, [], ◌∷◌, ◌++◌, map, Some, None, option_map, ◌==◌, if◌then◌else◌}
use Rattle.std.specs.List.{list_all}
use Rattle.std.specs.Char.{digit_value}
use Rattle.std.proofs.Common.{refl, ap, ◌∙◌, arith, append-nil}
use Rattle.std.proofs.lemmas.Bool.{and_parts, and_right, not-true}
use Rattle.std.proofs.lemmas.Bool.Decides.{nat_tests}
use Rattle.script_words.specs.Forms.{where_it, is_printed, is_hex_digit, Symbol, Backslash, Other, symbol, byte_and, written, text}

-- nothing is left
pub all_read : (bytes rest read : List ℕ) → text bytes ≡ option_map (λ more. read ++ more) (text rest) → rest ≡ [] → text bytes ≡ Some read
unfolding text
all_read bytes rest read so_far none = so_far ∙ ap (λ r. option_map (λ more. read ++ more) (text r)) none ∙ ap Some (append-nil read)

-- a text without escapes is its bytes
pub plain_text : (bytes : List ℕ) → list_all (λ b. is_printed b && not (b == 0x5c)) bytes ≡ true → text bytes ≡ Some bytes
unfolding text
plain_text [] plain = refl
plain_text (b ∷ bs) plain =
    let both = and_parts (is_printed b && not (b == 0x5c)) (list_all (λ b. is_printed b && not (b == 0x5c)) bs) plain in
    let first = and_parts (is_printed b) (not (b == 0x5c)) both.0 in
    rw (not-true (b == 0x5c) first.1) (rw first.0 (rw (plain_text bs both.1) refl))

-- the first byte of a text
pub text-printed : (b : ℕ) (bs : List ℕ) → (b == 0x5c) ≡ false → is_printed b ≡ true → text (b ∷ bs) ≡ option_map (λ more. b ∷ more) (text bs)
unfolding text
text-printed b bs other printed = rw (other, printed) refl

pub text-unprinted : (b : ℕ) (bs : List ℕ) → (b == 0x5c) ≡ false → is_printed b ≡ false → text (b ∷ bs) ≡ None
unfolding text
text-unprinted b bs other unprinted = rw (other, unprinted) refl

-- what stands behind a backslash
pub text-end : text (0x5c ∷ []) ≡ None
unfolding text
text-end = refl

pub text-backslash : (bs : List ℕ) → text (0x5c ∷ 0x5c ∷ bs) ≡ option_map (λ more. 0x5c ∷ more) (text bs)
unfolding text
text-backslash bs = refl

-- symbols behind a backslash and another symbol than x
other_escape : (k : ℕ) (ss : List Symbol) → (k == 0x78) ≡ false → written (Backslash ∷ Other k ∷ ss) ≡ None
other_escape k [] other = refl
other_escape k (Backslash ∷ ss) other = refl
other_escape k (Other high ∷ []) other = refl
other_escape k (Other high ∷ Backslash ∷ ss) other = refl
other_escape k (Other high ∷ Other low ∷ ss) other = rw other refl

pub text-other : (k : ℕ) (bs : List ℕ) → (k == 0x5c) ≡ false → (k == 0x78) ≡ false → text (0x5c ∷ k ∷ bs) ≡ None
unfolding text
text-other k bs plain other = rw plain (other_escape k (map symbol bs) other)

-- digits behind \x
pub text-no_digits : text (0x5c ∷ 0x78 ∷ []) ≡ None
unfolding text
text-no_digits = refl

one_digit : (high : ℕ) (b : Bool) → written (Backslash ∷ Other 0x78 ∷ (if b then Backslash else Other high) ∷ []) ≡ None
one_digit high true = refl
one_digit high false = refl

pub text-one_digit : (high : ℕ) → text (0x5c ∷ 0x78 ∷ high ∷ []) ≡ None
unfolding text
text-one_digit high = one_digit high (high == 0x5c)

no_hex : (b : ℕ) → (b == 0x5c) ≡ true → is_hex_digit b ≡ false
no_hex b is = let e : b ≡ 0x5c = grind (arith, nat_tests) in rw e refl

-- two digits behind \x
pub text-digits : (high low : ℕ) (bs : List ℕ) → text (0x5c ∷ 0x78 ∷ high ∷ low ∷ bs) ≡ byte_and (is_hex_digit high && is_hex_digit low) (digit_value high * 16 + digit_value low) (text bs)
unfolding text
text-digits high low bs = by (high == 0x5c) refl (low == 0x5c) refl
  where
    by : (h : Bool) → (high == 0x5c) ≡ h → (l : Bool) → (low == 0x5c) ≡ l
        → written (Backslash ∷ Other 0x78 ∷ (if h then Backslash else Other high) ∷ (if l then Backslash else Other low) ∷ map symbol bs)
        ≡ byte_and (is_hex_digit high && is_hex_digit low) (digit_value high * 16 + digit_value low) (written (map symbol bs))
    by true h l is = rw (no_hex high h) refl
    by false h true is = rw (no_hex low is, and_right (is_hex_digit high) false refl) refl
    by false h false is = refl

pub text-hex : (high low : ℕ) (bs : List ℕ) (b : ℕ) → where_it (is_hex_digit high && is_hex_digit low) (digit_value high * 16 + digit_value low) ≡ Some b
    → text (0x5c ∷ 0x78 ∷ high ∷ low ∷ bs) ≡ option_map (λ more. b ∷ more) (text bs)
text-hex high low bs b are = text-digits high low bs ∙ by (is_hex_digit high && is_hex_digit low) are
  where
    by : (t : Bool) → where_it t (digit_value high * 16 + digit_value low) ≡ Some b → byte_and t (digit_value high * 16 + digit_value low) (text bs) ≡ option_map (λ more. b ∷ more) (text bs)
    by true are = let e : digit_value high * 16 + digit_value low ≡ b = cc in rw e refl
    by false are = cc

pub text-no_hex : (high low : ℕ) (bs : List ℕ) → where_it (is_hex_digit high && is_hex_digit low) (digit_value high * 16 + digit_value low) ≡ None → text (0x5c ∷ 0x78 ∷ high ∷ low ∷ bs) ≡ None
text-no_hex high low bs none = text-digits high low bs ∙ by (is_hex_digit high && is_hex_digit low) none
  where
    by : (t : Bool) → where_it t (digit_value high * 16 + digit_value low) ≡ None → byte_and t (digit_value high * 16 + digit_value low) (text bs) ≡ None
    by true none = cc
    by false none = refl
