-- Names, numbers with signs, and ids.
use Rattle.std.specs.Prelude.{◌≡◌, ℕ, ◌<◌, true, List, [], ◌∷◌, slice_index, Option, Some, None, Result, Ok, Err}
use Rattle.std.specs.List.{list_all}
use Rattle.std.specs.Result.{IsErrAnd}
use Rattle.std.specs.Str.{IsAscii, IsUtf8}
use Rattle.std.proofs.Common.{zero, suc, refl, sym, subst, arith}
use Rattle.std.proofs.lemmas.Bool.{and_parts}
use Rattle.std.proofs.lemmas.Bool.Decides.{nat_tests}
use Rattle.std.proofs.lemmas.Str.{IsUtf8-from_ascii}
use Rattle.std.proofs.lemmas.Str.Ascii.{IsAscii-nil}
use Rattle.script_words.specs.declared.fault.LineFault.{LineFault}
use Rattle.script_words.specs.views.Reading.{Fails, Gives}
use Rattle.script_words.specs.Forms.{is_name_byte}

-- a byte of a name is below 128
low : (b : ℕ) → is_name_byte b ≡ true → b < 128
low b is = grind (arith, nat_tests)

ascii : (bs : List ℕ) → list_all is_name_byte bs ≡ true → IsAscii bs
ascii [] all = IsAscii-nil
ascii (b ∷ bs) all = by (and_parts (is_name_byte b) (list_all is_name_byte bs) all).0 (ascii bs (and_parts (is_name_byte b) (list_all is_name_byte bs) all).1)
  where
    by : is_name_byte b ≡ true → IsAscii bs → (i : ℕ) → slice_index (b ∷ bs) i < 128
    by first rest zero = low b first
    by first rest (suc i) = rest i

-- bytes of names are text
pub names_are_text : (bs : List ℕ) → list_all is_name_byte bs ≡ true → IsUtf8 bs
names_are_text bs all = IsUtf8-from_ascii bs (ascii bs all)

-- what has no value is none
pub None-without_value : {A : Type 0} (o : Option A) → ((x : A) → o ≡ Some x → ⊥) → o ≡ None
None-without_value None never = refl
None-without_value (Some x) never = absurd (never x refl)

-- a fault that is handed on
pub Gives-fault : {X Y : Type 0} (view : X → Y) (r : Result X LineFault) (e : LineFault) (read : Option Y) → IsErrAnd r (λ given. given ≡ e) → Fails e read → Gives view r read
Gives-fault view (Ok x) e read is fails = absurd is
Gives-fault view (Err given) e read is fails = subst (λ f. Fails f read) (sym is) fails
