-- Lines of many words, by what is found at their places.
use Rattle.std.specs.Prelude.{◌≡◌, ℕ, zero, suc, List, [], ◌∷◌, map, codes, Option, Some, None, option_map}
use Rattle.std.proofs.Common.{refl, ap, ◌∙◌, get_or, Bor}
use Rattle.mvcc_key.specs.Order.{Timestamp, Key, no_time}
use Rattle.mvcc_key.specs.History.{Body}
use Rattle.script_words.specs.declared.fault.LineFault.{LineFault}
use Rattle.script_words.specs.declared.fault.LineFault.TheVariants as fault
use Rattle.script_words.specs.Forms.{◌>>=◌, max_number, name, number_to, text, time}
use Rattle.script_words.specs.Words.{Word, only, read_one, read_or, read_perhaps, read_required, read_up_to_one, value_of}
use Rattle.script_words.specs.views.Reading.{Fails}
use Rattle.script_line.specs.Grammar.{Who, Status, ConditionalPut, ResolveRange, at_time, bytes_value, in_txn, int_value, status_of, cput, resolve_range}

-- where the last word has no reading, the line has none
pub fails_at_last : {A B : Type 0} (e : LineFault) (read : Option A) (made : A → B) (line : Option B) → Fails e read → line ≡ (read >>= λ x. Some (made x)) → Fails e line
fails_at_last fault.OutOfMemory read made line fails is = tt
fails_at_last fault.BadLine read made line fails is = rw (is, fails) refl

-- the bytes at a place
abbrev pub at_place : List (Option (Bor (List ℕ))) → ℕ → Option (List ℕ)
at_place values i = option_map (λ v. v.now) (get_or values i None)

-- a place among the bytes
in_bytes : (values : List (Option (Bor (List ℕ)))) (i : ℕ) → at_place values i ≡ get_or (map (option_map (λ v. v.now)) values) i None
in_bytes [] i = refl
in_bytes (v ∷ vs) zero = refl
in_bytes (v ∷ vs) (suc i) = in_bytes vs i

-- a place is what its name has
is_place : (values : List (Option (Bor (List ℕ)))) (found : List (Option (List ℕ))) → map (option_map (λ v. v.now)) values ≡ found → (i : ℕ) → at_place values i ≡ get_or found i None
is_place values found is i = in_bytes values i ∙ ap (λ f. get_or f i None) is

-- the words of a resolution of a span
abbrev pub range_names : List (List ℕ)
range_names = codes "t" ∷ codes "k" ∷ codes "end" ∷ codes "status" ∷ codes "ts" ∷ codes "max" ∷ []

-- a resolution of a span, all words of which are read but the last
pub range_but_last : (given : List Word) (values : List (Option (Bor (List ℕ)))) (n : List ℕ) (start end : Key) (status : Status) (at : Option Timestamp)
    → only range_names [] given ≡ Some given → map (option_map (λ v. v.now)) values ≡ map (λ n. value_of n given) range_names
    → read_required name (at_place values 0) ≡ Some n → read_required text (at_place values 1) ≡ Some start → read_required text (at_place values 2) ≡ Some end
    → read_required status_of (at_place values 3) ≡ Some status → read_perhaps time (at_place values 4) ≡ Some at
    → resolve_range given ≡ (read_perhaps (number_to max_number) (at_place values 5) >>= λ most. Some (ResolveRange n start end status at most))
unfolding resolve_range
range_but_last given values n start end status at words is n-read start-read end-read status-read at-read =
    let place = is_place values (map (λ n. value_of n given) range_names) is in
    rw (words, ← place 0, ← place 1, ← place 2, ← place 3, ← place 4, ← place 5, n-read, start-read, end-read, status-read, at-read) refl

-- the words of a conditional write
abbrev pub cput_names : List (List ℕ)
cput_names = codes "k" ∷ codes "v" ∷ codes "int" ∷ codes "t" ∷ codes "ts" ∷ codes "cond" ∷ codes "cond_int" ∷ codes "local" ∷ []

-- a conditional write, all words of which are read but the last
pub cput_but_last : (given : List Word) (values : List (Option (Bor (List ℕ)))) (key : Key) (body : Body) (who : Who) (expected : Option Body)
    → only cput_names [] given ≡ Some given → map (option_map (λ v. v.now)) values ≡ map (λ n. value_of n given) cput_names
    → read_required text (at_place values 0) ≡ Some key → read_one bytes_value int_value (at_place values 1) (at_place values 2) ≡ Some body
    → read_one in_txn at_time (at_place values 3) (at_place values 4) ≡ Some who → read_up_to_one bytes_value int_value (at_place values 5) (at_place values 6) ≡ Some expected
    → cput given ≡ (read_or time no_time (at_place values 7) >>= λ local. Some (ConditionalPut key body who expected local))
unfolding cput
cput_but_last given values key body who expected words is key-read body-read who-read expected-read =
    let place = is_place values (map (λ n. value_of n given) cput_names) is in
    rw (words, ← place 0, ← place 1, ← place 2, ← place 3, ← place 4, ← place 5, ← place 6, ← place 7, key-read, body-read, who-read, expected-read) refl
