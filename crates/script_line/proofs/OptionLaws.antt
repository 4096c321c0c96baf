-- The options of run, by what is found of them.
use Rattle.std.specs.Prelude.{◌≡◌, ℕ, Bool, true, false, List, [], ◌∷◌, ◌++◌, map, codes, Option, Some, None, option_map, string_bytes}
use Rattle.std.specs.declared.string.String.{String}
use Rattle.std.proofs.Common.{refl, sym, ap, ◌∙◌, append-nil, get_or, Global, Bor}
use Rattle.script_words.specs.Words.{Word, are_only, has, read_or, value_of}
use Rattle.script_line.specs.CommandLine.{given_options, max_count_max, options_of}
use Rattle.script_words.specs.Forms.{number_in}

-- words that are options of run, and the bound that they give
pub options_of-read : (ws : List Word) (bound : Option ℕ) → are_only (codes "--count-max" ∷ []) (codes "--stats" ∷ []) ws ≡ true
    → bound ≡ read_or (number_in 20 1 max_count_max) max_count_max (value_of (codes "--count-max") ws)
    → options_of ws ≡ option_map (λ n. record { stats = has (codes "--stats") ws; count_max = n }) bound
unfolding options_of
options_of-read ws None only is = rw (only, ← is) refl
options_of-read ws (Some n) only is = rw (only, ← is) refl

-- the one place that is read
pub first_value : (values : List (Option (Bor (List ℕ)))) (v : Option (List ℕ)) → map (option_map (λ v. v.now)) values ≡ v ∷ [] → option_map (λ v. v.now) (get_or values 0 None) ≡ v
first_value [] v is = cc
first_value (x ∷ xs) v is = cc

pub first_flag : (given : List Bool) (b : Bool) → given ≡ b ∷ [] → get_or given 0 false ≡ b
first_flag given b is = rw is refl

-- no word is left
pub all_gathered : (flag : List ℕ) (words : List (List ℕ)) (rest : List (String Global)) (gathered : List Word)
    → given_options flag words ≡ option_map (λ ws. gathered ++ ws) (given_options flag (map string_bytes rest)) → rest ≡ [] → Some gathered ≡ given_options flag words
unfolding given_options
all_gathered flag words rest gathered so_far none =
    sym (so_far ∙ ap (λ r. option_map (λ ws. gathered ++ ws) (given_options flag (map string_bytes r))) none ∙ ap Some (append-nil gathered))
