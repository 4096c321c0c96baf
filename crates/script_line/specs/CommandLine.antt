-- What the words of the command line say: run and its options.
use Rattle.std.specs.Prelude.{ℕ, ◌-◌, ◌^◌, Bool, ◌||◌, List, [], ◌∷◌, codes, bytes_eq, Option, Some, None, is_some, option_map, if◌then◌else◌}
use Rattle.script_words.specs.Forms.{◌>>=◌, number_in}
use Rattle.script_words.specs.Words.{Word, word_of, is_named, only, has, optional}

-- an option that needs no further word: it has its value behind an equals sign, or is the flag
abbrev pub stands_alone : List ℕ → Word → Bool
stands_alone flag w = is_some w.value || is_named flag w

-- an option in front of those behind it, where these have a reading
abbrev pub option_and : Word → Option (List Word) → Option (List Word)
option_and w rest = option_map (λ ws. w ∷ ws) rest

-- the options that the words give, one of which takes no value: each stands alone, or the next word is its value, whatever that is
unfoldable pub given_options : List ℕ → List (List ℕ) → Option (List Word)
given_options flag [] = Some []
given_options flag (w ∷ []) = if stands_alone flag (word_of w) then Some (word_of w ∷ []) else None
given_options flag (w ∷ v ∷ ws) =
    if stands_alone flag (word_of w) then option_and (word_of w) (given_options flag (v ∷ ws))
    else option_and (record { name = (word_of w).name; value = Some v }) (given_options flag ws)

-- the options of run
pub record Options : Type 0 where
  pub stats : Bool
  pub count_max : ℕ

-- the greatest bound on statistics
abbrev pub max_count_max : ℕ
max_count_max = 2 ^ 63 - 1

-- --stats and --count-max N
unfoldable pub options_of : List Word → Option Options
options_of given = do
  ws ← only (codes "--count-max" ∷ []) (codes "--stats" ∷ []) given
  count_max ← optional (codes "--count-max") (number_in 20 1 max_count_max) max_count_max ws
  Some (record { stats = has (codes "--stats") ws; count_max = count_max })

-- the options that the words behind run give, where they have a reading
unfoldable pub run_options : List (List ℕ) → Option Options
run_options words = given_options (codes "--stats") words >>= options_of

-- what the program is asked to do
pub data Invocation : Type 0 where
  Run : (options : Options) → Invocation

-- what the words say, where they have a reading
unfoldable pub invocation : List (List ℕ) → Option Invocation
invocation [] = None
invocation (w ∷ ws) = if bytes_eq w (codes "run") then option_map Run (run_options ws) else None
