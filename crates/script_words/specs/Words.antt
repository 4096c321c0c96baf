-- The words of a line, and of the command line: flags, and names with values.
use Rattle.std.specs.Prelude.{ℕ, Bool, true, ◌&&◌, ◌||◌, not, List, [], ◌∷◌, find, Option, Some, None, option_map, is_some, is_none, bytes_eq, ◌==◌}
use Rattle.std.specs.List.{list_any, list_all}
use Rattle.mvcc_key.specs.Cutting.{cut_at, words_at}
use Rattle.script_words.specs.Forms.{◌>>=◌, where_it}

-- a flag, or a name with a value
pub record Word : Type 0 where
  pub name : List ℕ
  pub value : Option (List ℕ)

-- a space or a tab
abbrev pub is_blank : ℕ → Bool
is_blank b = (b == 0x20) || (b == 0x09)

-- what stands between blanks
unfoldable pub words : List ℕ → List (List ℕ)
words line = words_at is_blank line

-- a word cut at its first equals sign
abbrev pub word_of : List ℕ → Word
word_of bytes = record { name = (cut_at 0x3d bytes).before; value = (cut_at 0x3d bytes).after }

-- the word has this name
abbrev pub is_named : List ℕ → Word → Bool
is_named n w = bytes_eq w.name n

-- the word has one of these names
abbrev pub is_among : List (List ℕ) → Word → Bool
is_among ns w = list_any (λ n. is_named n w) ns

-- the word is one of these names with a value, or one of these flags without one
abbrev pub is_allowed : List (List ℕ) → List (List ℕ) → Word → Bool
is_allowed names flags w = (is_some w.value && is_among names w) || (is_none w.value && is_among flags w)

-- there is a word of this name
unfoldable pub has : List ℕ → List Word → Bool
has n ws = list_any (is_named n) ws

-- no name stands twice
abbrev pub are_distinct : List Word → Bool
are_distinct [] = true
are_distinct (w ∷ ws) = not (has w.name ws) && are_distinct ws

-- the words are of these names and flags, each at most once
unfoldable pub are_only : List (List ℕ) → List (List ℕ) → List Word → Bool
are_only names flags ws = list_all (is_allowed names flags) ws && are_distinct ws

-- the words, where they are so
abbrev pub only : List (List ℕ) → List (List ℕ) → List Word → Option (List Word)
only names flags ws = where_it (are_only names flags ws) ws

-- the value of the word of this name
unfoldable pub value_of : List ℕ → List Word → Option (List ℕ)
value_of n ws = find (is_named n) ws >>= λ w. w.value

-- the value in its form; there is no reading where it does not stand
abbrev pub read_required : {A : Type 0} → (List ℕ → Option A) → Option (List ℕ) → Option A
read_required form value = value >>= form

-- a value that must be there, in a form
abbrev pub required : {A : Type 0} → List ℕ → (List ℕ → Option A) → List Word → Option A
required n form ws = read_required form (value_of n ws)

-- the value in its form, or else the default
abbrev pub read_or : {A : Type 0} → (List ℕ → Option A) → A → Option (List ℕ) → Option A
read_or form default None = Some default
read_or form default (Some bytes) = form bytes

-- a value that may be left out
abbrev pub optional : {A : Type 0} → List ℕ → (List ℕ → Option A) → A → List Word → Option A
optional n form default ws = read_or form default (value_of n ws)

-- the value in its form, where it stands
abbrev pub read_perhaps : {A : Type 0} → (List ℕ → Option A) → Option (List ℕ) → Option (Option A)
read_perhaps form None = Some None
read_perhaps form (Some bytes) = option_map Some (form bytes)

-- a value that may be left out, and has no default
abbrev pub perhaps : {A : Type 0} → List ℕ → (List ℕ → Option A) → List Word → Option (Option A)
perhaps n form ws = read_perhaps form (value_of n ws)

-- the one of two values that stands, each in its form; there is no reading where neither stands, or both
abbrev pub read_one : {A : Type 0} → (List ℕ → Option A) → (List ℕ → Option A) → Option (List ℕ) → Option (List ℕ) → Option A
read_one first second None None = None
read_one first second (Some bytes) None = first bytes
read_one first second None (Some bytes) = second bytes
read_one first second (Some bytes) (Some others) = None

-- exactly one of two values
abbrev pub one_of : {A : Type 0} → List ℕ → (List ℕ → Option A) → List ℕ → (List ℕ → Option A) → List Word → Option A
one_of n first m second ws = read_one first second (value_of n ws) (value_of m ws)

-- the one of two values that stands, each in its form, or none
abbrev pub read_up_to_one : {A : Type 0} → (List ℕ → Option A) → (List ℕ → Option A) → Option (List ℕ) → Option (List ℕ) → Option (Option A)
read_up_to_one first second None None = Some None
read_up_to_one first second one other = option_map Some (read_one first second one other)

-- at most one of two values
abbrev pub up_to_one_of : {A : Type 0} → List ℕ → (List ℕ → Option A) → List ℕ → (List ℕ → Option A) → List Word → Option (Option A)
up_to_one_of n first m second ws = read_up_to_one first second (value_of n ws) (value_of m ws)
