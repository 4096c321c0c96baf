-- A map's entries as names with what stands under them.
use Rattle.std.specs.Prelude.{◌≡◌, ℕ, Bool, true, false, not, cond, List, [], ◌∷◌, map, find, Option, None, Some, bytes_eq, string_bytes, unwrap_or, is_some, if◌then◌else◌}
use Rattle.std.specs.Option.{option_map, option_copied, option_copied_mut, OnSome}
use Rattle.std.specs.Borrow.{Bor, MutBor}
use Rattle.std.specs.Map.{lookup, set_value, remove_entry}
use Rattle.std.specs.String.{string_eq}
use Rattle.std.proofs.Common.{String, Global, refl, ap, sym, ◌∙◌}
use Rattle.indexmap.specs.IndexMap.{insert_entry}
use Rattle.script_run.specs.Named.{Named, is_named, look_up, keep, drop_name}

-- whether a key is the name
abbrev pub is_key : List ℕ → String Global → Bool
is_key name k = bytes_eq name (string_bytes k)

module _ {A : Type 0} where
  -- an entry, with its name as bytes
  abbrev entry : String Global × A → Named A
  entry e = record { name = string_bytes e.0; item = e.1 }

  -- the entries
  abbrev pub named : List (String Global × A) → List (Named A)
  named es = map entry es

  -- what a look-up finds
  pub look_up-lookup : (name : List ℕ) (es : List (String Global × A)) → lookup (is_key name) es ≡ look_up name (named es)
  look_up-lookup name [] = refl
  look_up-lookup name (e ∷ es) = by (is_key name e.0) (look_up-lookup name es)
    where
      by : (b : Bool) → lookup (is_key name) es ≡ look_up name (named es)
          → cond b (Some e.1) (lookup (is_key name) es) ≡ option_map (λ n. n.item) (cond b (Some (entry e)) (find (is_named name) (named es)))
      by true rest = refl
      by false rest = rest

  -- an insertion keeps
  pub keep-insert_entry : (k : String Global) (x : A) (es : List (String Global × A))
      → named (insert_entry string_eq es k x) ≡ keep (string_bytes k) x (named es)
  keep-insert_entry k x [] = refl
  keep-insert_entry k x (e ∷ es) = by (is_key (string_bytes k) e.0) (keep-insert_entry k x es)
    where
      by : (b : Bool) → named (insert_entry string_eq es k x) ≡ keep (string_bytes k) x (named es)
          → named (if b then (e.0, x) ∷ es else e ∷ insert_entry string_eq es k x)
          ≡ (if b then record { name = string_bytes e.0; item = x } ∷ named es else entry e ∷ keep (string_bytes k) x (named es))
      by true rest = refl
      by false rest = ap (λ l. entry e ∷ l) rest

  -- a value that changes where it stands is kept
  pub keep-set_value : (name : List ℕ) (x old : A) (es : List (String Global × A)) → lookup (is_key name) es ≡ Some old → named (set_value (is_key name) es x) ≡ keep name x (named es)
  keep-set_value name x old [] there = cc
  keep-set_value name x old (e ∷ es) there = by (is_key name e.0) there (keep-set_value name x old es)
    where
      by : (b : Bool) → cond b (Some e.1) (lookup (is_key name) es) ≡ Some old
          → (lookup (is_key name) es ≡ Some old → named (set_value (is_key name) es x) ≡ keep name x (named es))
          → named (cond b ((e.0, x) ∷ es) (e ∷ set_value (is_key name) es x))
          ≡ (if b then record { name = string_bytes e.0; item = x } ∷ named es else entry e ∷ keep name x (named es))
      by true found rest = refl
      by false found rest = ap (λ l. entry e ∷ l) (rest found)

  -- a removal of one leaves what a removal of all does
  drop_name-remove_entry : (name : List ℕ) (es : List (String Global × A)) → drop_name name (named es) ≡ drop_name name (named (remove_entry (is_key name) es))
  drop_name-remove_entry name [] = refl
  drop_name-remove_entry name (e ∷ es) = by (is_key name e.0) refl (drop_name-remove_entry name es)
    where
      by : (b : Bool) → is_key name e.0 ≡ b → drop_name name (named es) ≡ drop_name name (named (remove_entry (is_key name) es))
          → cond (not b) (entry e ∷ drop_name name (named es)) (drop_name name (named es)) ≡ drop_name name (named (cond b es (e ∷ remove_entry (is_key name) es)))
      by true is rest = refl
      by false is rest = rw is (ap (λ l. entry e ∷ l) rest)

  -- where nothing stands under the name nothing goes
  drop_name-absent : (name : List ℕ) (es : List (String Global × A)) → lookup (is_key name) es ≡ None → drop_name name (named es) ≡ named es
  drop_name-absent name [] none = refl
  drop_name-absent name (e ∷ es) none = by (is_key name e.0) none (drop_name-absent name es)
    where
      by : (b : Bool) → cond b (Some e.1) (lookup (is_key name) es) ≡ None → (lookup (is_key name) es ≡ None → drop_name name (named es) ≡ named es)
          → cond (not b) (entry e ∷ drop_name name (named es)) (drop_name name (named es)) ≡ entry e ∷ named es
      by true found rest = cc
      by false found rest = ap (λ l. entry e ∷ l) (rest found)

  -- a removal drops the name
  pub drop_name-removed : (name : List ℕ) (es left : List (String Global × A)) → left ≡ remove_entry (is_key name) es → lookup (is_key name) left ≡ None → named left ≡ drop_name name (named es)
  drop_name-removed name es left is none =
      sym (drop_name-absent name left none) ∙ ap (λ l. drop_name name (named l)) is ∙ sym (drop_name-remove_entry name es)

  -- what is lent under the name is kept with what is left there
  pub keep-lent : (name : List ℕ) (x : A) (o : Option (MutBor A)) (es after : List (String Global × A)) → option_copied_mut o ≡ lookup (is_key name) es
      → after ≡ set_value (is_key name) es x → OnSome o (named after ≡ keep name x (named es))
  keep-lent name x None es after found is = tt
  keep-lent name x (Some b) es after found is = ap named is ∙ keep-set_value name x b.now es (sym found)

  -- what stands under a name is kept as it is
  pub keep-same : (name : List ℕ) (x : A) (table : List (Named A)) → look_up name table ≡ Some x → keep name x table ≡ table
  keep-same name x [] there = cc
  keep-same name x (n ∷ ns) there = by (is_named name n) there (keep-same name x ns)
    where
      by : (b : Bool) → option_map (λ m. m.item) (cond b (Some n) (find (is_named name) ns)) ≡ Some x → (look_up name ns ≡ Some x → keep name x ns ≡ ns)
          → (if b then record n { item = x } ∷ ns else n ∷ keep name x ns) ≡ n ∷ ns
      by true found rest = ap (λ y. record n { item = y } ∷ ns) (sym (ap (λ o. unwrap_or o x) found))
      by false found rest = ap (λ l. n ∷ l) (rest found)

  -- a name that stands for nothing is dropped from nothing
  pub drop_name-unknown : (name : List ℕ) (table : List (Named A)) → is_some (look_up name table) ≡ false → drop_name name table ≡ table
  drop_name-unknown name [] none = refl
  drop_name-unknown name (n ∷ ns) none = by (is_named name n) none (drop_name-unknown name ns)
    where
      by : (b : Bool) → is_some (option_map (λ m. m.item) (cond b (Some n) (find (is_named name) ns))) ≡ false → (is_some (look_up name ns) ≡ false → drop_name name ns ≡ ns)
          → cond (not b) (n ∷ drop_name name ns) (drop_name name ns) ≡ n ∷ ns
      by true found rest = cc
      by false found rest = ap (λ l. n ∷ l) (rest found)

  -- a copy is there where what is lent is
  pub is_some-copied : (o : Option (Bor A)) → is_some (option_copied o) ≡ is_some o
  is_some-copied None = refl
  is_some-copied (Some b) = refl
