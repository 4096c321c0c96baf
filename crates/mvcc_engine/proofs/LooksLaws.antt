-- The looks that a write takes, told by what the parts name.
use Rattle.std.specs.Prelude.{◌≡◌, ℕ, ◌+◌, ◌-◌, ◌*◌, Bool, true, false, List, [], ◌∷◌, length, map, find, is_some, sum_by, count_by, fold, Option, Some, None}
use Rattle.std.specs.Option.{option_map}
use Rattle.std.specs.Ordering.{is_lt}
use Rattle.std.proofs.Common.{refl, sym, ap, ap₂, ◌∙◌, cond}
use Rattle.std.proofs.lemmas.List.{length-map}
use Rattle.mvcc_key.specs.Order.{Key, Name, name_cmp, no_time, is_below, Pair}
use Rattle.mvcc_key.specs.Points.{Point, is_below_name, count_below}
use Rattle.mvcc_key.specs.Fragments.{fragments}
use Rattle.mvcc_key.specs.views.Looks.{bits}
use Rattle.intent_meta.specs.StoredPairs.{stored_pairs}
use Rattle.merge_cursor.specs.Merged.{merged, entries_below, entries_before}
use Rattle.merge_cursor.specs.Visible.{visible}
use Rattle.run_block.specs.RunFormat.{Run}
use Rattle.lsm_store.specs.Shown.{points_in, shown, visible_points, pairs_of, parts_of, state_of_point}
use Rattle.stat_core.specs.Running.{Running}
use Rattle.mvcc_cursor.specs.Standing as standing
use Rattle.mvcc_cursor.specs.Standing.{entries_of, sought_key}
use Rattle.mvcc_cursor.specs.WellFormed.{history_in}
use Rattle.mvcc_put.specs.WriteLooks.{write_looks}
use Rattle.mvcc_engine.specs.Looks.{names_below, names_before, names_from, one_seek, looks_at}
use Rattle.mvcc_engine.specs.views.Sound.{IsSound, state_of}
use Rattle.mvcc_engine.proofs.BatchLaws.{shown_pairs, set-first, cleared-first}

-- a seek takes as many looks in the parts, told by their names
seek-from : (a : ℕ) (store : List Run) → fold (λ b p. b + (bits (length p.states) + 2)) a (parts_of store) ≡ fold (λ b ps. b + (bits (length ps) + 2)) a (points_in store)
unfolding parts_of
seek-from a [] = refl
seek-from a (r ∷ rs) =
    seek-from (a + (bits (length (map state_of_point r.points)) + 2)) rs
    ∙ ap (λ l. fold (λ b ps. b + (bits (length ps) + 2)) (a + (bits l + 2)) (points_in rs)) (length-map r.points state_of_point)

one_seek-parts : (store : List Run) → one_seek (parts_of store) ≡ standing.one_seek store
one_seek-parts store = seek-from 0 store

-- as many names are below one
states-from : (n : Name) (a : ℕ) (ps : List Point) → fold (λ b s. b + cond (is_lt (name_cmp s.name n)) 1 0) a (map state_of_point ps) ≡ fold (λ b p. b + cond (is_below_name n p) 1 0) a ps
states-from n a [] = refl
states-from n a (p ∷ ps) = states-from n (a + cond (is_lt (name_cmp p.name n)) 1 0) ps

below-states : (n : Name) (ps : List Point) → count_by (λ s. is_lt (name_cmp s.name n)) (map state_of_point ps) ≡ count_below n ps
unfolding count_below
below-states n ps = states-from n 0 ps

below-from : (n : Name) (a : ℕ) (store : List Run) → fold (λ b p. b + count_by (λ s. is_lt (name_cmp s.name n)) p.states) a (parts_of store) ≡ fold (λ b ps. b + count_below n ps) a (points_in store)
unfolding parts_of
below-from n a [] = refl
below-from n a (r ∷ rs) =
    below-from n (a + count_by (λ s. is_lt (name_cmp s.name n)) (map state_of_point r.points)) rs
    ∙ ap (λ l. fold (λ b ps. b + count_below n ps) (a + l) (points_in rs)) (below-states n r.points)

below-parts : (n : Name) (store : List Run) → names_below n (parts_of store) ≡ entries_below n (points_in store)
below-parts n store = below-from n 0 store

-- and as many there are
all-from : (a : ℕ) (store : List Run) → fold (λ b p. b + length p.states) a (parts_of store) ≡ fold (λ b ps. b + length ps) a (points_in store)
unfolding parts_of
all-from a [] = refl
all-from a (r ∷ rs) =
    all-from (a + length (map state_of_point r.points)) rs
    ∙ ap (λ l. fold (λ b ps. b + length ps) (a + l) (points_in rs)) (length-map r.points state_of_point)

all-parts : (store : List Run) → sum_by (λ p. length p.states) (parts_of store) ≡ sum_by length (points_in store)
all-parts store = all-from 0 store

-- the names of what is found
abbrev pair_name : Option Pair → Option Name
pair_name = option_map (λ p. p.name)

abbrev point_name : Option Point → Option Name
point_name = option_map (λ p. p.name)

-- the first pair of a key above is that of the first point
found-name : (key : Key) (ps : List Point) → pair_name (find (λ p. is_below key p.name.key) (shown_pairs ps)) ≡ point_name (find (λ p. is_below key p.name.key) (visible ps))
unfolding pairs_of
found-name key [] = refl
found-name key (p ∷ ps) = by p.value refl (found-name key ps)
  where
    by : (v : Option (List ℕ)) → p.value ≡ v → pair_name (find (λ p. is_below key p.name.key) (shown_pairs ps)) ≡ point_name (find (λ p. is_below key p.name.key) (visible ps))
        → pair_name (find (λ p. is_below key p.name.key) (shown_pairs (p ∷ ps))) ≡ point_name (find (λ p. is_below key p.name.key) (visible (p ∷ ps)))
    by None is rest =
        ap (λ qs. pair_name (find (λ p. is_below key p.name.key) qs)) (cleared-first p ps is) ∙ rest
        ∙ sym (ap (λ v. point_name (find (λ p. is_below key p.name.key) (cond (is_some v) (p ∷ visible ps) (visible ps)))) is)
    by (Some bytes) is rest =
        ap (λ qs. pair_name (find (λ p. is_below key p.name.key) qs)) (set-first p ps bytes is)
        ∙ at (is_below key p.name.key)
        ∙ sym (ap (λ v. point_name (find (λ p. is_below key p.name.key) (cond (is_some v) (p ∷ visible ps) (visible ps)))) is)
      where
        at : (b : Bool) → pair_name (cond b (Some (record { name = p.name; value = bytes })) (find (λ p. is_below key p.name.key) (shown_pairs ps)))
            ≡ point_name (cond b (Some p) (find (λ p. is_below key p.name.key) (visible ps)))
        at true = refl
        at false = rest

-- as many names are before it
before-parts : (o : Option Pair) (q : Option Point) (store : List Run) → pair_name o ≡ point_name q → names_before o (parts_of store) ≡ entries_before q (points_in store)
before-parts None None store same = all-parts store
before-parts (Some p) (Some q) store same = let names : p.name ≡ q.name = cc in ap (λ n. names_below n (parts_of store)) names ∙ below-parts q.name store
before-parts None (Some q) store same = absurd cc
before-parts (Some p) None store same = absurd cc

-- as many stand from the key on
from-parts : (store : List Run) (r : Running) → IsSound store r → (key : Key) → names_from key (state_of store r) ≡ entries_of key store
unfolding visible_points
from-parts store r sound key =
    ap₂ (λ a b. a - b)
    (before-parts (find (λ p. is_below key p.name.key) (stored_pairs (history_in store))) (find (λ p. is_below key p.name.key) (shown store)) store
    (ap (λ ps. pair_name (find (λ p. is_below key p.name.key) ps)) (sym (sound.formed).pairs) ∙ found-name key (merged (points_in store))))
    (below-parts (record { key = key; ts = no_time }) store)

-- the bound on a write's looks is told by the state
pub looks-told : (store : List Run) (r : Running) → IsSound store r → (key : Key) → write_looks key store ≡ looks_at (state_of store r) key
unfolding looks_at
looks-told store r sound key =
    ap₂ (λ a b. a + 4 * (bits b + 1))
    (ap₂ (λ a b. 8 * a + 6 * b) (sym (from-parts store r sound (sought_key key))) (sym (one_seek-parts store)))
    (ap length (sound.formed).fragments)
