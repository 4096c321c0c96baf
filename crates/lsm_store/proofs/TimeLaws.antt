-- What the timestamps of a run tell of the names that it sets.
use Rattle.std.proofs.Common.{◌≡◌, ℕ, Bool, true, false, cond, List, [], ◌∷◌, ◌++◌, refl, sym, ap, subst, ◌∙◌}
use Rattle.std.specs.Prelude.{Some, None, All}
use Rattle.std.specs.List.{filter_map, cons_option}
use Rattle.std.specs.declared.option.Option.{Option}
use Rattle.std.proofs.lemmas.List.Concat.{flat_map-append, flat_map-cons}
use Rattle.std.proofs.lemmas.List.Elements.{All-head, All-tail}
use Rattle.mvcc_key.specs.Order.{Timestamp, Name, is_no_time, is_up_to, is_same_name}
use Rattle.mvcc_key.specs.Points.{Point}
use Rattle.mem_table.specs.Table.{state_of}
use Rattle.merge_cursor.proofs.OrderLaws.{is_same_name-one}
use Rattle.merge_cursor.specs.Merged.{joined}
use Rattle.run_block.specs.TimeSpan.{point_time}
use Rattle.lsm_store.proofs.KnownLaws.{newer, known-append}
use Rattle.lsm_store.proofs.ApplyLaws.{value_in}

-- a point that is set at a timestamp has that timestamp
set-time : (p : Point) (bytes : List ℕ) → p.value ≡ Some bytes → is_no_time p.name.ts ≡ false → point_time p ≡ Some p.name.ts
set-time p bytes is timed = rw (is, timed) refl

-- a name is not set at a timestamp that is above all
pub unset-above : (n : Name) (t : Timestamp) (points : List Point) (more : List Timestamp) → is_no_time n.ts ≡ false → is_up_to n.ts t ≡ false
    → All (λ s. is_up_to s t ≡ true) (filter_map point_time points ++ more) → value_in (state_of n points) ≡ None
unset-above n t [] more timed above all = refl
unset-above n t (p ∷ ps) more timed above all =
    by (is_same_name p.name n) refl (unset-above n t ps more timed above (rest (point_time p) all))
  where
    rest : (o : Option Timestamp) → All (λ s. is_up_to s t ≡ true) (cons_option o (filter_map point_time ps) ++ more) → All (λ s. is_up_to s t ≡ true) (filter_map point_time ps ++ more)
    rest None all' = all'
    rest (Some s) all' = All-tail (λ s. is_up_to s t ≡ true) s (filter_map point_time ps ++ more) all'

    here : (o : Option Timestamp) → o ≡ Some p.name.ts → All (λ s. is_up_to s t ≡ true) (cons_option o (filter_map point_time ps) ++ more) → is_up_to p.name.ts t ≡ true
    here None e all' = cc
    here (Some s) e all' = (let same : s ≡ p.name.ts = cc in subst (λ x. is_up_to x t ≡ true) same (All-head (λ s. is_up_to s t ≡ true) s (filter_map point_time ps ++ more) all'))

    value : (o : Option (List ℕ)) → p.value ≡ o → p.name ≡ n → o ≡ None
    value None is same = refl
    value (Some bytes) is same =
        let timed' : is_no_time p.name.ts ≡ false = ap (λ (m : Name). is_no_time m.ts) same ∙ timed in
        let low : is_up_to n.ts t ≡ true = sym (ap (λ (m : Name). is_up_to m.ts t) same) ∙ here (point_time p) (set-time p bytes is timed') all in
        cc

    by : (b : Bool) → is_same_name p.name n ≡ b → value_in (state_of n ps) ≡ None → value_in (cond b (Some p) (state_of n ps)) ≡ None
    by true same later = value p.value refl (is_same_name-one p.name n same)
    by false same later = later

-- where neither part sets the name, both together do not
pub unset-both : (n : Name) (lists : List (List Point)) (points : List Point) → value_in (state_of n (joined lists)) ≡ None → value_in (state_of n points) ≡ None
    → value_in (state_of n (joined (lists ++ points ∷ []))) ≡ None
unset-both n lists points first second =
    ap (λ l. value_in (state_of n l)) (flat_map-append (λ ps. ps) lists (points ∷ []) ∙ ap (λ l. joined lists ++ l) (flat_map-cons (λ ps. ps) points []))
    ∙ ap value_in (known-append (λ (p : Point). p.name) n (joined lists) (points ++ []) ∙ ap (newer (state_of n (joined lists))) (known-append (λ (p : Point). p.name) n points []))
    ∙ by (state_of n (joined lists)) (state_of n points) first second
  where
    by : (o p : Option Point) → value_in o ≡ None → value_in p ≡ None → value_in (newer o (newer p None)) ≡ None
    by (Some x) p first' second' = first'
    by None (Some x) first' second' = second'
    by None None first' second' = refl
