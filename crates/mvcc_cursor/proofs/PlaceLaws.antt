-- The places that are kept of a key.
use Rattle.std.proofs.Common.{◌≡◌, ℕ, ◌+◌, ◌*◌, ◌≤◌, Bool, true, false, List, ◌++◌, ◌∷◌, [], length, refl, sym, ap, subst, ◌∙◌, arith, inl, inr}
use Rattle.std.specs.Prelude.{◌&&◌, min, slice_get}
use Rattle.std.specs.declared.option.Option.{Option}
use Rattle.std.proofs.lemmas.Bool.{cases_order}
use Rattle.std.proofs.lemmas.Option.{slice_get_past}
use Rattle.mvcc_key.specs.Order.{Key}
use Rattle.mvcc_key.specs.History.{History}
use Rattle.mvcc_key.specs.Points.{Point, IsRising, point_at, count_below}
use Rattle.mvcc_key.proofs.PointLaws.{point_at-next}
use Rattle.merge_cursor.specs.Merged.{entries_below, entries_before}
use Rattle.run_block.specs.RunFormat.{Run}
use Rattle.lsm_store.specs.Shown.{points_in, shown, fragments_in}
use Rattle.mvcc_cursor.specs.WellFormed.{IsWellFormed}
use Rattle.mvcc_cursor.specs.KeyPoints.{record_name}
use Rattle.mvcc_cursor.specs.Standing.{AtKey, entries_of, entries_up_to, one_seek}
use Rattle.mvcc_cursor.specs.views.Under.{has_record}
use Rattle.mvcc_cursor.proofs.KeyLaws.{before}
use Rattle.mvcc_cursor.proofs.HistoryLaws.{first-own, second-own}
use Rattle.mvcc_cursor.proofs.LookLaws.{before-up_to, own-up_to, seek-bound}
use Rattle.mvcc_cursor.proofs.StoreLaws.{shown-set}

-- a place at or past the last point
pub point_at-min : (points : List Point) (n : ℕ) → point_at points (min (n + 1) (length points + 1)) ≡ slice_get points n
point_at-min points n = elim (cases_order n (length points)) [
  | inl same ↦ (let e : min (n + 1) (length points + 1) ≡ n + 1 = omega arith in ap (point_at points) e ∙ point_at-next points n)
  | inr (inl less) ↦ (let e : min (n + 1) (length points + 1) ≡ n + 1 = omega arith in ap (point_at points) e ∙ point_at-next points n)
  | inr (inr more) ↦
      (let e : min (n + 1) (length points + 1) ≡ length points + 1 = omega arith in
      ap (point_at points) e ∙ point_at-next points (length points) ∙ slice_get_past points (length points) (omega arith) ∙ sym (slice_get_past points n (omega arith)))
]

-- by another cursor's points
pub settled : (points mine : List Point) (place n : ℕ) → mine ≡ points → place ≡ min (n + 1) (length points + 1) → point_at mine place ≡ slice_get points n
settled points mine place n same at = ap (λ l. point_at l place) same ∙ ap (point_at points) at ∙ point_at-min points n

pub both-true : (a b : Bool) → (a && b) ≡ true → b ≡ true
both-true true b h = h
both-true false b h = cc

-- the looks of the two seeks behind a record
pub settle-bound : (h : History) (store : List Run) → IsWellFormed h store → (key : Key) → IsRising (shown store) → has_record (AtKey key) (shown store) ≡ true
    → (o r : Option Point) (a b c : ℕ) → o ≡ slice_get (shown store) (before key (shown store) + 1) → r ≡ slice_get (shown store) (before key (shown store) + 2)
    → b + entries_below (record_name key) (points_in store) ≤ a + one_seek store + entries_before o (points_in store)
    → c + entries_below (record_name key) (points_in store) ≤ b + one_seek store + entries_before r (points_in store)
    → c ≤ a + 2 * (one_seek store + entries_of key store)
settle-bound h store well key rising has o r a b c at at' looks looks' =
    (let one = first-own h (shown store) (fragments_in store) well (shown-set store) key rising has in
    let two = second-own h (shown store) (fragments_in store) well (shown-set store) key rising has in
    let first : before key (shown store) + 1 ≤ count_below (record_name (key ++ 0 ∷ [])) (shown store) = (let lt = own-up_to key (shown store) rising (before key (shown store)) one.0 one.1 one.2 in omega arith) in
    let second : before key (shown store) + 2 ≤ count_below (record_name (key ++ 0 ∷ [])) (shown store) = (let lt = own-up_to key (shown store) rising (before key (shown store) + 1) two.0 two.1 two.2 in omega arith) in
    let most : entries_before o (points_in store) ≤ entries_up_to key store =
    subst (λ (q : Option Point). entries_before q (points_in store) ≤ entries_up_to key store) (sym at) (before-up_to key (shown store) rising store refl (before key (shown store) + 1) first) in
    let most' : entries_before r (points_in store) ≤ entries_up_to key store =
    subst (λ (q : Option Point). entries_before q (points_in store) ≤ entries_up_to key store) (sym at') (before-up_to key (shown store) rising store refl (before key (shown store) + 2) second) in
    let sum = seek-bound store key (entries_before o (points_in store)) a b most looks in
    let sum' = seek-bound store key (entries_before r (points_in store)) b c most' looks' in
    omega arith)
