-- Operations of which some are left out.
use Rattle.std.proofs.Common.{◌≡◌, ℕ, suc, ◌<◌, Bool, true, false, cond, List, [], ◌∷◌, length, get_or, drop, refl, sym, ap, subst, ◌∙◌, arith, drop-cons}
use Rattle.std.specs.Prelude.{All, filter}
use Rattle.std.proofs.lemmas.List.Elements.{All-filter}
use Rattle.mvcc_key.specs.Points.{Point, IsRising}
use Rattle.mvcc_key.specs.views.SeenPoint.{point_of, points_of}
use Rattle.mvcc_key.specs.declared.batch.PointOp.{PointOp}
use Rattle.mvcc_key.proofs.PointLaws.{sorted-rising, rising-sorted}
use Rattle.mvcc_key.specs.Batches.{IsStorable, AreEntries}
use Rattle.lsm_store.proofs.KnownLaws.{sorted-filter}

-- what stands at a place where the rest is as it was has what each had
pub rest-at : {X : Type 0} (P : X → Type 0) (xs ys : List X) (i : ℕ) (x : X) → All P xs → drop i ys ≡ drop i xs → length ys ≡ length xs → i < length xs → x ≡ get_or ys i x → P x
rest-at P xs ys i x each rest long lt is =
    let first : get_or ys i x ∷ drop (suc i) ys ≡ get_or xs i x ∷ drop (suc i) xs =
    sym (drop-cons ys i x (omega arith)) ∙ rest ∙ drop-cons xs i x lt in
    let same : get_or xs i x ≡ x = cc in
    subst P same (each i x lt)

-- the points of the operations whose points pass
pub points-filter : (test : Point → Bool) (ops : List PointOp) → points_of (filter (λ op. test (point_of op)) ops) ≡ filter test (points_of ops)
points-filter test [] = refl
points-filter test (op ∷ ops) = by (test (point_of op)) (points-filter test ops)
  where
    by : (b : Bool) → points_of (filter (λ op. test (point_of op)) ops) ≡ filter test (points_of ops)
        → points_of (cond b (op ∷ filter (λ op. test (point_of op)) ops) (filter (λ op. test (point_of op)) ops))
        ≡ cond b (point_of op ∷ filter test (points_of ops)) (filter test (points_of ops))
    by true rest = ap (λ (ps : List Point). point_of op ∷ ps) rest
    by false rest = rest

-- those that are left can be stored and rise
pub entries-filter : (test : Point → Bool) (ops : List PointOp) → AreEntries ops → AreEntries (filter (λ op. test (point_of op)) ops)
entries-filter test ops entries = record {
  storable = All-filter (λ op. test (point_of op)) IsStorable ops entries.storable;
  rising = subst IsRising (sym (points-filter test ops))
      (rising-sorted (filter test (points_of ops)) (sorted-filter (λ (p : Point). p.name) test (points_of ops) (sorted-rising (points_of ops) entries.rising)));
}
