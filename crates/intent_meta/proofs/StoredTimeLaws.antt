-- Timestamps that may be stored.
use Rattle.std.proofs.Common.{◌≡◌, Bool, true, false, eqb, refl, sym, subst, inl, inr}
use Rattle.std.proofs.lemmas.Bool.{and_from, and_parts, eqb-true}
use Rattle.std.specs.Prelude.{not, ◌&&◌, ◌||◌, if◌then◌else◌}
use Rattle.mvcc_key.specs.Order.{Timestamp, no_time, is_in_range, is_before, is_no_time, later}
use Rattle.mvcc_key.specs.History.{kept_local}
use Rattle.mvcc_value.proofs.ValueLaws.{kept_local-cases, kept_local_kept}
use Rattle.intent_meta.specs.Valid.{IsStoredTime, IsKeptLocal}

-- a time that may be stored is in range
pub stored_in_range : (t : Timestamp) → IsStoredTime t → is_in_range t ≡ true
stored_in_range t h = (and_parts (not (is_no_time t)) (is_in_range t) h).1

-- a time that is one, and in range, may be stored
pub some_is_stored : (t : Timestamp) → is_no_time t ≡ false → is_in_range t ≡ true → IsStoredTime t
some_is_stored t some fits = rw (some, fits) refl

-- the later of two times that may be stored may be stored
pub later-stored : (s t : Timestamp) → IsStoredTime s → IsStoredTime t → IsStoredTime (later s t)
later-stored s t p q = by (is_before s t)
  where
    by : (b : Bool) → IsStoredTime (if b then t else s)
    by true = q
    by false = p

-- a local timestamp that is kept may be stored
pub kept_local-kept : (local ts : Timestamp) → is_in_range local ≡ true → IsKeptLocal (kept_local local ts) ts
kept_local-kept local ts fits =
    elim (kept_local-cases local ts) [
      | inl none ↦ subst (λ (t : Timestamp). IsKeptLocal t ts) (sym none) refl
      | inr kept ↦ subst (λ (t : Timestamp). IsKeptLocal t ts) (sym kept.0) (by (is_no_time local) (is_in_range local) (is_before local ts) fits kept.2)
    ]
  where
    by : (a b c : Bool) → b ≡ true → c ≡ true → (a || (b && c)) ≡ true
    by true b c p q = refl
    by false b c p q = and_from b c p q

-- no timestamp is that of zero
pub no_time-is : (t : Timestamp) → is_no_time t ≡ true → no_time ≡ t
no_time-is t h =
    let parts = and_parts (eqb t.wall 0) (eqb t.logical 0) h in
    let wall : t.wall ≡ 0 = eqb-true _ _ parts.0 in
    let logical : t.logical ≡ 0 = eqb-true _ _ parts.1 in
    λ i. record { wall = sym wall i; logical = sym logical i }

-- a local timestamp that may be stored
pub record IsLocal (local ts : Timestamp) : Type 0 where
  pub range : is_in_range local ≡ true
  pub kept : kept_local local ts ≡ local

pub IsLocal-stored : (local ts : Timestamp) → IsKeptLocal local ts → IsLocal local ts
IsLocal-stored local ts h = by (is_no_time local) refl h
  where
    by : (b : Bool) → is_no_time local ≡ b → (b || (is_in_range local && is_before local ts)) ≡ true → IsLocal local ts
    by true e h =
        let none : no_time ≡ local = no_time-is local e in
        record { range = subst (λ (t : Timestamp). is_in_range t ≡ true) none refl; kept = rw e none }
    by false e h =
        let parts = and_parts (is_in_range local) (is_before local ts) h in
        record { range = parts.0; kept = kept_local_kept local ts e parts.1 }
