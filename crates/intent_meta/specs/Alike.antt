-- Histories that no answer can tell apart, however their tombstones were written.
use Rattle.std.specs.Prelude.{◌≡◌, Result, Ok, Err}
use Rattle.mvcc_key.specs.History.{History, Changed}
use Rattle.mvcc_key.specs.Fragments.{fragments}
use Rattle.mvcc_key.specs.Refusal.{Refusal}

-- the same versions, intents and fragments
pub record AreAlike (h k : History) : Type 0 where
  pub versions : h.versions ≡ k.versions
  pub intents : h.intents ≡ k.intents
  pub fragments : fragments h.tombstones ≡ fragments k.tombstones

-- the same refusal, or what the relation holds of
abbrev pub EndAlike : {A : Type 0} → (A → A → Type 0) → Result A Refusal → Result A Refusal → Type 0
EndAlike R (Ok a) (Ok b) = R a b
EndAlike R (Err a) (Err b) = a ≡ b
EndAlike R (Ok a) (Err b) = ⊥
EndAlike R (Err a) (Ok b) = ⊥

-- the same answer, and histories of which the relation holds
pub record ChangedBy {A : Type 0} (R : History → History → Type 0) (c d : Changed A) : Type 0 where
  pub history : R c.history d.history
  pub answer : c.answer ≡ d.answer

-- the same answer, and histories that are alike
abbrev pub ChangedAlike : {A : Type 0} → Changed A → Changed A → Type 0
ChangedAlike = ChangedBy AreAlike
