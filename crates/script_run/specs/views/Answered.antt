-- A command that is carried out and answered.
use Rattle.std.specs.Prelude.{◌≡◌, ℕ, List, [], ◌∷◌, ◌++◌, Option, Some, None, Result, Ok, Err}
use Rattle.std.specs.List.{flat_map}
use Rattle.script_text.specs.Text.{Answer, Refused, Reason, show}
use Rattle.script_text.specs.views.Appending.{Extends}
use Rattle.script_run.specs.Output.{Carried, ScriptState}
use Rattle.script_run.specs.views.Told.{told_by}
use Rattle.script_run.specs.declared.stop.CommandStop.{CommandStop}

-- it has answers, whose text was appended
pub record IsAnswered (c : Carried) (s : ScriptState) (old new : List ℕ) : Type 0 where
  pub answer : Answer
  pub more : List Answer
  pub carried : c ≡ record { state = s; answers = answer ∷ more }
  pub shown : new ≡ old ++ flat_map show (answer ∷ more)

-- it is refused, which leaves the state and the text
pub record IsRefused (why : Reason) (c : Carried) (s s' : ScriptState) (old new : List ℕ) : Type 0 where
  pub carried : c ≡ record { state = s; answers = Refused why ∷ [] }
  pub state : s' ≡ s
  pub text : new ≡ old

-- it is refused, or where memory is wanting a beginning of its text may have been appended
abbrev pub IsRefusedOr : Option Reason → Carried → ScriptState → ScriptState → List ℕ → List ℕ → Type 0
IsRefusedOr None c s s' old new = Extends old new
IsRefusedOr (Some why) c s s' old new = IsRefused why c s s' old new

-- it is answered or refused as the definitions say
abbrev pub Carries : {A : Type 0} → Result A CommandStop → Carried → ScriptState → ScriptState → List ℕ → List ℕ → Type 0
Carries (Ok done) c s s' old new = IsAnswered c s' old new
Carries (Err stop) c s s' old new = IsRefusedOr (told_by stop) c s s' old new

-- the text of the refusal was appended, where there is one
abbrev pub TellsRefusal : Option Reason → List ℕ → List ℕ → Type 0
TellsRefusal None old new = ⊥
TellsRefusal (Some why) old new = new ≡ old ++ show (Refused why)
