-- How a run ends, by what was read and what was written.
use Rattle.std.specs.Prelude.{◌≡◌, ℕ, ◌<◌, ◌≤◌, List, ◌++◌, length, take, drop, Option, Some, None, Result, Ok, Err, OnOk, OnErr, IfSome, ◌⊎◌}
use Rattle.std.specs.Io.{StartsWith}
use Rattle.std.specs.Io.KnownBytes.{Appends, Consumes}
use Rattle.std.proofs.KnownBytes.{starts_with_rest}
use Rattle.std.proofs.Common.{refl, sym, ap, ◌∙◌, subst, arith, append_assoc, length-append, take-append-drop, inl, inr}
use Rattle.std.proofs.Math.Seq.{take-append_seam}
use Rattle.io_edge.specs.Writing.{AppendsBeginning}
use Rattle.script_line.specs.CommandLine.{Options, Run, invocation}
use Rattle.script_run.specs.Output.{output, script_output, whole_part}
use Rattle.script_run.specs.Promise.{WritesAll, WritesWholeLines, WritesBeginning, script_max}
use Rattle.script_run.specs.views.Ending.{AnswersAs, EndsAs, status_after}
use Rattle.script_run.specs.declared.answers.WriteStop.{WriteStop}
use Rattle.script_run.specs.declared.answers.WriteStop.TheVariants as stop
use Rattle.script_run.specs.declared.program.Status.{Status}
use Rattle.script_run.specs.declared.program.Status.TheVariants as status
use Rattle.script_run.proofs.OutputLaws.{whole_part-begins}

-- a beginning of a text is one of each text that goes on from it
longer_text : (held held' : Option (List ℕ)) (text rest all : List ℕ) → all ≡ text ++ rest → AppendsBeginning held held' text → AppendsBeginning held held' all
longer_text held held' text rest all is begun =
    let p = begun.part in
    let left : List ℕ = drop (length p) text in
    let cut : text ≡ p ++ left = starts_with_rest text p begun.beginning in
    let whole : p ++ (left ++ rest) ≡ all = sym (append_assoc p left rest) ∙ ap (λ l. l ++ rest) (sym cut) ∙ sym is in
    record { part = p; beginning = subst (λ l. StartsWith l p) whole (take-append_seam p (left ++ rest)); appended = begun.appended }

-- a beginning of the text of its whole lines is one of the text of a script
whole_lines_begin : (options : Options) (script whole : List ℕ) (held held' : Option (List ℕ)) → whole ≡ whole_part (take script_max script) → AppendsBeginning held held' (script_output options whole)
    → AppendsBeginning held held' (script_output options script)
whole_lines_begin options script whole held held' is begun =
    let more = whole_part-begins options (take script_max script) (drop script_max script) in
    let goes_on : script_output options script ≡ script_output options whole ++ more.0 =
    ap (script_output options) (sym (take-append-drop script_max script)) ∙ more.1 ∙ ap (λ w. script_output options w ++ more.0) (sym is) in
    longer_text held held' (script_output options whole) more.0 (script_output options script) goes_on begun

-- the answers of the whole lines of a script that is too long
pub answered_whole_lines : {A : Type 0} (options : Options) (written : Result A WriteStop) (ending : Status) (script whole : List ℕ) (held held' : Option (List ℕ)) → ending ≡ status_after written status.ScriptTooLong
    → script_max < length script → whole ≡ whole_part (take script_max script) → OnOk written (Appends held held' (script_output options whole))
    → OnErr written (AppendsBeginning held held' (script_output options whole)) → AnswersAs ending (script_output options) script held held'
answered_whole_lines options (Ok done) ending script whole held held' ends long is all part =
    rw ends (long, subst (λ w. Appends held held' (script_output options w)) is all)
answered_whole_lines options (Err stop.WriteFault) ending script whole held held' ends long is all part = rw ends (whole_lines_begin options script whole held held' is part)
answered_whole_lines options (Err stop.OutOfMemory) ending script whole held held' ends long is all part = rw ends (whole_lines_begin options script whole held held' is part)

-- words that read as run say the text of the script
output-Run : (options : Options) (words : List (List ℕ)) → invocation words ≡ Some (Run options) → (script : List ℕ) → script_output options script ≡ output words script
unfolding output
output-Run options words is script = rw is refl

module _ (words : List (List ℕ)) (left left' held held' : Option (List ℕ)) (options : Options) (is : invocation words ≡ Some (Run options)) where
  pub all_said : WritesAll (script_output options) left left' held held' → WritesAll (output words) left left' held held'
  all_said w = record {
    given = w.given;
    consumed = w.consumed;
    ended = w.ended;
    within = w.within;
    appended = subst (Appends held held') (output-Run options words is w.given) w.appended;
  }

  pub whole_lines_said : WritesWholeLines (script_output options) left left' held held' → WritesWholeLines (output words) left left' held held'
  whole_lines_said w = record {
    given = w.given;
    consumed = w.consumed;
    beyond = w.beyond;
    appended = subst (Appends held held') (output-Run options words is (whole_part (take script_max w.given))) w.appended;
  }

  pub beginning_said : WritesBeginning (script_output options) left left' held held' → WritesBeginning (output words) left left' held held'
  beginning_said w = record {
    given = w.given;
    consumed = w.consumed;
    appended = subst (AppendsBeginning held held') (output-Run options words is w.given) w.appended;
  }

-- a source that tells its bytes gave no more than them
given_within : (script given : List ℕ) (left' : Option (List ℕ)) → Consumes (Some script) left' given → length given ≤ length script
given_within script given None consumed = absurd consumed
given_within script given (Some rest) consumed = let e = ap length consumed ∙ length-append given rest in omega (arith, e)

-- a run without a fault over a script within the limit is done, or finds no memory
pub runs_through : (ending : Status) (text : List ℕ → List ℕ) (left left' held held' : Option (List ℕ)) (P R W : Type 0) → EndsAs ending text left left' held held'
    → (ending ≡ status.ReadFault → R) → (ending ≡ status.WriteFault → W)
    → IfSome left (λ script. P → length script ≤ script_max → ¬ R → ¬ W → (ending ≡ status.Done) ⊎ (ending ≡ status.OutOfMemory))
runs_through ending text None left' held held' P R W ends read write = tt
runs_through ending text (Some script) left' held held' P R W ends read write = λ p low no_read no_write. by ending ends read write low no_read no_write
  where
    by : (s : Status) → EndsAs s text (Some script) left' held held' → (s ≡ status.ReadFault → R) → (s ≡ status.WriteFault → W) → length script ≤ script_max → ¬ R → ¬ W
        → (s ≡ status.Done) ⊎ (s ≡ status.OutOfMemory)
    by status.Done e r w low no_read no_write = inl refl
    by status.Usage e r w low no_read no_write = absurd e
    by status.ReadFault e r w low no_read no_write = absurd (no_read (r refl))
    by status.WriteFault e r w low no_read no_write = absurd (no_write (w refl))
    by status.ScriptTooLong e r w low no_read no_write = let few = given_within script e.given left' e.consumed in absurd (omega (arith, e.beyond, few))
    by status.OutOfMemory e r w low no_read no_write = inr refl

-- a run that a fault ends wrote a beginning
pub stopped_by_fault : (ending : Status) (text : List ℕ → List ℕ) (left left' held held' : Option (List ℕ)) → EndsAs ending text left left' held held'
    → (ending ≡ status.ReadFault) ⊎ ((ending ≡ status.WriteFault) ⊎ (ending ≡ status.OutOfMemory)) → WritesBeginning text left left' held held'
stopped_by_fault ending text left left' held held' ends (inl read) = subst (λ s. EndsAs s text left left' held held') read ends
stopped_by_fault ending text left left' held held' ends (inr (inl write)) = subst (λ s. EndsAs s text left left' held held') write ends
stopped_by_fault ending text left left' held held' ends (inr (inr memory)) = subst (λ s. EndsAs s text left left' held held') memory ends
