-- What a line does to the state, and its answers.
use Rattle.std.specs.Prelude.{◌≡◌, ℕ, Bool, true, false, List, [], ◌∷◌, ◌++◌, cond, Option, Some, None, Result, Ok}
use Rattle.std.specs.List.{flat_map}
use Rattle.std.specs.Option.{option_map, option_copied}
use Rattle.std.proofs.Common.{refl, sym, ap, ◌∙◌, subst, append-nil, Bor}
use Rattle.std.proofs.lemmas.Grind.{flat_map-append}
use Rattle.lsm_store.specs.Parts.{layout}
use Rattle.mvcc_key.specs.Steps.{◌>>=◌}
use Rattle.mvcc_key.specs.Order.{Timestamp, Key}
use Rattle.mvcc_key.specs.Refusal.{Refusal}
use Rattle.mvcc_key.specs.declared.span.Span.{Span}
use Rattle.mvcc_value.specs.views.Seen.{found_of}
use Rattle.mvcc_value.specs.declared.value.Found.{Found}
use Rattle.txn_state.specs.Transaction.{Actor}
use Rattle.write_rule.specs.Write.{WriteKind}
use Rattle.write_rule.specs.views.Seen as rule
use Rattle.intent_resolve.specs.views.Seen.{span_of}
use Rattle.mvcc_engine.specs.Step as engine
use Rattle.mvcc_engine.specs.Step.{State, Command, Reply, Stepped, statistics, step}
use Rattle.script_line.specs.Grammar as grammar
use Rattle.script_line.specs.Grammar.{Line, Who, parse}
use Rattle.script_text.specs.Text as text
use Rattle.script_text.specs.Text.{Reason, ByEngine}
use Rattle.script_text.specs.views.Seen.{span_of as shown_span}
use Rattle.script_line.specs.views.SeenLine.{is_blank}
use Rattle.script_text.proofs.TextLaws.{two_pieces, Extends-same}
use Rattle.script_run.specs.Output.{ScriptState, Carried, carried, carry_out, or_refused, perform, performed, text_of, without_return, statistics_answer, actor, write, write_command, wrote}
use Rattle.script_run.specs.views.Answered.{IsAnswered, IsRefusedOr}
use Rattle.script_run.specs.views.Told.{Tells}

-- the text of answers, and of the statistics behind them where they are wanted
text_of-answers : (wanted : Bool) (c : Carried) (s : ScriptState) (a : text.Answer) (more : List text.Answer) → c ≡ record { state = s; answers = a ∷ more }
    → text_of wanted c ≡ flat_map text.show (a ∷ more) ++ cond wanted (text.show (statistics_answer s.engine)) []
text_of-answers true c s a more is =
    ap (text_of true) is ∙ flat_map-append text.show (a ∷ more) (statistics_answer s.engine ∷ []) ∙ ap (λ t. flat_map text.show (a ∷ more) ++ t) (append-nil (text.show (statistics_answer s.engine)))
text_of-answers false c s a more is = ap (text_of false) is ∙ flat_map-append text.show (a ∷ more) []

-- a line without a reading
pub carry_out-bad : (s : ScriptState) (n : ℕ) (line read : List ℕ) → read ≡ without_return line → parse read ≡ None
    → carry_out s n line ≡ record { state = s; answers = text.Refused (text.BadLine n) ∷ [] }
unfolding carry_out
carry_out-bad s n line read cut none = rw (sym cut, none) refl

-- a line that says something
pub carry_out-performed : (s : ScriptState) (n : ℕ) (line read : List ℕ) (said : Line) → read ≡ without_return line → parse read ≡ Some said → carry_out s n line ≡ performed s said
unfolding carry_out performed
carry_out-performed s n line read said cut is = rw (sym cut, is) refl

-- a blank line says nothing
pub performed-blank : (s : ScriptState) (said : Line) → is_blank said ≡ true → performed s said ≡ record { state = s; answers = [] }
unfolding performed
performed-blank s grammar.Blank blank = refl
performed-blank s (grammar.TxnBegin name ts limit id) blank = cc
performed-blank s (grammar.TxnStep name n) blank = cc
performed-blank s (grammar.TxnAdvance name ts) blank = cc
performed-blank s (grammar.TxnRestart name ts) blank = cc
performed-blank s (grammar.TxnRefresh name) blank = cc
performed-blank s (grammar.TxnIgnoreSeqs name ranges) blank = cc
performed-blank s (grammar.TxnRemove name) blank = cc
performed-blank s (grammar.Put key value who local) blank = cc
performed-blank s (grammar.Del key who local) blank = cc
performed-blank s (grammar.ConditionalPut key value who expected local) blank = cc
performed-blank s (grammar.InitPut key value who local) blank = cc
performed-blank s (grammar.Increment key who by local) blank = cc
performed-blank s (grammar.Resolve name key status ts) blank = cc
performed-blank s (grammar.ResolveRange name start end status ts max) blank = cc
performed-blank s (grammar.Get key ts) blank = cc
performed-blank s (grammar.Age now) blank = cc
performed-blank s grammar.Stats blank = cc
performed-blank s grammar.Flush blank = cc
performed-blank s (grammar.Compact keep) blank = cc
performed-blank s grammar.Layout blank = cc

-- a command that is carried out is answered
pub is_taken : (s s' : ScriptState) (said : Line) (old new : List ℕ) (a : text.Answer) (more : List text.Answer) → perform s said ≡ Ok (record { state = s'; answers = a ∷ more })
    → new ≡ old ++ flat_map text.show (a ∷ more) → IsAnswered (performed s said) s' old new
unfolding performed
is_taken s s' said old new a more took appended = record { answer = a; more = more; carried = ap (or_refused s) took; shown = appended }

-- one that is not is refused
pub is_refused : (s s' : ScriptState) (said : Line) (old new : List ℕ) (o : Option Reason) → Tells o (perform s said) → s' ≡ s → new ≡ old
    → IsRefusedOr o (performed s said) s s' old new
unfolding performed
is_refused s s' said old new None told same kept = Extends-same old new kept
is_refused s s' said old new (Some why) denied same kept = record { carried = ap (or_refused s) denied; state = same; text = kept }

-- what a command comes to, by what its step answers: v is the state as it is viewed
module _ (old new : List ℕ) (v s : ScriptState) (v_is : v ≡ s) (said : Line) (shown : Reply → List text.Answer) (answer : Result Stepped Refusal)
    (is : perform v said ≡ carried v shown answer) where
  -- a step that is taken
  pub taken_all : (e : State) (reply : Reply) (a : text.Answer) (more : List text.Answer) → answer ≡ Ok (record { state = e; reply = reply }) → shown reply ≡ a ∷ more
      → new ≡ old ++ flat_map text.show (a ∷ more) → IsAnswered (performed s said) (record v { engine = e }) old new
  taken_all e reply a more took are appended =
      subst (λ t. IsAnswered (performed t said) (record v { engine = e }) old new) v_is
      (is_taken v (record v { engine = e }) said old new a more
      (is ∙ ap (carried v shown) took ∙ ap (λ l. Ok (record { state = record v { engine = e }; answers = l })) are) appended)

  -- one that has one answer
  pub taken : (e : State) (reply : Reply) (a : text.Answer) → answer ≡ Ok (record { state = e; reply = reply }) → shown reply ≡ a ∷ [] → new ≡ old ++ text.show a
      → IsAnswered (performed s said) (record v { engine = e }) old new
  taken e reply a took one appended = taken_all e reply a [] took one (appended ∙ ap (λ t. old ++ t) (sym (append-nil (text.show a))))

  -- a step that is refused
  pub refused : (e : State) (o : Option Refusal) → rule.Tells o answer → e ≡ v.engine → new ≡ old
      → IsRefusedOr (option_map ByEngine o) (performed s said) s (record v { engine = e }) old new
  refused e None told same kept = Extends-same old new kept
  refused e (Some why) denied same kept =
      subst (λ t. IsRefusedOr (Some (ByEngine why)) (performed t said) t (record v { engine = e }) old new) v_is
      (is_refused v (record v { engine = e }) said old new (Some (ByEngine why)) (is ∙ ap (carried v shown) denied) (ap (λ t. record v { engine = t }) same) kept)

-- a command of the engine that asks for what the tables have
module _ (old new : List ℕ) (v s : ScriptState) (v_is : v ≡ s) (said : Line) {A : Type 0} (asked : Result A Reason) (command : A → Command) (shown : Reply → List text.Answer)
    (is : perform v said ≡ (asked >>= λ a. carried v shown (step v.engine (command a)))) where
  -- where they do not have it the command is refused
  pub not_asked : (o : Option Reason) → Tells o asked → new ≡ old → IsRefusedOr o (performed s said) s s old new
  not_asked None told kept = Extends-same old new kept
  not_asked (Some why) denied kept =
      subst (λ t. IsRefusedOr (Some why) (performed t said) t t old new) v_is
      (is_refused v v said old new (Some why) (is ∙ ap (λ r. r >>= λ a. carried v shown (step v.engine (command a))) denied) refl kept)

  -- else it is a step of the engine
  pub is_asked : (a : A) → asked ≡ Ok a → perform v said ≡ carried v shown (step v.engine (command a))
  is_asked a found = is ∙ ap (λ r. r >>= λ b. carried v shown (step v.engine (command b))) found

-- a write, by its writer
module _ (old new : List ℕ) (v s : ScriptState) (v_is : v ≡ s) (said : Line) (key : Key) (who : Who) (kind : WriteKind) (local : Timestamp) (is : perform v said ≡ write v key who kind local) where
  -- where there is no writer it is refused
  pub no_writer : (o : Option Reason) → Tells o (actor v.txns who) → new ≡ old → IsRefusedOr o (performed s said) s s old new
  no_writer = not_asked old new v s v_is said (actor v.txns who) (λ a. write_command key a kind local) wrote is

  -- else it is a step of the engine
  pub by_writer : (a : Actor) → actor v.txns who ≡ Ok a → perform v said ≡ carried v wrote (step v.engine (write_command key a kind local))
  by_writer = is_asked old new v s v_is said (actor v.txns who) (λ a. write_command key a kind local) wrote is

-- the text of a line with answers, and of the statistics behind them where they are wanted
pub answered : (wanted : Bool) (c : Carried) (s : ScriptState) (a : text.Answer) (more : List text.Answer) (old mid new : List ℕ) → c ≡ record { state = s; answers = a ∷ more }
    → mid ≡ old ++ flat_map text.show (a ∷ more) → new ≡ mid ++ cond wanted (text.show (statistics_answer s.engine)) [] → new ≡ old ++ text_of wanted c
answered wanted c s a more old mid new is first last =
    let statistics : List ℕ = cond wanted (text.show (statistics_answer s.engine)) [] in
    two_pieces old mid new (flat_map text.show (a ∷ more)) statistics first last ∙ ap (λ t. old ++ t) (sym (text_of-answers wanted c s a more is))

-- the text of a line without an answer
pub unanswered : (wanted : Bool) (c : Carried) (s : ScriptState) (old : List ℕ) → c ≡ record { state = s; answers = [] } → old ≡ old ++ text_of wanted c
unanswered wanted c s old is = sym (append-nil old) ∙ ap (λ t. old ++ t) (sym (ap (text_of wanted) is))

-- a look at the statistics is always taken, and leaves the state
pub step-stats : (s : State) → step s engine.Stats ≡ Ok (record { state = s; reply = engine.Statistics (statistics s.last s.history) s.last })
unfolding step
step-stats s = refl

-- so is a look at the layout
pub step-layout : (s : State) → step s engine.Layout ≡ Ok (record { state = s; reply = engine.Parts (layout s.parts) })
unfolding step
step-layout s = refl

-- a row that is lent
pub lent : (o : Option (Bor Found)) → option_map (λ f. found_of f.now) o ≡ option_map found_of (option_copied o)
lent None = refl
lent (Some f) = refl

-- a span that is lent
pub lent_span : (o : Option (Bor Span)) → option_map (λ s. shown_span s.now) o ≡ option_map span_of (option_copied o)
lent_span None = refl
lent_span (Some s) = refl
