-- Text that is gathered and written piece by piece.
use Rattle.std.specs.Prelude.{◌≡◌, ℕ, ◌+◌, List, [], ◌∷◌, ◌++◌, Option}
use Rattle.std.specs.Io.KnownBytes.{Appends}
use Rattle.std.specs.Io.{StartsWith}
use Rattle.std.proofs.KnownBytes.{Appends-nil, Appends-trans, starts_with_rest}
use Rattle.std.proofs.Common.{refl, sym, ap, ◌∙◌, subst, append_assoc, append-nil, length, drop}
use Rattle.std.proofs.Math.Seq.{take-append_seam}
use Rattle.io_edge.specs.Writing.{AppendsBeginning}
use Rattle.script_line.specs.CommandLine.{Options}
use Rattle.script_run.specs.Output.{ScriptState, first_script_state, Carried, carry_out, text_of, lines, output_from, script_output}
use Rattle.script_run.specs.views.Gathering.{Moves, Gathers, GathersBeginning}

-- what is written, what is gathered and what is to come are all of the text
pub record IsUnderWay (held held' : Option (List ℕ)) (gathered coming all : List ℕ) : Type 0 where
  pub written : List ℕ
  pub appended : Appends held held' written
  pub whole : (written ++ gathered) ++ coming ≡ all

-- before the first line
pub begun : (options : Options) (held : Option (List ℕ)) (gathered script : List ℕ) (state : ScriptState) → gathered ≡ [] → state ≡ first_script_state options.count_max → IsUnderWay held held gathered (output_from options.stats state 1 (lines script)) (script_output options script)
unfolding script_output
begun options held gathered script state none first = record { written = []; appended = Appends-nil held; whole = rw (none, first) refl }

-- the text of a line and of the lines behind it
output_from-line : (options : Options) (state : ScriptState) (n : ℕ) (line : List ℕ) (rest : List (List ℕ))
    → output_from options.stats state n (line ∷ rest) ≡ text_of options.stats (carry_out state n line) ++ output_from options.stats (carry_out state n line).state (n + 1) rest
unfolding output_from
output_from-line options state n line rest = refl

-- one line more
pub one_more : (options : Options) (held held' held'' : Option (List ℕ)) (text text' text'' script rest behind line : List ℕ) (state state' : ScriptState) (n : ℕ)
    → IsUnderWay held held' text (output_from options.stats state n (lines rest)) (script_output options script) → lines rest ≡ line ∷ lines behind → state' ≡ (carry_out state n line).state
    → text' ≡ text ++ text_of options.stats (carry_out state n line) → Moves held' held'' text' text''
    → IsUnderWay held held'' text'' (output_from options.stats state' (n + 1) (lines behind)) (script_output options script)
one_more options held held' held'' text text' text'' script rest behind line state state' n so_far is after shown moved =
    let c : Carried = carry_out state n line in
    let later : List ℕ = output_from options.stats c.state (n + 1) (lines behind) in
    let coming : output_from options.stats state n (lines rest) ≡ text_of options.stats c ++ later = ap (output_from options.stats state n) is ∙ output_from-line options state n line (lines behind) in
    let all : (so_far.written ++ text) ++ (text_of options.stats c ++ later) ≡ script_output options script = ap (λ l. (so_far.written ++ text) ++ l) (sym coming) ∙ so_far.whole in
    record {
      written = so_far.written ++ moved.part;
      appended = Appends-trans held held' held'' so_far.written moved.part so_far.appended moved.appended;
      whole =
          ap (λ s. ((so_far.written ++ moved.part) ++ text'') ++ output_from options.stats s (n + 1) (lines behind)) after
          ∙ ap (λ l. l ++ later) (append_assoc so_far.written moved.part text'')
          ∙ ap (λ l. (so_far.written ++ l) ++ later) (sym moved.whole)
          ∙ ap (λ l. (so_far.written ++ l) ++ later) shown
          ∙ ap (λ l. l ++ later) (sym (append_assoc so_far.written text (text_of options.stats c)))
          ∙ append_assoc (so_far.written ++ text) (text_of options.stats c) later
          ∙ all;
    }

-- behind the last line all is written or gathered
pub all_gathered : (options : Options) (held held' : Option (List ℕ)) (text script rest : List ℕ) (state : ScriptState) (n : ℕ)
    → IsUnderWay held held' text (output_from options.stats state n (lines rest)) (script_output options script) → rest ≡ [] → Gathers held held' text (script_output options script)
unfolding output_from lines
all_gathered options held held' text script rest state n so_far none =
    let nothing : output_from options.stats state n (lines rest) ≡ [] = rw none refl in
    record {
      written = so_far.written;
      appended = so_far.appended;
      whole = sym (append-nil (so_far.written ++ text)) ∙ ap (λ l. (so_far.written ++ text) ++ l) (sym nothing) ∙ so_far.whole;
    }

-- what is written of a text that was gathered, behind what was written before
written_behind : (held held' held'' : Option (List ℕ)) (written text rest all : List ℕ) → Appends held held' written → (written ++ text) ++ rest ≡ all
    → AppendsBeginning held' held'' text → AppendsBeginning held held'' all
written_behind held held' held'' written text rest all before whole failed =
    let p = failed.part in
    let left : List ℕ = drop (length p) text in
    let cut : text ≡ p ++ left = starts_with_rest text p failed.beginning in
    let is : (written ++ p) ++ (left ++ rest) ≡ all =
    sym (append_assoc (written ++ p) left rest) ∙ ap (λ l. l ++ rest) (append_assoc written p left) ∙ ap (λ l. (written ++ l) ++ rest) (sym cut) ∙ whole in
    record {
      part = written ++ p;
      beginning = subst (λ l. StartsWith l (written ++ p)) is (take-append_seam (written ++ p) (left ++ rest));
      appended = Appends-trans held held' held'' written p before failed.appended;
    }

-- a write that fails leaves a beginning written
pub stopped_in : (held held' held'' : Option (List ℕ)) (text text' coming all shown : List ℕ) → IsUnderWay held held' text (shown ++ coming) all → text' ≡ text ++ shown
    → AppendsBeginning held' held'' text' → AppendsBeginning held held'' all
stopped_in held held' held'' text text' coming all shown so_far grown failed =
    let w = so_far.written in
    let whole : (w ++ text') ++ coming ≡ all =
    ap (λ l. (w ++ l) ++ coming) grown ∙ ap (λ l. l ++ coming) (sym (append_assoc w text shown)) ∙ append_assoc (w ++ text) shown coming ∙ so_far.whole in
    written_behind held held' held'' w text' coming all so_far.appended whole failed

-- what is gathered is written at the end
pub written_part : (held held' held'' : Option (List ℕ)) (text all : List ℕ) → Gathers held held' text all → AppendsBeginning held' held'' text → AppendsBeginning held held'' all
written_part held held' held'' text all gathered failed =
    written_behind held held' held'' gathered.written text [] all gathered.appended (append-nil (gathered.written ++ text) ∙ gathered.whole) failed

-- also where the rest is wanting
pub written_beginning : (held held' held'' : Option (List ℕ)) (text all : List ℕ) → GathersBeginning held held' text all → Appends held' held'' text → AppendsBeginning held held'' all
written_beginning held held' held'' text all gathered more = record {
  part = gathered.written ++ text;
  beginning = subst (λ l. StartsWith l (gathered.written ++ text)) gathered.whole (take-append_seam (gathered.written ++ text) gathered.rest);
  appended = Appends-trans held held' held'' gathered.written text gathered.appended more;
}

pub written_beginning_part : (held held' held'' : Option (List ℕ)) (text all : List ℕ) → GathersBeginning held held' text all → AppendsBeginning held' held'' text → AppendsBeginning held held'' all
written_beginning_part held held' held'' text all gathered failed =
    written_behind held held' held'' gathered.written text gathered.rest all gathered.appended gathered.whole failed

-- the text to come begins with that of the first line
pub as_line : (options : Options) (held held' : Option (List ℕ)) (text script rest behind line : List ℕ) (state : ScriptState) (n : ℕ)
    → IsUnderWay held held' text (output_from options.stats state n (lines rest)) (script_output options script) → lines rest ≡ line ∷ lines behind
    → IsUnderWay held held' text (text_of options.stats (carry_out state n line) ++ output_from options.stats (carry_out state n line).state (n + 1) (lines behind)) (script_output options script)
as_line options held held' text script rest behind line state n so_far is =
    subst (λ l. IsUnderWay held held' text l (script_output options script)) (ap (output_from options.stats state n) is ∙ output_from-line options state n line (lines behind)) so_far
