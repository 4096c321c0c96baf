-- The lines of a layout, one after another.
use Rattle.std.specs.Prelude.{◌≡◌, ℕ, ◌+◌, ◌<◌, ◌≤◌, List, [], ◌∷◌, ◌++◌, length, map, take}
use Rattle.std.specs.List.{flat_map}
use Rattle.std.proofs.Common.{refl, sym, ap, ◌∙◌, append-nil, get_or, arith}
use Rattle.std.proofs.lemmas.List.{take_more, map-append, length-map, length-take-le}
use Rattle.script_text.proofs.TextLaws.{two_pieces}
use Rattle.std.proofs.lemmas.Grind.{flat_map-append}
use Rattle.lsm_store.specs.Parts as parts
use Rattle.lsm_store.specs.Parts.{part_shape, layout}
use Rattle.lsm_store.specs.views.Seen.{seen_shape}
use Rattle.lsm_store.specs.declared.shape.PartShape.{PartShape}
use Rattle.script_text.specs.Text.{Answer, LayoutLine, show}
use Rattle.mvcc_engine.specs.Step as engine
use Rattle.mvcc_engine.specs.Step.{step}
use Rattle.script_line.specs.Grammar.{Layout}
use Rattle.script_run.specs.views.Answered.{IsAnswered}
use Rattle.script_run.specs.Output.{ScriptState, laid_out, layout_answers, performed}
use Rattle.script_run.proofs.StepLaws.{taken_all, step-layout}

-- the line of a part
abbrev line : ℕ → parts.PartShape → Answer
line index p = LayoutLine index p.keys p.clears p.ranges

-- the lines of parts and of one more behind them
layout_answers-more : (index : ℕ) (ps : List parts.PartShape) (p : parts.PartShape) → layout_answers index (ps ++ p ∷ []) ≡ layout_answers index ps ++ line (index + length ps) p ∷ []
layout_answers-more index [] p = ap (λ n. line n p ∷ []) (omega arith)
layout_answers-more index (q ∷ ps) p =
    ap (λ l. line index q ∷ l) (layout_answers-more (index + 1) ps p ∙ ap (λ n. layout_answers (index + 1) ps ++ line n p ∷ []) (omega arith))

-- the text of parts and of one more
pub layout_text-more : (old mid new : List ℕ) (shapes : List PartShape) (i : ℕ) (other : PartShape) → i < length shapes
    → mid ≡ old ++ flat_map show (layout_answers 0 (map seen_shape (take i shapes))) → new ≡ mid ++ show (line i (seen_shape (get_or shapes i other)))
    → new ≡ old ++ flat_map show (layout_answers 0 (map seen_shape (take (i + 1) shapes)))
layout_text-more old mid new shapes i other within so_far one =
    let shape : PartShape = get_or shapes i other in
    let before : List PartShape = take i shapes in
    let front : List parts.PartShape = map seen_shape before in
    let count : length front ≡ i = length-map before seen_shape ∙ length-take-le i shapes (omega arith) in
    let longer : map seen_shape (take (i + 1) shapes) ≡ front ++ seen_shape shape ∷ [] =
    ap (map seen_shape) (take_more shapes i other within) ∙ map-append seen_shape before (shape ∷ []) in
    let answers : layout_answers 0 (map seen_shape (take (i + 1) shapes)) ≡ layout_answers 0 front ++ line i (seen_shape shape) ∷ [] =
    ap (layout_answers 0) longer ∙ layout_answers-more 0 front (seen_shape shape) ∙ ap (λ n. layout_answers 0 front ++ line n (seen_shape shape) ∷ []) (omega arith) in
    let shown : flat_map show (layout_answers 0 (map seen_shape (take (i + 1) shapes))) ≡ flat_map show (layout_answers 0 front) ++ show (line i (seen_shape shape)) =
    ap (flat_map show) answers ∙ flat_map-append show (layout_answers 0 front) (line i (seen_shape shape) ∷ []) ∙ ap (λ t. flat_map show (layout_answers 0 front) ++ t) (append-nil (show (line i (seen_shape shape)))) in
    two_pieces old mid new (flat_map show (layout_answers 0 front)) (show (line i (seen_shape shape))) so_far one ∙ ap (λ t. old ++ t) (sym shown)

-- a state that has a part is answered by its lines
pub layout-answered : (s : ScriptState) (old new : List ℕ) → 1 ≤ length s.engine.parts → new ≡ old ++ flat_map show (layout_answers 0 (layout s.engine.parts))
    → IsAnswered (performed s Layout) s old new
layout-answered s old new some appended = by s.engine.parts refl
  where
    by : (ps : List parts.Part) → s.engine.parts ≡ ps → IsAnswered (performed s Layout) s old new
    by [] none = absurd (omega (arith, ap length none))
    by (p ∷ ps) are =
        taken_all old new s s refl Layout laid_out (step s.engine engine.Layout) refl s.engine (engine.Parts (layout s.engine.parts)) (line 0 (part_shape p)) (layout_answers 1 (layout ps))
        (step-layout s.engine) (ap (λ l. layout_answers 0 (layout l)) are) (appended ∙ ap (λ l. old ++ flat_map show (layout_answers 0 (layout l))) are)
