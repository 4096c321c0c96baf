-- The lines are those of the engine's parts.
use Rattle.std.proofs.Common.{◌≤◌, ◌++◌, length, map, flat_map, ap, ◌∙◌, subst}
use Rattle.lsm_store.specs.Parts.{layout}
use Rattle.lsm_store.specs.views.Seen.{seen_shape}
use Rattle.script_text.specs.Text.{show}
use Rattle.script_run.specs.Output.{ScriptState, layout_answers}
use Rattle.script_run.proofs.LayoutLaws.{layout-answered}
use Rattle.script_run.proofs.session.Session.layout.Goals as goal

pub returns : goal.returns
returns c =
    let are = ap (map seen_shape) c.deref.ensures.value ∙ c.in_ok-shapes.ensures ∙ ap (λ s. layout s.engine.parts) c.self.view_is in
    layout-answered c.args.self.now c.args.text.now.items c.show_layout.new.text.items (subst (λ (s : ScriptState). 1 ≤ length s.engine.parts) c.self.view_is c.self.invariant)
    (c.in_ok-show_layout.ensures.ok ∙ ap (λ shapes. c.args.text.now.items ++ flat_map show (layout_answers 0 shapes)) are)
