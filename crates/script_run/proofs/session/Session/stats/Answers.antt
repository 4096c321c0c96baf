-- The statistics are those of the engine.
use Rattle.std.proofs.Common.{◌++◌, refl, ap, ◌∙◌}
use Rattle.mvcc_engine.specs.Step as engine
use Rattle.mvcc_engine.specs.Step.{statistics, step}
use Rattle.script_line.specs.Grammar.{Stats}
use Rattle.script_text.specs.Text.{Statistics, show}
use Rattle.script_run.specs.Output.{statistics_shown, statistics_answer}
use Rattle.script_run.proofs.StepLaws.{taken, step-stats}
use Rattle.script_run.proofs.session.Session.stats.Goals as goal

pub returns : goal.returns
returns c =
    let s = c.args.self.now in
    let e = s.engine in
    let stands = c.stats.ensures ∙ ap (λ t. record { sums = statistics t.engine.last t.engine.history; last = t.engine.last; count_max = t.engine.count_max }) c.self.view_is in
    taken c.args.text.now.items c.show.new.into.items s s refl Stats statistics_shown (step e engine.Stats) refl e
    (engine.Statistics (statistics e.last e.history) e.last) (statistics_answer e) (step-stats e) refl
    (c.in_ok-show.ensures.ok ∙ ap (λ q. c.args.text.now.items ++ show (Statistics q.sums q.last)) stands)
