use Rattle.std.proofs.Common.{subst}
use Rattle.run_block.specs.RunFormat.{Run}
use Rattle.run_block.specs.TimeSpan.{times_of}
use Rattle.run_block.proofs.SpanLaws.{TellsSpan, tells-span}
use Rattle.run_block.proofs.run.Run.time_span.Goals as goal

pub returns-clause-none : goal.returns-clause-none
returns-clause-none c =
    (subst (λ (r : Run). TellsSpan c.self.inside.span (times_of r)) c.self.view_is (tells-span c.self.inside.span _ c.self.invariant.span_is)).none

pub returns-clause-least : goal.returns-clause-least
returns-clause-least c =
    (subst (λ (r : Run). TellsSpan c.self.inside.span (times_of r)) c.self.view_is (tells-span c.self.inside.span _ c.self.invariant.span_is)).least

pub returns-clause-greatest : goal.returns-clause-greatest
returns-clause-greatest c =
    (subst (λ (r : Run). TellsSpan c.self.inside.span (times_of r)) c.self.view_is (tells-span c.self.inside.span _ c.self.invariant.span_is)).greatest
