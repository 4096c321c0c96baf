use Rattle.intent_resolve.proofs.CauseLaws.{span_refusals_have_causes}
use Rattle.intent_resolve.proofs.AlikeLaws.{alike_range_alike}
use Rattle.intent_resolve.proofs.RangeLaws.{resolve_range-resolutions, resolve_range_keeps_valid, resolve_range_resolves, resolve_range_as_alone, resolve_range_leaves_outside}
use Rattle.intent_resolve.proofs.laws.laws_of_spans.Goals as goal

pub returns : goal.returns
returns c = record {
  resolutions = resolve_range-resolutions;
  valid = resolve_range_keeps_valid;
  resolved = resolve_range_resolves;
  alone = resolve_range_as_alone;
  outside = resolve_range_leaves_outside;
  causes = span_refusals_have_causes;
  alike = alike_range_alike;
}
