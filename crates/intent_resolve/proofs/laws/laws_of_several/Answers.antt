use Rattle.intent_resolve.proofs.EachLaws.{resolve_each-resolutions, resolve_each_keeps_valid, resolve_each_resolves, resolve_each_as_alone}
use Rattle.intent_resolve.proofs.SameLaws.{resolved_each_is_one}
use Rattle.intent_resolve.proofs.laws.laws_of_several.Goals as goal

pub returns : goal.returns
returns c = record {
  resolutions = resolve_each-resolutions;
  valid = resolve_each_keeps_valid;
  resolved = resolve_each_resolves;
  alone = resolve_each_as_alone;
  one = resolved_each_is_one;
}
