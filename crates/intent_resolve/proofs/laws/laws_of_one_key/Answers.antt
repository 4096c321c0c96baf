use Rattle.intent_resolve.proofs.CauseLaws.{refusals_have_causes}
use Rattle.intent_resolve.proofs.AlikeLaws.{alike_resolve_alike}
use Rattle.intent_resolve.proofs.PairsLaws.{resolution_stores}
use Rattle.intent_resolve.proofs.PartLaws.{dropped_and_moved_fits}
use Rattle.intent_resolve.proofs.ResolveLaws.{resolve_keeps_valid, resolve_changes_only, resolve_changes_key}
use Rattle.intent_resolve.proofs.laws.laws_of_one_key.Goals as goal

pub returns : goal.returns
returns c = record {
  valid = resolve_keeps_valid;
  only = resolve_changes_only;
  its = resolve_changes_key;
  stores = resolution_stores;
  short = dropped_and_moved_fits;
  causes = refusals_have_causes;
  alike = alike_resolve_alike;
}
