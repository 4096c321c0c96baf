use Rattle.intent_meta.proofs.KeyChangeLaws.{change_keeps_valid, change_leaves_others, version_on_top_is_one_pair, intent_in_place_is_two_pairs}
use Rattle.write_rule.proofs.laws.laws_of_points.Goals as goal

pub returns : goal.returns
returns c = record {
  version = version_on_top_is_one_pair;
  intent = intent_in_place_is_two_pairs;
  valid = change_keeps_valid;
  others = change_leaves_others;
}
