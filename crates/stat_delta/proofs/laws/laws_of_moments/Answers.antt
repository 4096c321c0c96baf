-- Each is a lemma of this crate.
use Rattle.stat_delta.proofs.MomentLaws.{stored_is_by, greatest_is_last, nothing_moves, version_moves, intent_moves}
use Rattle.stat_delta.proofs.laws.laws_of_moments.Goals as goal

pub returns : goal.returns
returns c = record { stored = stored_is_by; greatest = greatest_is_last; stays = nothing_moves; version = version_moves; intent = intent_moves }
