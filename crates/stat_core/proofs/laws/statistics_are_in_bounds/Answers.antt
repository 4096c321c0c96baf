use Rattle.stat_core.proofs.laws.statistics_are_in_bounds.Goals as goal
use Rattle.stat_core.proofs.BoundsLaws.{compute_stats-bounds, share-part}

pub returns-clause-live_bytes : goal.returns-clause-live_bytes
returns-clause-live_bytes c = λ now pairs fs. (compute_stats-bounds now pairs fs).live_bytes

pub returns-clause-live_count : goal.returns-clause-live_count
returns-clause-live_count c = λ now pairs fs. (compute_stats-bounds now pairs fs).live_count

pub returns-clause-intent_count : goal.returns-clause-intent_count
returns-clause-intent_count c = λ now pairs fs. (compute_stats-bounds now pairs fs).intent_count

pub returns-clause-range_key_count : goal.returns-clause-range_key_count
returns-clause-range_key_count c = λ now pairs fs. (compute_stats-bounds now pairs fs).range_key_count

pub returns-clause-parts : goal.returns-clause-parts
returns-clause-parts c = share-part
