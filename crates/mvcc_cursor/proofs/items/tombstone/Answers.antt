-- A tombstone as it is lent.
use Rattle.std.proofs.Common.{sym, ap}
use Rattle.std.specs.Option.{option_map}
use Rattle.mvcc_key.specs.Items.{tombstone_item}
use Rattle.mvcc_key.specs.views.Seen.{time_of}
use Rattle.mvcc_value.specs.Encoding.{value_bytes}
use Rattle.intent_meta.specs.views.Lent.{lent_item}
use Rattle.mvcc_cursor.proofs.items.tombstone.Goals as goal

pub returns-in-Some : goal.returns-in-Some
unfolding value_bytes
returns-in-Some c = sym (ap (λ o. option_map (λ t. lent_item (tombstone_item t)) (option_map time_of o)) c.in-Some.is)
