-- Of two items that are lent the newer one.
use Rattle.std.specs.Prelude.{Option, Some, None, if◌then◌else◌}
use Rattle.mvcc_key.specs.Order.{Timestamp, is_before}
use Rattle.intent_meta.specs.views.Lent.{LentItem}

-- the newer item, and the first of two with one timestamp
abbrev pub newer_item : Option LentItem → Option LentItem → Option LentItem
newer_item None b = b
newer_item (Some a) None = Some a
newer_item (Some a) (Some b) = if is_before a.ts b.ts then Some b else Some a

-- the same of the timestamps of items
abbrev pub newer_times : Option (Timestamp × Timestamp) → Option (Timestamp × Timestamp) → Option (Timestamp × Timestamp)
newer_times None b = b
newer_times (Some a) None = Some a
newer_times (Some a) (Some b) = if is_before a.0 b.0 then Some b else Some a
