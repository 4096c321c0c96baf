use Rattle.mvcc_key.specs.Field.{KeyCount, KeyBytes, ValCount, ValBytes, LiveCount, LiveBytes, IntentCount, IntentBytes, IntentAge, GcBytesAge, RangeKeyCount, RangeKeyBytes, RangeValCount, RangeValBytes}
use Rattle.stat_core.proofs.FieldLaws.{each-field}
use Rattle.key_top.proofs.TotalLaws.{within-held, sum-held}
use Rattle.key_top.proofs.gathering.delta_sum.Goals as goal

pub add-requires-clause-a : goal.add-requires-clause-a
add-requires-clause-a c = within-held c.args.a.now.key_count (c.requires.a KeyCount)

pub add-requires-clause-b : goal.add-requires-clause-b
add-requires-clause-b c = within-held c.args.b.now.key_count (c.requires.b KeyCount)

pub add-requires-2-clause-a : goal.add-requires-2-clause-a
add-requires-2-clause-a c = within-held c.args.a.now.key_bytes (c.requires.a KeyBytes)

pub add-requires-2-clause-b : goal.add-requires-2-clause-b
add-requires-2-clause-b c = within-held c.args.b.now.key_bytes (c.requires.b KeyBytes)

pub add-requires-3-clause-a : goal.add-requires-3-clause-a
add-requires-3-clause-a c = within-held c.args.a.now.val_count (c.requires.a ValCount)

pub add-requires-3-clause-b : goal.add-requires-3-clause-b
add-requires-3-clause-b c = within-held c.args.b.now.val_count (c.requires.b ValCount)

pub add-requires-4-clause-a : goal.add-requires-4-clause-a
add-requires-4-clause-a c = within-held c.args.a.now.val_bytes (c.requires.a ValBytes)

pub add-requires-4-clause-b : goal.add-requires-4-clause-b
add-requires-4-clause-b c = within-held c.args.b.now.val_bytes (c.requires.b ValBytes)

pub add-requires-5-clause-a : goal.add-requires-5-clause-a
add-requires-5-clause-a c = within-held c.args.a.now.live_count (c.requires.a LiveCount)

pub add-requires-5-clause-b : goal.add-requires-5-clause-b
add-requires-5-clause-b c = within-held c.args.b.now.live_count (c.requires.b LiveCount)

pub add-requires-6-clause-a : goal.add-requires-6-clause-a
add-requires-6-clause-a c = within-held c.args.a.now.live_bytes (c.requires.a LiveBytes)

pub add-requires-6-clause-b : goal.add-requires-6-clause-b
add-requires-6-clause-b c = within-held c.args.b.now.live_bytes (c.requires.b LiveBytes)

pub add-requires-7-clause-a : goal.add-requires-7-clause-a
add-requires-7-clause-a c = within-held c.args.a.now.intent_count (c.requires.a IntentCount)

pub add-requires-7-clause-b : goal.add-requires-7-clause-b
add-requires-7-clause-b c = within-held c.args.b.now.intent_count (c.requires.b IntentCount)

pub add-requires-8-clause-a : goal.add-requires-8-clause-a
add-requires-8-clause-a c = within-held c.args.a.now.intent_bytes (c.requires.a IntentBytes)

pub add-requires-8-clause-b : goal.add-requires-8-clause-b
add-requires-8-clause-b c = within-held c.args.b.now.intent_bytes (c.requires.b IntentBytes)

pub add-requires-9-clause-a : goal.add-requires-9-clause-a
add-requires-9-clause-a c = within-held c.args.a.now.intent_age (c.requires.a IntentAge)

pub add-requires-9-clause-b : goal.add-requires-9-clause-b
add-requires-9-clause-b c = within-held c.args.b.now.intent_age (c.requires.b IntentAge)

pub add-requires-10-clause-a : goal.add-requires-10-clause-a
add-requires-10-clause-a c = within-held c.args.a.now.gc_bytes_age (c.requires.a GcBytesAge)

pub add-requires-10-clause-b : goal.add-requires-10-clause-b
add-requires-10-clause-b c = within-held c.args.b.now.gc_bytes_age (c.requires.b GcBytesAge)

pub add-requires-11-clause-a : goal.add-requires-11-clause-a
add-requires-11-clause-a c = within-held c.args.a.now.range_key_count (c.requires.a RangeKeyCount)

pub add-requires-11-clause-b : goal.add-requires-11-clause-b
add-requires-11-clause-b c = within-held c.args.b.now.range_key_count (c.requires.b RangeKeyCount)

pub add-requires-12-clause-a : goal.add-requires-12-clause-a
add-requires-12-clause-a c = within-held c.args.a.now.range_key_bytes (c.requires.a RangeKeyBytes)

pub add-requires-12-clause-b : goal.add-requires-12-clause-b
add-requires-12-clause-b c = within-held c.args.b.now.range_key_bytes (c.requires.b RangeKeyBytes)

pub add-requires-13-clause-a : goal.add-requires-13-clause-a
add-requires-13-clause-a c = within-held c.args.a.now.range_val_count (c.requires.a RangeValCount)

pub add-requires-13-clause-b : goal.add-requires-13-clause-b
add-requires-13-clause-b c = within-held c.args.b.now.range_val_count (c.requires.b RangeValCount)

pub add-requires-14-clause-a : goal.add-requires-14-clause-a
add-requires-14-clause-a c = within-held c.args.a.now.range_val_bytes (c.requires.a RangeValBytes)

pub add-requires-14-clause-b : goal.add-requires-14-clause-b
add-requires-14-clause-b c = within-held c.args.b.now.range_val_bytes (c.requires.b RangeValBytes)

pub returns-clause-sum : goal.returns-clause-sum
returns-clause-sum c = each-field _
    (sum-held c.in_ok-add.field-0 c.args.a.now.key_count c.args.b.now.key_count c.in_ok-add.ensures.within (c.requires.a KeyCount) (c.requires.b KeyCount) c.in_ok-add.ensures.sum)
    (sum-held c.in_ok-add-2.field-0 c.args.a.now.key_bytes c.args.b.now.key_bytes c.in_ok-add-2.ensures.within (c.requires.a KeyBytes) (c.requires.b KeyBytes) c.in_ok-add-2.ensures.sum)
    (sum-held c.in_ok-add-3.field-0 c.args.a.now.val_count c.args.b.now.val_count c.in_ok-add-3.ensures.within (c.requires.a ValCount) (c.requires.b ValCount) c.in_ok-add-3.ensures.sum)
    (sum-held c.in_ok-add-4.field-0 c.args.a.now.val_bytes c.args.b.now.val_bytes c.in_ok-add-4.ensures.within (c.requires.a ValBytes) (c.requires.b ValBytes) c.in_ok-add-4.ensures.sum)
    (sum-held c.in_ok-add-5.field-0 c.args.a.now.live_count c.args.b.now.live_count c.in_ok-add-5.ensures.within (c.requires.a LiveCount) (c.requires.b LiveCount) c.in_ok-add-5.ensures.sum)
    (sum-held c.in_ok-add-6.field-0 c.args.a.now.live_bytes c.args.b.now.live_bytes c.in_ok-add-6.ensures.within (c.requires.a LiveBytes) (c.requires.b LiveBytes) c.in_ok-add-6.ensures.sum)
    (sum-held c.in_ok-add-7.field-0 c.args.a.now.intent_count c.args.b.now.intent_count c.in_ok-add-7.ensures.within (c.requires.a IntentCount) (c.requires.b IntentCount) c.in_ok-add-7.ensures.sum)
    (sum-held c.in_ok-add-8.field-0 c.args.a.now.intent_bytes c.args.b.now.intent_bytes c.in_ok-add-8.ensures.within (c.requires.a IntentBytes) (c.requires.b IntentBytes) c.in_ok-add-8.ensures.sum)
    (sum-held c.in_ok-add-9.field-0 c.args.a.now.intent_age c.args.b.now.intent_age c.in_ok-add-9.ensures.within (c.requires.a IntentAge) (c.requires.b IntentAge) c.in_ok-add-9.ensures.sum)
    (sum-held c.in_ok-add-10.field-0 c.args.a.now.gc_bytes_age c.args.b.now.gc_bytes_age c.in_ok-add-10.ensures.within (c.requires.a GcBytesAge) (c.requires.b GcBytesAge) c.in_ok-add-10.ensures.sum)
    (sum-held c.in_ok-add-11.field-0 c.args.a.now.range_key_count c.args.b.now.range_key_count c.in_ok-add-11.ensures.within (c.requires.a RangeKeyCount) (c.requires.b RangeKeyCount) c.in_ok-add-11.ensures.sum)
    (sum-held c.in_ok-add-12.field-0 c.args.a.now.range_key_bytes c.args.b.now.range_key_bytes c.in_ok-add-12.ensures.within (c.requires.a RangeKeyBytes) (c.requires.b RangeKeyBytes) c.in_ok-add-12.ensures.sum)
    (sum-held c.in_ok-add-13.field-0 c.args.a.now.range_val_count c.args.b.now.range_val_count c.in_ok-add-13.ensures.within (c.requires.a RangeValCount) (c.requires.b RangeValCount) c.in_ok-add-13.ensures.sum)
    (sum-held c.in_ok-add-14.field-0 c.args.a.now.range_val_bytes c.args.b.now.range_val_bytes c.in_ok-add-14.ensures.within (c.requires.a RangeValBytes) (c.requires.b RangeValBytes) c.in_ok-add-14.ensures.sum)

pub returns-clause-within : goal.returns-clause-within
returns-clause-within c = each-field _
    (within-held c.in_ok-add.field-0 c.in_ok-add.ensures.within)
    (within-held c.in_ok-add-2.field-0 c.in_ok-add-2.ensures.within)
    (within-held c.in_ok-add-3.field-0 c.in_ok-add-3.ensures.within)
    (within-held c.in_ok-add-4.field-0 c.in_ok-add-4.ensures.within)
    (within-held c.in_ok-add-5.field-0 c.in_ok-add-5.ensures.within)
    (within-held c.in_ok-add-6.field-0 c.in_ok-add-6.ensures.within)
    (within-held c.in_ok-add-7.field-0 c.in_ok-add-7.ensures.within)
    (within-held c.in_ok-add-8.field-0 c.in_ok-add-8.ensures.within)
    (within-held c.in_ok-add-9.field-0 c.in_ok-add-9.ensures.within)
    (within-held c.in_ok-add-10.field-0 c.in_ok-add-10.ensures.within)
    (within-held c.in_ok-add-11.field-0 c.in_ok-add-11.ensures.within)
    (within-held c.in_ok-add-12.field-0 c.in_ok-add-12.ensures.within)
    (within-held c.in_ok-add-13.field-0 c.in_ok-add-13.ensures.within)
    (within-held c.in_ok-add-14.field-0 c.in_ok-add-14.ensures.within)
