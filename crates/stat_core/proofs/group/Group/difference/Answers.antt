use Rattle.std.proofs.Common.{rules}
use Rattle.mvcc_key.specs.Field.{KeyCount, KeyBytes, ValCount, ValBytes, LiveCount, LiveBytes, IntentCount, IntentBytes, IntentAge, GcBytesAge, RangeKeyCount, RangeKeyBytes, RangeValCount, RangeValBytes}
use Rattle.stat_core.proofs.FieldLaws.{each-field}
use Rattle.stat_core.proofs.NumberLaws.{difference-fits, difference-held}
use Rattle.stat_core.proofs.group.Group.difference.Goals as goal

pub less-requires : goal.less-requires
less-requires c = difference-fits c.args.self.now.key_count c.args.before.now.key_count (search rules) (search rules) (c.requires KeyCount)

pub less-requires-2 : goal.less-requires-2
less-requires-2 c = difference-fits c.args.self.now.key_bytes c.args.before.now.key_bytes (search rules) (search rules) (c.requires KeyBytes)

pub less-requires-3 : goal.less-requires-3
less-requires-3 c = difference-fits c.args.self.now.val_count c.args.before.now.val_count (search rules) (search rules) (c.requires ValCount)

pub less-requires-4 : goal.less-requires-4
less-requires-4 c = difference-fits c.args.self.now.val_bytes c.args.before.now.val_bytes (search rules) (search rules) (c.requires ValBytes)

pub less-requires-5 : goal.less-requires-5
less-requires-5 c = difference-fits c.args.self.now.live_count c.args.before.now.live_count (search rules) (search rules) (c.requires LiveCount)

pub less-requires-6 : goal.less-requires-6
less-requires-6 c = difference-fits c.args.self.now.live_bytes c.args.before.now.live_bytes (search rules) (search rules) (c.requires LiveBytes)

pub less-requires-7 : goal.less-requires-7
less-requires-7 c = difference-fits c.args.self.now.intent_count c.args.before.now.intent_count (search rules) (search rules) (c.requires IntentCount)

pub less-requires-8 : goal.less-requires-8
less-requires-8 c = difference-fits c.args.self.now.intent_bytes c.args.before.now.intent_bytes (search rules) (search rules) (c.requires IntentBytes)

pub less-requires-9 : goal.less-requires-9
less-requires-9 c = difference-fits c.args.self.now.intent_age c.args.before.now.intent_age (search rules) (search rules) (c.requires IntentAge)

pub less-requires-10 : goal.less-requires-10
less-requires-10 c = difference-fits c.args.self.now.gc_bytes_age c.args.before.now.gc_bytes_age (search rules) (search rules) (c.requires GcBytesAge)

pub less-requires-11 : goal.less-requires-11
less-requires-11 c = difference-fits c.args.self.now.range_key_count c.args.before.now.range_key_count (search rules) (search rules) (c.requires RangeKeyCount)

pub less-requires-12 : goal.less-requires-12
less-requires-12 c = difference-fits c.args.self.now.range_key_bytes c.args.before.now.range_key_bytes (search rules) (search rules) (c.requires RangeKeyBytes)

pub less-requires-13 : goal.less-requires-13
less-requires-13 c = difference-fits c.args.self.now.range_val_count c.args.before.now.range_val_count (search rules) (search rules) (c.requires RangeValCount)

pub less-requires-14 : goal.less-requires-14
less-requires-14 c = difference-fits c.args.self.now.range_val_bytes c.args.before.now.range_val_bytes (search rules) (search rules) (c.requires RangeValBytes)

pub returns : goal.returns
returns c = each-field _
    (difference-held c.less.result c.args.self.now.key_count c.args.before.now.key_count (search rules) (search rules) (search rules) c.less.ensures)
    (difference-held c.less-2.result c.args.self.now.key_bytes c.args.before.now.key_bytes (search rules) (search rules) (search rules) c.less-2.ensures)
    (difference-held c.less-3.result c.args.self.now.val_count c.args.before.now.val_count (search rules) (search rules) (search rules) c.less-3.ensures)
    (difference-held c.less-4.result c.args.self.now.val_bytes c.args.before.now.val_bytes (search rules) (search rules) (search rules) c.less-4.ensures)
    (difference-held c.less-5.result c.args.self.now.live_count c.args.before.now.live_count (search rules) (search rules) (search rules) c.less-5.ensures)
    (difference-held c.less-6.result c.args.self.now.live_bytes c.args.before.now.live_bytes (search rules) (search rules) (search rules) c.less-6.ensures)
    (difference-held c.less-7.result c.args.self.now.intent_count c.args.before.now.intent_count (search rules) (search rules) (search rules) c.less-7.ensures)
    (difference-held c.less-8.result c.args.self.now.intent_bytes c.args.before.now.intent_bytes (search rules) (search rules) (search rules) c.less-8.ensures)
    (difference-held c.less-9.result c.args.self.now.intent_age c.args.before.now.intent_age (search rules) (search rules) (search rules) c.less-9.ensures)
    (difference-held c.less-10.result c.args.self.now.gc_bytes_age c.args.before.now.gc_bytes_age (search rules) (search rules) (search rules) c.less-10.ensures)
    (difference-held c.less-11.result c.args.self.now.range_key_count c.args.before.now.range_key_count (search rules) (search rules) (search rules) c.less-11.ensures)
    (difference-held c.less-12.result c.args.self.now.range_key_bytes c.args.before.now.range_key_bytes (search rules) (search rules) (search rules) c.less-12.ensures)
    (difference-held c.less-13.result c.args.self.now.range_val_count c.args.before.now.range_val_count (search rules) (search rules) (search rules) c.less-13.ensures)
    (difference-held c.less-14.result c.args.self.now.range_val_bytes c.args.before.now.range_val_bytes (search rules) (search rules) (search rules) c.less-14.ensures)
