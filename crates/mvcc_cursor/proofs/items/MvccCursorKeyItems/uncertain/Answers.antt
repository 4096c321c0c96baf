-- The newest uncertain item.
use Rattle.std.specs.Option.{option_map}
use Rattle.std.specs.Prelude.{map}
use Rattle.mvcc_key.specs.views.Seen.{time_of}
use Rattle.intent_meta.specs.views.Lent.{seen_times}
use Rattle.mvcc_cursor.specs.views.Seen.{seen}
use Rattle.mvcc_cursor.proofs.UncertainLaws.{uncertain-joined}
use Rattle.mvcc_cursor.proofs.items.MvccCursorKeyItems.uncertain.Goals as goal

pub returns-clause-value : goal.returns-clause-value
returns-clause-value g c =
    (let version = c.uncertain_version-version in
    let tombstone = c.uncertain_time-tombstone in
    uncertain-joined (time_of c.args.above) (time_of c.args.limit) (time_of c.args.local_limit) c.args.self.now (seen version.new.self) version.ensures.anew
    (option_map seen_times version.result) (option_map seen_times tombstone.result) (option_map seen_times c.newer_of.result) (map time_of c.stack_here.result.now)
    version.ensures.value c.stack_here.ensures.value tombstone.ensures c.newer_of.ensures)
