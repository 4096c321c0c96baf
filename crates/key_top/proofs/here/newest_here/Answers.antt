-- The newest committed version is the first of the key's.
use Rattle.mvcc_key.specs.views.Seen.{time_of}
use Rattle.intent_meta.specs.views.Lent.{seen_item}
use Rattle.stat_core.specs.views.Seen.{version_shape_of}
use Rattle.mvcc_cursor.specs.Standing.{committed}
use Rattle.mvcc_cursor.specs.WellFormed.{history_in}
use Rattle.mvcc_cursor.specs.views.Seen.{seen}
use Rattle.key_top.proofs.HereLaws.{committed-in_range, some-shape, none-shape}
use Rattle.key_top.proofs.here.newest_here.Goals as goal

pub returns-in-Some-clause-newest : goal.returns-in-Some-clause-newest
returns-in-Some-clause-newest g c =
    let s = seen c.args.cursor.now in
    some-shape (time_of c.last_time.result) c.last_time.ensures (committed s) (committed-in_range (history_in s.store) s.at c.requires)
    (seen_item c.in-Some.version) (version_shape_of c.shape_of_item.result) c.in-Some.ensures.version c.shape_of_item.ensures

pub returns-in-None-clause-newest : goal.returns-in-None-clause-newest
returns-in-None-clause-newest g c =
    let s = seen c.args.cursor.now in
    none-shape (time_of c.last_time.result) c.last_time.ensures (committed s) (committed-in_range (history_in s.store) s.at c.requires) c.in-None.ensures.version
