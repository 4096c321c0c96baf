-- A seek to the near bound begins the walk.
use Rattle.mvcc_cursor.specs.views.Seen.{seen}
use Rattle.mvcc_scan.specs.views.Walking.{bounds_of}
use Rattle.mvcc_scan.proofs.CursorLaws.{begun-back, begun-on}
use Rattle.mvcc_scan.proofs.walk.begin.Goals as goal

pub returns-then-bounds-clause-ahead : goal.returns-then-bounds-clause-ahead
returns-then-bounds-clause-ahead g c = λ formed.
    begun-back (bounds_of c.args.bounds) (seen c.args.cursor.now) (seen c.seek_key.new.self) (seen c.prev_key.new.self) formed c.if-bounds.true c.requires.end c.seek_key.ensures.key c.prev_key.ensures.key

pub returns-else-bounds-clause-ahead : goal.returns-else-bounds-clause-ahead
returns-else-bounds-clause-ahead g c = λ formed.
    begun-on (bounds_of c.args.bounds) (seen c.args.cursor.now) (seen c.seek_key-else-bounds.new.self) formed c.if-bounds.false c.requires.start c.seek_key-else-bounds.ensures.key
