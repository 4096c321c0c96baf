-- A flush leaves what the store holds.
use Rattle.mvcc_cursor.proofs.ManyLaws.{holds-same}
use Rattle.mvcc_cursor.proofs.many.add_part.Goals as goal

pub add_each-requires-clause-holds : goal.add_each-requires-clause-holds
add_each-requires-clause-holds c = holds-same c.args.newest c.args.store.now c.flush.new.self c.requires.holds c.flush.ensures.shown c.flush.ensures.fragments
