use Rattle.mvcc_key.specs.views.Seen.{time_of}
use Rattle.range_key.proofs.OperationLaws.{without-removing}
use Rattle.range_key.proofs.list.FragmentList.remove_at.Goals as goal

pub returns-clause-op : goal.returns-clause-op
returns-clause-op c = rw (← without-removing c.args.start.now c.args.end.now (time_of c.args.ts) c.args.self.now) c.take_out.ensures.shows
