-- The store of many versions is well formed.
use Rattle.std.proofs.Common.{◌<◌, ◌^◌, arith}
use Rattle.mvcc_cursor.proofs.ManyLaws.{many-well_formed}
use Rattle.mvcc_cursor.proofs.many.many.Goals as goal

pub returns : goal.returns
returns c = let below : 10000 < 2 ^ 63 = omega arith in many-well_formed 10000 c.add_part-3.new.store below c.in_ok-add_part-3.ensures
