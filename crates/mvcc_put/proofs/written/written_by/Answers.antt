-- The points of a write tell what it puts.
use Rattle.mvcc_put.proofs.WrittenLaws.{version-written, intent-written}
use Rattle.stat_core.specs.views.Seen.{version_shape_of}
use Rattle.mvcc_put.proofs.written.written_by.Goals as goal

pub returns-in-len1 : goal.returns-in-len1
returns-in-len1 c =
    version-written c.args.points.now c.version-item.result (version_shape_of c.shape_of_op.result) c.in-len1.len_at_least c.in-len1.len_below c.version-item.is c.shape_of_op.ensures

pub returns-in-len2-up : goal.returns-in-len2-up
returns-in-len2-up c =
    intent-written c.args.points.now c.record-item.result c.provisional-item.result c.value_len.result (version_shape_of c.shape_of_op-in-len2-up.result)
    c.in-len2-up.len_at_least c.record-item.is c.provisional-item.is c.value_len.ensures c.shape_of_op-in-len2-up.ensures
