use Rattle.mem_table.specs.views.Seen.{ops_held}
use Rattle.mem_table.proofs.TableLaws.{table-after, newest-after, put_behind}
use Rattle.mem_table.proofs.table.MemTable.apply.Goals as goal
use Rattle.std.proofs.Common.{List, ◌++◌, ◌∙◌, ap₂, arith}
use Rattle.mvcc_key.specs.declared.batch.RangeOp.{RangeOp}

pub returns-clause-ok : goal.returns-clause-ok
returns-clause-ok c =
    let appended = put_behind c.append.result c.append.new.self.items c.reserve.new.self.items c.into_vec-ranges.result.items
    (c.append.ensures.succeeds (omega (arith, c.in_ok-reserve.ensures.ok, c.in_ok-reserve.ensures.len, c.len.ensures))) c.append.ensures.items in
    table-after c.args.batch (ops_held c.apply.new.self) c.into_vec.result.items (ops_held c.self.inside.points) c.append.new.self.items c.self.inside.ranges.items c.args.self.now
    c.in_ok-apply.ensures.ok c.into_vec.ensures
    (appended ∙ ap₂ (λ (xs ys : List RangeOp). xs ++ ys) c.reserve.ensures.items c.into_vec-ranges.ensures)
    c.self.view_is

pub returns-clause-newest : goal.returns-clause-newest
returns-clause-newest c =
    newest-after c.args.batch (ops_held c.apply.new.self) c.into_vec.result.items (ops_held c.self.inside.points) c.self.inside.ranges.items c.args.self.now
    c.in_ok-apply.ensures.ok c.into_vec.ensures c.self.view_is
