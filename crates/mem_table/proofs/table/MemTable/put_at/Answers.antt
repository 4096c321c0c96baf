use Rattle.std.proofs.Common.{[], ◌∷◌, refl, sym, append-nil}
use Rattle.std.proofs.lemmas.Result.{on_ok_weaker}
use Rattle.mem_table.specs.views.Seen.{ops_held}
use Rattle.mem_table.specs.Table.{batch_of_one}
use Rattle.mem_table.proofs.TableLaws.{table-after, newest-after}
use Rattle.mem_table.proofs.table.MemTable.put_at.Goals as goal

pub returns-clause-ok : goal.returns-clause-ok
returns-clause-ok c =
    let op = c.args.op in
    on_ok_weaker c.put_at.result
    (λ is. table-after (batch_of_one op) (ops_held c.put_at.new.self) (op ∷ []) (ops_held c.self.inside.points) c.self.inside.ranges.items c.self.inside.ranges.items
    c.args.self.now is refl (sym (append-nil c.self.inside.ranges.items)) c.self.view_is)
    c.put_at.ensures.ok

pub returns-clause-newest : goal.returns-clause-newest
returns-clause-newest c =
    let op = c.args.op in
    on_ok_weaker c.put_at.result
    (λ is. newest-after (batch_of_one op) (ops_held c.put_at.new.self) (op ∷ []) (ops_held c.self.inside.points) c.self.inside.ranges.items c.args.self.now
    is refl c.self.view_is)
    c.put_at.ensures.ok
