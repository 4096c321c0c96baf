use Rattle.std.proofs.Common.{◌∙◌, sym, arith}
use Rattle.std.proofs.lemmas.List.Filters.{FiltersInPlace-more_swap, FiltersInPlace-more_no}
use Rattle.mvcc_key.specs.Batches.{IsStorable}
use Rattle.lsm_store.proofs.FilterLaws.{rest-at}
use Rattle.lsm_store.proofs.changing.retain_changes.Goals as goal
use Rattle.lsm_store.proofs.changing.retain_changes.Goals.{then-changes, else-changes}

pub changes-requires : goal.changes-requires
changes-requires c =
    let at = c.loop-i.invariant in
    (rest-at IsStorable c.args.ops.now.items c.loop-i.ops.items c.loop-i.i c.index.result.now c.requires at.rest at.long (omega arith) c.index.ensures).name

pub loop-i-preserved : goal.loop-i-preserved
loop-i-preserved c =
    elim c.if-changes.branch [
      | then-changes w ↦ rw (w.ops-is, w.kept-is) (FiltersInPlace-more_swap c.loop-i.invariant (omega arith) (sym c.changes.ensures ∙ w.if-changes.true) c.index.ensures w.swap.ensures.by_index)
      | else-changes w ↦ rw (w.ops-is, w.kept-is) (FiltersInPlace-more_no c.loop-i.invariant (omega arith) (sym c.changes.ensures ∙ w.if-changes.false) c.index.ensures)
    ]
