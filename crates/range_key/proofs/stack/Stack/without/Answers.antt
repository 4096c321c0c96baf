use Rattle.std.proofs.Common.{◌∙◌, sym, ap, subst, map, not, filter}
use Rattle.std.specs.List.Sorted.{IsStrictlySortedBy}
use Rattle.std.proofs.lemmas.List.{take_all}
use Rattle.std.proofs.lemmas.List.Kept.{IsStrictlySortedBy-filter}
use Rattle.mvcc_key.specs.Order.{newer_first}
use Rattle.mvcc_key.specs.views.Seen.{time_of}
use Rattle.range_key.specs.views.Taken.{is_taken}
use Rattle.range_key.proofs.stack.Stack.without.Goals as goal

pub invariant_of-result : goal.invariant_of-result
invariant_of-result c =
    let stays = λ (ts : Rattle.std.proofs.Common.List Rattle.mvcc_key.specs.Order.Timestamp). filter (λ t. not (is_taken c.args.taken t)) ts in
    let all = take_all c.loop-time.time-index c.as_slice-time-items.result.now c.loop-time-test.false ∙ c.as_slice-time-items.ensures in
    subst (IsStrictlySortedBy newer_first) (sym (c.loop-time.invariant ∙ ap (λ us. stays (map time_of us)) all))
    (IsStrictlySortedBy-filter newer_first (λ t. not (is_taken c.args.taken t)) (map time_of c.self.inside.held.items) c.self.invariant)
