use Rattle.std.proofs.Common.{◌∙◌, sym, ap, subst, map, ◌++◌}
use Rattle.std.specs.List.{insert}
use Rattle.std.specs.List.Sorted.{IsStrictlySortedBy}
use Rattle.mvcc_key.specs.Lists.{put_in_order}
use Rattle.mvcc_key.specs.Order.{newer_first}
use Rattle.mvcc_key.specs.views.Seen.{time_of}
use Rattle.mvcc_key.proofs.OrderLaws.{newer_first-total}
use Rattle.mvcc_key.proofs.SortedLaws.{put_in_order-sorted}
use Rattle.range_key.proofs.TimesLaws.{put-found, put-insert, answers-rise}
use Rattle.range_key.proofs.stack.Stack.with.Goals as goal
use Rattle.range_key.proofs.stack.Stack.with.Goals.{in-Err+in_ok-insert, in_default}

pub returns : goal.returns
returns c =
    let times = c.as_slice-times.result.now in
    let sorted : IsStrictlySortedBy newer_first (map time_of times) = subst (λ us. IsStrictlySortedBy newer_first (map time_of us)) (sym c.as_slice-times.ensures) c.self.invariant in
    let copied = c.in_ok-extend_from_slice.ensures.ok ∙ ap (λ us. us ++ times) c.in_ok-held.ensures.items in
    let seen = ap (λ us. put_in_order newer_first (time_of c.args.ts) (map time_of us)) c.as_slice-times.ensures ∙ ap (put_in_order newer_first (time_of c.args.ts)) c.self.view_is in
    elim c.match-position_of.branch [
      | in-Err+in_ok-insert w ↦
          (let parted = w.in-Err.ensures.place (answers-rise time_of c.args.ts times sorted) in
          ap (λ v. map time_of v.items) w.held-is
          ∙ ap (map time_of) w.in_ok-insert.ensures.ok
          ∙ ap (λ us. map time_of (insert us w.in-Err.place c.args.ts)) copied
          ∙ sym (put-insert time_of c.args.ts times w.in-Err.place w.in-Err.ensures.bound parted.0 parted.1)
          ∙ seen)
      | in_default w ↦
          (ap (λ v. map time_of v.items) w.held-is
          ∙ ap (map time_of) copied
          ∙ sym (put-found time_of c.args.ts times w.in_default.field-0 w.in_default.ensures.bound w.in_default.ensures.place sorted)
          ∙ seen)
    ]

pub invariant_of-result : goal.invariant_of-result
invariant_of-result c =
    subst (IsStrictlySortedBy newer_first) (sym (returns c))
    (put_in_order-sorted newer_first-total (time_of c.args.ts) c.args.self.now (subst (IsStrictlySortedBy newer_first) c.self.view_is c.self.invariant))
