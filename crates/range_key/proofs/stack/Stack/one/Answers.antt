use Rattle.std.proofs.Common.{◌∙◌, sym, ap, subst, map, ◌++◌, ◌∷◌, []}
use Rattle.std.specs.List.Sorted.{IsStrictlySortedBy}
use Rattle.mvcc_key.specs.Order.{newer_first}
use Rattle.mvcc_key.specs.views.Seen.{time_of}
use Rattle.range_key.proofs.TimesLaws.{one-sorted}
use Rattle.range_key.proofs.stack.Stack.one.Goals as goal

pub invariant_of-result : goal.invariant_of-result
invariant_of-result c =
    let items = c.push_reserved.ensures.items ∙ ap (λ us. us ++ c.args.ts ∷ []) c.new-held.ensures.items in
    subst (IsStrictlySortedBy newer_first) (sym (ap (map time_of) items)) (one-sorted (time_of c.args.ts))
