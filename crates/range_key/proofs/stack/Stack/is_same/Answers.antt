use Rattle.std.proofs.Common.{sym, ◌∙◌, ap₂}
use Rattle.std.specs.Cmp.Derive.Mapped.{pointwise-map}
use Rattle.mvcc_key.specs.Order.{is_same_time}
use Rattle.mvcc_key.specs.views.Seen.{time_of}
use Rattle.mvcc_key.specs.Fragments.{is_same_stack}
use Rattle.range_key.proofs.stack.Stack.is_same.Goals as goal

pub returns : goal.returns
returns c =
    c.eq.ensures
    ∙ sym (pointwise-map time_of is_same_time c.times.result.now c.times-2.result.now)
    ∙ ap₂ is_same_stack c.times.ensures.value c.times-2.ensures.value
