use Rattle.std.proofs.Common.{sym, subst, ◌∙◌}
use Rattle.mvcc_key.specs.Encoded.{IsBytes}
use Rattle.intent_meta.specs.views.Listed.{are_intent}
use Rattle.intent_meta.proofs.ListedLaws.{listed_intent}
use Rattle.intent_meta.proofs.listed.ListedIntent.read.Goals as goal

pub invariant_of-result : goal.invariant_of-result
invariant_of-result c =
    listed_intent c.args.head c.args.value
    (subst IsBytes c.as_slice.ensures c.are_intent.ensures.head_bytes) (subst IsBytes c.as_slice-2.ensures c.are_intent.ensures.value_bytes)
    (sym (c.are_intent.ensures.value ∙ (λ i. are_intent (c.as_slice.ensures i) (c.as_slice-2.ensures i))) ∙ c.if-are_intent.true)
