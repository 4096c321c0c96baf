use Rattle.std.proofs.Common.{subst}
use Rattle.intent_meta.specs.views.WholeKeys.{IsWholeIntent}
use Rattle.intent_meta.specs.views.Listed.{intent_at}
use Rattle.intent_meta.proofs.listed.ListedIntent.is_whole.Goals as goal

pub returns : goal.returns
returns c = λ key. subst (λ i. IsWholeIntent key (intent_at key i)) c.self.view_is (c.self.invariant.whole key)
