use Rattle.intent_meta.proofs.WholeKeyLaws.{keys_are_whole}
use Rattle.intent_meta.proofs.laws.keys_are_whole.Goals as goal

pub returns : goal.returns
returns c = keys_are_whole
