use Rattle.intent_meta.proofs.listed_items.intent_is_whole.Goals as goal

pub returns-in-Some : goal.returns-in-Some
returns-in-Some c = λ key. rw c.in-Some.is (c.is_whole.ensures key)
