-- The laws of tops.
use Rattle.key_top.proofs.TopLaws.{top-short, front-change}
use Rattle.key_top.proofs.laws.laws_of_tops.Goals as goal

pub returns : goal.returns
returns c = record { short = top-short; change = front-change }
