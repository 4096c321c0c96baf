use Rattle.read_rule.proofs.ReadAlikeLaws.{alike_read_alike}
use Rattle.read_rule.proofs.laws.alike_read_alike.Goals as goal

pub returns : goal.returns
returns c = alike_read_alike
