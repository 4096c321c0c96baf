use Rattle.std.proofs.Common.{sym}
use Rattle.mvcc_key.specs.Encoded.{name_in}
use Rattle.merge_cursor.proofs.OrderLaws.{precedes-less, precedes-equal, precedes-greater}
use Rattle.merge_cursor.proofs.leading.comes_before.Goals as goal

pub returns-in-Less : goal.returns-in-Less
returns-in-Less c = sym (precedes-less c.args.ahead (name_in c.args.key.now) (name_in c.args.other.now) (sym c.in-Less.ensures))

pub returns-in-Equal : goal.returns-in-Equal
returns-in-Equal c = sym (precedes-equal c.args.ahead (name_in c.args.key.now) (name_in c.args.other.now) (sym c.in-Equal.ensures))

pub returns-in-Greater : goal.returns-in-Greater
returns-in-Greater c = sym (precedes-greater c.args.ahead (name_in c.args.key.now) (name_in c.args.other.now) (sym c.in-Greater.ensures))
