-- A key that is short enough is left whole.
use Rattle.std.proofs.Common.{sym, arith}
use Rattle.std.proofs.lemmas.List.{take_all}
use Rattle.mvcc_cursor.proofs.bytes.cut_key.Goals as goal

pub returns-then-key-le-MAX_BOUND_LEN-clause-value : goal.returns-then-key-le-MAX_BOUND_LEN-clause-value
returns-then-key-le-MAX_BOUND_LEN-clause-value c = sym (take_all 4097 c.args.key.now (omega arith))
