use Rattle.std.proofs.Common.{arith}
use Rattle.std.proofs.lemmas.Int.{ints}
use Rattle.stat_core.proofs.FieldLaws.{each-field}
use Rattle.key_top.proofs.version.next_delta.Goals as goal

pub returns-clause-within : goal.returns-clause-within
returns-clause-within c =
    each-field _
    (record { low = omega (arith, ints); high = omega (arith, ints) })
    (record { low = omega (arith, ints); high = omega (arith, ints) })
    (record { low = omega (arith, ints); high = omega (arith, ints) })
    (record { low = omega (arith, ints); high = omega (arith, ints) })
    (record { low = omega (arith, ints, c.less.ensures.within); high = omega (arith, ints, c.less.ensures.within) })
    (record { low = omega (arith, ints, c.less-2.ensures.within); high = omega (arith, ints, c.less-2.ensures.within) })
    (record { low = omega (arith, ints); high = omega (arith, ints) })
    (record { low = omega (arith, ints); high = omega (arith, ints) })
    (record { low = omega (arith, ints); high = omega (arith, ints) })
    (record { low = omega (arith, ints, c.more.ensures.within); high = omega (arith, ints, c.more.ensures.within) })
    (record { low = omega (arith, ints); high = omega (arith, ints) })
    (record { low = omega (arith, ints); high = omega (arith, ints) })
    (record { low = omega (arith, ints); high = omega (arith, ints) })
    (record { low = omega (arith, ints); high = omega (arith, ints) })
