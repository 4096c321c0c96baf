use Rattle.std.proofs.Common.{arith, pos, ◌≤ℤ◌, to_z, of_z}
use Rattle.std.specs.Int.{w128}
use Rattle.std.proofs.lemmas.Int.{ints}
use Rattle.stat_core.proofs.FieldLaws.{each-field}
use Rattle.stat_core.proofs.tests.between.Goals as goal

pub returns-clause-up : goal.returns-clause-up
returns-clause-up c = λ h.
    let held : pos 0 ≤ℤ to_z w128 (of_z w128 c.args.number) = omega (arith, ints, h) in
    each-field _
    (omega (arith, ints, c.number_at.ensures.up held))
    (omega (arith, ints, c.number_at-2.ensures.up held))
    (omega (arith, ints, c.number_at-3.ensures.up held))
    (omega (arith, ints, c.number_at-4.ensures.up held))
    (omega (arith, ints, c.number_at-5.ensures.up held))
    (omega (arith, ints, c.number_at-6.ensures.up held))
    (omega (arith, ints, c.number_at-7.ensures.up held))
    (omega (arith, ints, c.number_at-8.ensures.up held))
    (omega (arith, ints, c.number_at-9.ensures.up held))
    (omega (arith, ints, c.number_at-10.ensures.up held))
    (omega (arith, ints, c.number_at-11.ensures.up held))
    (omega (arith, ints, c.number_at-12.ensures.up held))
    (omega (arith, ints, c.number_at-13.ensures.up held))
    (omega (arith, ints, c.number_at-14.ensures.up held))

pub returns-clause-down : goal.returns-clause-down
returns-clause-down c = λ h.
    let held : to_z w128 (of_z w128 c.args.number) ≤ℤ pos 0 = omega (arith, ints, h) in
    each-field _
    (omega (arith, ints, c.number_at.ensures.down held))
    (omega (arith, ints, c.number_at-2.ensures.down held))
    (omega (arith, ints, c.number_at-3.ensures.down held))
    (omega (arith, ints, c.number_at-4.ensures.down held))
    (omega (arith, ints, c.number_at-5.ensures.down held))
    (omega (arith, ints, c.number_at-6.ensures.down held))
    (omega (arith, ints, c.number_at-7.ensures.down held))
    (omega (arith, ints, c.number_at-8.ensures.down held))
    (omega (arith, ints, c.number_at-9.ensures.down held))
    (omega (arith, ints, c.number_at-10.ensures.down held))
    (omega (arith, ints, c.number_at-11.ensures.down held))
    (omega (arith, ints, c.number_at-12.ensures.down held))
    (omega (arith, ints, c.number_at-13.ensures.down held))
    (omega (arith, ints, c.number_at-14.ensures.down held))
