use Rattle.std.proofs.Common.{◌≡◌, ℕ, ℤ, pos, ◌+ℤ◌, ◌≤ℤ◌, ◌<ℤ◌, ◌<◌, List, arith, rules, sym, ap, ◌∙◌, subst, slice_index, slice_index_or, FitsSigned, length, length-set, to_z, of_z}
use Rattle.std.specs.Int.{w128}
use Rattle.std.proofs.lemmas.Int.{ints, to_z-of_z}
use Rattle.stat_core.specs.views.Counters.{IsWithin, moved_by}
use Rattle.stat_core.specs.views.Seen.{field_of}
use Rattle.stat_core.specs.declared.counters.Sign.{Sign}
use Rattle.stat_core.proofs.CounterLaws.{at-place, changed_at, changed_at-no_debt, first-above, all-counted, place-more, low-more}
use Rattle.stat_core.proofs.counters.changed.Goals as goal

-- the number that the code forms at a place is that of the definition
here : (counts : List ℕ) (gained numbers : List ℤ) (sign : Sign) (i : ℕ) (base : ℤ) → IsWithin 102 base
    → IsWithin 101 (slice_index_or gained i (pos 0)) → FitsSigned w128 (slice_index_or numbers i (pos 0))
    → base ≡ pos (slice_index counts i) +ℤ to_z w128 (of_z w128 (slice_index_or gained i (pos 0)))
    → moved_by sign (to_z w128 (of_z w128 base)) (to_z w128 (of_z w128 (slice_index_or numbers i (pos 0)))) ≡ changed_at counts gained numbers sign i
here counts gained numbers sign i base b g n is =
    let more : to_z w128 (of_z w128 (slice_index_or gained i (pos 0))) ≡ slice_index_or gained i (pos 0) = omega (arith, ints, g.low, g.high) in
    let held : to_z w128 (of_z w128 base) ≡ base = omega (arith, ints, b.low, b.high) in
    let sum : to_z w128 (of_z w128 base) ≡ pos (slice_index counts i) +ℤ slice_index_or gained i (pos 0) =
    held ∙ is ∙ ap (λ z. pos (slice_index counts i) +ℤ z) more in
    let number : to_z w128 (of_z w128 (slice_index_or numbers i (pos 0))) ≡ slice_index_or numbers i (pos 0) = to_z-of_z w128 (slice_index_or numbers i (pos 0)) n in
    λ j. moved_by sign (sum j) (number j)

pub sum_of-base-requires : goal.sum_of-base-requires
sum_of-base-requires c =
    let g : IsWithin 101 (slice_index_or c.args.gained.now c.loop-place.place (pos 0)) =
    at-place (IsWithin 101) c.args.gained.now c.loop-place.place c.loop-place-test.true c.requires.gained in
    record { low = omega (arith, ints, g.low, g.high); high = omega (arith, ints, g.low, g.high) }

pub moved-requires-clause-no_debt : goal.moved-requires-clause-no_debt
moved-requires-clause-no_debt c =
    let g : IsWithin 101 (slice_index_or c.args.gained.now c.loop-place.place (pos 0)) =
    at-place (IsWithin 101) c.args.gained.now c.loop-place.place c.loop-place-test.true c.requires.gained in
    subst (λ z. pos 0 ≤ℤ z)
    (sym (here c.args.counts.now c.args.gained.now c.args.numbers.now c.args.sign c.loop-place.place c.sum_of-base.result c.sum_of-base.ensures.within g (search rules) c.sum_of-base.ensures.value))
    (changed_at-no_debt c.args.counts.now c.args.gained.now c.args.numbers.now c.args.sign c.loop-place.place c.loop-place-test.true c.requires.no_debt)

pub returns-in-None : goal.returns-in-None
returns-in-None c =
    let g : IsWithin 101 (slice_index_or c.args.gained.now c.loop-place.place (pos 0)) =
    at-place (IsWithin 101) c.args.gained.now c.loop-place.place c.loop-place-test.true c.requires.gained in
    first-above c.args.bound c.args.counts.now c.args.gained.now c.args.numbers.now c.args.sign c.loop-place.next c.loop-place.place (field_of c.at.result) c.at.ensures
    (subst (λ z. pos c.args.bound <ℤ z)
    (here c.args.counts.now c.args.gained.now c.args.numbers.now c.args.sign c.loop-place.place c.sum_of-base.result c.sum_of-base.ensures.within g (search rules) c.sum_of-base.ensures.value)
    c.in-None.ensures)
    c.loop-place.invariant.same c.loop-place.invariant.low

pub loop-place-preserved : goal.loop-place-preserved
loop-place-preserved c =
    let g : IsWithin 101 (slice_index_or c.args.gained.now c.loop-place.place (pos 0)) =
    at-place (IsWithin 101) c.args.gained.now c.loop-place.place c.loop-place-test.true c.requires.gained in
    let within : c.loop-place.place < length c.loop-place.next = omega (arith, c.loop-place.invariant.long) in
    let is = here c.args.counts.now c.args.gained.now c.args.numbers.now c.args.sign c.loop-place.place c.sum_of-base.result c.sum_of-base.ensures.within g (search rules) c.sum_of-base.ensures.value in
    record {
      long = length-set c.loop-place.next _ _ ∙ c.loop-place.invariant.long;
      same = place-more c.loop-place.next (changed_at c.args.counts.now c.args.gained.now c.args.numbers.now c.args.sign) c.loop-place.place c.in-Some.count within
          (c.in-Some.ensures.0 ∙ is) c.loop-place.invariant.same;
      low = low-more c.loop-place.next c.loop-place.place c.in-Some.count c.args.bound within c.in-Some.ensures.1 c.loop-place.invariant.low;
    }

pub returns : goal.returns
returns c =
    all-counted c.args.bound c.args.counts.now c.args.gained.now c.args.numbers.now c.args.sign c.loop-place.next c.loop-place.place c.loop-place.invariant.long (omega arith)
    c.loop-place.invariant.same c.loop-place.invariant.low
