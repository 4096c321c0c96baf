use Rattle.std.proofs.Common.{◌≡◌, ℕ, ◌+◌, ◌-◌, ◌/◌, ◌≤◌, cond, length, get_or, refl, sym, ap, subst, ◌∙◌, arith}
use Rattle.mvcc_key.specs.Encoded.{name_in}
use Rattle.mvcc_key.specs.views.Looks.{bits}
use Rattle.mvcc_key.specs.Points.{is_below_name}
use Rattle.mvcc_key.proofs.LookLaws.{bits-half}
use Rattle.mvcc_key.proofs.PointLaws.{IsNarrowed, IsNarrowed-first, count_below-narrowed}
use Rattle.mem_table.specs.views.Entries.{entry_at, numbered}
use Rattle.mem_table.proofs.NumberedLaws.{length-abbreviated_keys, length-numbered}
use Rattle.mem_table.proofs.SearchLaws.{abbreviated_keys-rise, narrowed-halved, narrowed-look}
use Rattle.mem_table.proofs.search.count_below_name.Goals as goal

pub halve-low-requires-clause-rising : goal.halve-low-requires-clause-rising
halve-low-requires-clause-rising g c =
    abbreviated_keys-rise (g.E.Entries.points c.args.entries.now) c.args.abbreviated_keys.now (g.N.Numbers.list c.args.numbers.now) (g.met.E.Entries.bytes c.args.entries.now) c.requires.index

pub halve-next-requires-clause-rising : goal.halve-next-requires-clause-rising
halve-next-requires-clause-rising g c =
    abbreviated_keys-rise (g.E.Entries.points c.args.entries.now) c.args.abbreviated_keys.now (g.N.Numbers.list c.args.numbers.now) (g.met.E.Entries.bytes c.args.entries.now) c.requires.index

pub loop-left-init : goal.loop-left-init
loop-left-init g c =
    let points = g.E.Entries.points c.args.entries.now in
    let abbreviated_keys = c.args.abbreviated_keys.now in
    let numbers = g.N.Numbers.list c.args.numbers.now in
    let name = name_in c.args.sought.now in
    let count : length abbreviated_keys ≡ length (numbered points numbers) = length-abbreviated_keys points abbreviated_keys numbers c.requires.index ∙ sym (length-numbered points numbers) in
    let all : length abbreviated_keys ≡ 0 + length abbreviated_keys = omega arith in
    let first : IsNarrowed name (numbered points numbers) 0 (0 + length abbreviated_keys) =
    subst (λ (n : ℕ). IsNarrowed name (numbered points numbers) 0 n) all (IsNarrowed-first name (numbered points numbers) (length abbreviated_keys) count) in
    let upto = c.halve-low.ensures.halved.upto in
    record {
      narrowed = narrowed-halved name points abbreviated_keys numbers c.args.abbreviated 0 (length abbreviated_keys) c.halve-low.result.0 c.halve-low.result.1 (g.met.E.Entries.bytes c.args.entries.now)
          c.requires.index c.requires.abbreviated first c.halve-low.ensures.halved;
      within = omega arith;
      bound = c.halve-low.ensures.bound;
      later = c.halve-low.ensures.later;
      some = c.halve-low.ensures.some;
    }

pub loop-left-preserved : goal.loop-left-preserved
loop-left-preserved g c =
    let points = g.E.Entries.points c.args.entries.now in
    let abbreviated_keys = c.args.abbreviated_keys.now in
    let numbers = g.N.Numbers.list c.args.numbers.now in
    let name = name_in c.args.sought.now in
    let low = c.loop-left.low in
    let left = c.loop-left.left in
    let half = left - left / 2 in
    let more = c.half_if_below_name-low.result in
    let test = c.loop-left-test.true in
    let answer : more ≡ cond (is_below_name name (entry_at points (get_or numbers (low + half - 1) 0))) half 0 =
    c.half_if_below_name-low.ensures.answer ∙ ap (λ (n : ℕ). cond (is_below_name name (entry_at points n)) half 0) c.at-number.ensures in
    let looked = narrowed-look name points numbers low left half more c.requires.index.rising c.loop-left.invariant.narrowed (omega arith) refl answer in
    let fewer : bits (left - half) + 1 ≤ bits left = bits-half left (left - half) (omega arith) (omega arith) in
    let next = c.halve-next.ensures in
    let upto = next.halved.upto in
    let done = looked.within in
    let count : length abbreviated_keys ≡ length (numbered points numbers) = length-abbreviated_keys points abbreviated_keys numbers c.requires.index ∙ sym (length-numbered points numbers) in
    record {
      narrowed = narrowed-halved name points abbreviated_keys numbers c.args.abbreviated (low + more) (left - half) c.halve-next.result.0 c.halve-next.result.1 (g.met.E.Entries.bytes c.args.entries.now)
          c.requires.index c.requires.abbreviated looked next.halved;
      within = omega arith;
      bound = (let b = next.bound in omega arith);
      later = (let l = next.later in omega arith);
      some = λ less. (let l = next.later in omega arith);
    }

pub returns-clause-count : goal.returns-clause-count
returns-clause-count g c =
    let done = c.loop-left-test.false in
    sym (count_below-narrowed (name_in c.args.sought.now) (numbered (g.E.Entries.points c.args.entries.now) (g.N.Numbers.list c.args.numbers.now)) c.loop-left.low (c.loop-left.low + c.loop-left.left)
    c.loop-left.invariant.narrowed (omega arith))
