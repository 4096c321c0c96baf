use Rattle.std.proofs.Common.{filter, ◌≡◌, refl}
use Rattle.mvcc_key.specs.Canonical.{IsCanonical, is_apart}
use Rattle.range_key.specs.views.Changes.{TakesOut, TakesFrom, without_times}
use Rattle.range_key.specs.views.Planned.{with_pieces}
use Rattle.range_key.specs.views.Taken.{is_taken}
use Rattle.range_key.proofs.ChangedLaws.{taken-shown, IsEither, either, either-ok}
use Rattle.range_key.proofs.OperationLaws.{takes-without}
use Rattle.range_key.proofs.list.FragmentList.take_out.Goals as goal

pub carry_out-requires-clause-canonical : goal.carry_out-requires-clause-canonical
carry_out-requires-clause-canonical c =
    (taken-shown c.args.start.now c.args.end.now (is_taken c.args.taken) (λ fs. with_pieces fs c.in_ok-change.change) c.as_slice.result.now c.args.self.now c.requires
    c.as_slice.ensures.value c.as_slice.ensures.canonical c.in_ok-change.ensures.takes).canonical

pub returns : goal.returns
returns c =
    let start = c.args.start.now in
    let end = c.args.end.now in
    let old = c.args.self.now in
    let new = c.carry_out.new.self in
    let made = with_pieces old c.in_ok-change.change in
    let is =
    taken-shown c.args.start.now c.args.end.now (is_taken c.args.taken) (λ fs. with_pieces fs c.in_ok-change.change) c.as_slice.result.now c.args.self.now c.requires
    c.as_slice.ensures.value c.as_slice.ensures.canonical c.in_ok-change.ensures.takes in
    let left : IsEither c.carry_out.result made old new = record { ok = c.carry_out.ensures.ok; err = c.carry_out.ensures.err } in
    record {
      ok = either-ok (λ fs. TakesOut start end (is_taken c.args.taken) old fs) c.carry_out.result made old new left is.takes;
      shows = either-ok (λ fs. fs ≡ without_times start end (is_taken c.args.taken) old) c.carry_out.result made old new left
          (takes-without start end (is_taken c.args.taken) old made c.as_slice.ensures.canonical is.takes);
      stacks = either-ok (λ fs. TakesFrom start end (is_taken c.args.taken) old fs) c.carry_out.result made old new left is.leaves;
      apart = either (λ fs. filter (is_apart start end) fs ≡ filter (is_apart start end) old) c.carry_out.result made old new left is.apart refl;
      canonical = either IsCanonical c.carry_out.result made old new left is.canonical c.as_slice.ensures.canonical;
      err = c.carry_out.ensures.err;
    }
