use Rattle.std.proofs.Common.{filter, ◌≡◌, refl}
use Rattle.mvcc_key.specs.Canonical.{IsCanonical, is_apart}
use Rattle.mvcc_key.specs.views.Seen.{time_of}
use Rattle.range_key.specs.views.Changes.{AddsTombstone, PutsOver}
use Rattle.range_key.specs.views.Planned.{with_pieces}
use Rattle.range_key.proofs.ChangedLaws.{added-shown, IsEither, either, either-ok}
use Rattle.range_key.proofs.OperationLaws.{adds-setting}
use Rattle.range_key.specs.RangeOps.{fragments_with, setting}
use Rattle.range_key.proofs.list.FragmentList.add.Goals as goal

pub carry_out-requires-clause-canonical : goal.carry_out-requires-clause-canonical
carry_out-requires-clause-canonical c =
    (added-shown c.args.start.now c.args.end.now (time_of c.args.ts) (λ fs. with_pieces fs c.in_ok-change.change) c.as_slice.result.now c.args.self.now
    c.as_slice.ensures.value c.as_slice.ensures.canonical c.in_ok-change.ensures.adds).canonical

pub returns : goal.returns
returns c =
    let start = c.args.start.now in
    let end = c.args.end.now in
    let old = c.args.self.now in
    let new = c.carry_out.new.self in
    let made = with_pieces old c.in_ok-change.change in
    let is =
    added-shown c.args.start.now c.args.end.now (time_of c.args.ts) (λ fs. with_pieces fs c.in_ok-change.change) c.as_slice.result.now c.args.self.now
    c.as_slice.ensures.value c.as_slice.ensures.canonical c.in_ok-change.ensures.adds in
    let left : IsEither c.carry_out.result made old new = record { ok = c.carry_out.ensures.ok; err = c.carry_out.ensures.err } in
    record {
      ok = either-ok (λ fs. AddsTombstone start end (time_of c.args.ts) old fs) c.carry_out.result made old new left is.adds;
      op = either-ok (λ fs. fs ≡ fragments_with old (setting start end (time_of c.args.ts))) c.carry_out.result made old new left
          (adds-setting start end (time_of c.args.ts) old made c.as_slice.ensures.canonical is.adds);
      stacks = either-ok (λ fs. PutsOver start end (time_of c.args.ts) old fs) c.carry_out.result made old new left is.puts;
      apart = either (λ fs. filter (is_apart start end) fs ≡ filter (is_apart start end) old) c.carry_out.result made old new left is.apart refl;
      canonical = either IsCanonical c.carry_out.result made old new left is.canonical c.as_slice.ensures.canonical;
      err = c.carry_out.ensures.err;
    }
