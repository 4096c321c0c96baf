-- What was read is what the source gave.
use Rattle.std.proofs.Common.{refl, ◌≡◌, ◌∙◌, ap, length, take, arith}
use Rattle.std.proofs.lemmas.List.{take_at}
use Rattle.script_run.specs.Promise.{read_size}
use Rattle.script_text.proofs.TextLaws.{on_err}
use Rattle.script_run.proofs.ReadLaws.{nothing_given, read_failed, read_ended, read_more, length_more, read_lost}
use Rattle.script_run.proofs.script.read_script.Goals as goal

pub loop-source-init : goal.loop-source-init
loop-source-init g c = record {
  consumed = nothing_given _ _ c.new-script.ensures.items;
  within = rw c.new-script.ensures.items (omega arith);
  room = c.in_ok-buffer.ensures;
  sure = refl;
  later = omega arith;
}

pub returns-in-Err-clause-err : goal.returns-in-Err-clause-err
returns-in-Err-clause-err g c =
    let i = c.loop-source.invariant in
    read_failed _ _ _ c.loop-source.script.items i.consumed i.within c.in-Err.ensures.bytes

pub returns-then-count-eq0-clause-sure : goal.returns-then-count-eq0-clause-sure
returns-then-count-eq0-clause-sure g c = c.in-Ok.ensures.cause.sure ∙ c.loop-source.invariant.sure

pub returns-then-count-eq0-clause-ok : goal.returns-then-count-eq0-clause-ok
returns-then-count-eq0-clause-ok g c =
    let i = c.loop-source.invariant in
    let r = c.in-Ok.ensures in
    read_ended _ _ _ c.loop-source.script.items c.read.new.into c.in-Ok.count i.consumed i.within c.if-count-eq0.true r.bytes.0 (r.bytes.1 c.if-count-eq0.true (omega (arith, c.read.auto.into, c.deref_mut.ensures.len, i.room)))

pub loop-source-preserved : goal.loop-source-preserved
loop-source-preserved g c =
    let i = c.loop-source.invariant in
    let r = c.in-Ok.ensures in
    let filled : length c.read.new.into ≡ c.loop-source.buffer.len = omega (arith, c.read.auto.into, c.deref_mut.ensures.len) in
    let written = take_at c.read.new.into _ c.loop-source.buffer.len filled in
    let piece = c.split_at.ensures.front ∙ ap (take c.in-Ok.count) (c.as_slice.ensures.value ∙ written) in
    let room : length c.read.new.into ≡ read_size = omega (arith, c.read.auto.into, c.deref_mut.ensures.len, i.room) in record {
      consumed = read_more _ _ _ c.loop-source.script.items _ c.read.new.into c.split_at.result.0.now c.in-Ok.count i.consumed r.bytes.0 piece c.in_ok-extend_from_slice.ensures.items;
      within = length_more c.loop-source.script.items _ c.read.new.into c.split_at.result.0.now c.in-Ok.count (omega arith) r.bound.0 room piece c.in_ok-extend_from_slice.ensures.items;
      room = i.room;
      sure = r.cause.sure ∙ i.sure;
      later = omega (arith, i.later, r.cause.later);
    }

pub returns-in_err-extend_from_slice-clause-err : goal.returns-in_err-extend_from_slice-clause-err
returns-in_err-extend_from_slice-clause-err g c =
    let i = c.loop-source.invariant in
    let r = c.in-Ok.ensures in
    on_err c.from_residual-in_err-extend_from_slice.result
    (read_lost _ _ _ c.loop-source.script.items c.read.new.into c.in-Ok.count i.consumed r.bytes.0 (omega arith) r.bound.0 (omega (arith, c.read.auto.into, c.deref_mut.ensures.len, i.room)))

pub returns-clause-ok : goal.returns-clause-ok
returns-clause-ok g c =
    let i = c.loop-source.invariant in
    record { consumed = i.consumed; ended = λ low. absurd (omega (arith, low)); within = i.within }
