use Rattle.std.proofs.Common.{◌≡◌, ℕ, List, take, ap, sym, ◌∙◌, subst, arith}
use Rattle.std.specs.Prelude.{IsSome, IsTrue, ◌↔◌, IfSome}
use Rattle.std.specs.Int.{w32, w64, from_be_bytes}
use Rattle.mvcc_key.specs.Order.{Timestamp, is_in_range}
use Rattle.mvcc_key.specs.views.Seen.{time_of}
use Rattle.intent_meta.specs.RecordTime.{time_at}
use Rattle.intent_meta.proofs.RecordTimeLaws.{made-time, time_in-long, time_in-record}
use Rattle.intent_meta.proofs.time.record_time.Goals as goal

pub returns-then-bytes-lt-DELETED-clause-record : goal.returns-then-bytes-lt-DELETED-clause-record
returns-then-bytes-lt-DELETED-clause-record c = λ r read. time_in-record c.args.bytes.now r (λ i. (c.type_inv.bytes i).fits) read

pub returns-clause-record : goal.returns-clause-record
returns-clause-record c = λ r read. time_in-record c.args.bytes.now r (λ i. (c.type_inv.bytes i).fits) read

pub returns-clause-time : goal.returns-clause-time
returns-clause-time c =
    let bytes = c.args.bytes.now in
    let made : Timestamp = record { wall = c.read_u64-wall.result; logical = c.read_u32-logical.result } in
    let wall : c.read_u64-wall.result ≡ (time_at bytes).wall = c.read_u64-wall.ensures ∙ ap (λ (x : List ℕ). from_be_bytes w64 (take 8 x)) c.split_at.ensures.back in
    let logical : c.read_u32-logical.result ≡ (time_at bytes).logical = c.read_u32-logical.ensures ∙ ap (λ (x : List ℕ). from_be_bytes w32 (take 4 x)) c.split_at-2.ensures.back in
    let is : made ≡ time_at bytes = λ i. record { wall = wall i; logical = logical i } in
    made-time c.new.result (time_at bytes)
    (subst (λ (t : Timestamp). IsSome c.new.result ↔ IsTrue (is_in_range t)) is c.new.ensures.some)
    (subst (λ (t : Timestamp). IfSome c.new.result (λ d. time_of d ≡ t)) is c.new.ensures.parts)
    ∙ sym (time_in-long bytes (omega arith))
