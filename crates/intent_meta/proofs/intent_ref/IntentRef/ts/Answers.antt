use Rattle.std.proofs.Common.{◌≡◌, Option, Some, None, ap, ◌∙◌, sym}
use Rattle.std.specs.Prelude.{IsSome}
use Rattle.std.specs.Option.{option_map}
use Rattle.mvcc_key.specs.Order.{Timestamp}
use Rattle.mvcc_key.specs.views.Seen.{time_of}
use Rattle.mvcc_key.specs.declared.timestamp.Timestamp.{Timestamp as Declared}
use Rattle.intent_meta.specs.views.Seen.{record_in}
use Rattle.intent_meta.proofs.RecordTimeLaws.{time_in-read}
use Rattle.intent_meta.proofs.intent_ref.IntentRef.ts.Goals as goal

-- where a timestamp is seen there is one
is_seen : (o : Option Declared) (t : Timestamp) → option_map time_of o ≡ Some t → IsSome o
is_seen None t e = absurd cc
is_seen (Some x) t e = search

pub unwrap-requires : goal.unwrap-requires
unwrap-requires c =
    is_seen c.record_time.result (record_in c.args.self.now.bytes.now).ts
    (c.record_time.ensures.time ∙ time_in-read c.args.self.now.bytes.now c.args.self.now.are_bytes c.args.self.now.are_read)

pub returns : goal.returns
returns c =
    let e : Some (time_of c.unwrap.result) ≡ Some (record_in c.args.self.now.bytes.now).ts =
    ap (option_map time_of) (sym c.unwrap.ensures) ∙ c.record_time.ensures.time ∙ time_in-read c.args.self.now.bytes.now c.args.self.now.are_bytes c.args.self.now.are_read in
    cc
