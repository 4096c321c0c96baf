-- The record of an intent tells what the statistics see of it.
use Rattle.std.specs.Prelude.{◌≡◌, length, option_map}
use Rattle.std.proofs.Common.{sym, ap, ◌∙◌}
use Rattle.intent_meta.specs.views.Seen.{seen_intent}
use Rattle.key_top.specs.views.Seen.{intent_shape_of}
use Rattle.key_top.proofs.HereLaws.{head-shape, no_head}
use Rattle.key_top.proofs.here.intent_shape.Goals as goal

pub returns-in-Some : goal.returns-in-Some
returns-in-Some c i told =
    let r = seen_intent c.in-Some.found in
    let lengths = ap length c.bytes.ensures.bytes_are in
    let values : c.from.result ≡ r.value_length = cc in
    head-shape r (intent_shape_of (record { record_len = length c.bytes.result.now; provisional = record { ts = c.ts.result; value_len = c.from.result; deletion = c.deleted.result } })) i
    (λ j. record { record_length = lengths j; provisional = record { ts = c.ts.ensures j; value_length = values j; deletion = c.deleted.ensures j } })
    (ap (option_map seen_intent) (sym c.in-Some.is) ∙ told)

pub returns-in-None : goal.returns-in-None
returns-in-None c i told = no_head i (ap (option_map seen_intent) (sym c.in-None.is) ∙ told)
