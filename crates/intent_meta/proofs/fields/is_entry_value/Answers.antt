use Rattle.std.proofs.Common.{◌∙◌}
use Rattle.mvcc_key.specs.Order.{no_time}
use Rattle.mvcc_value.specs.Encoding.{value_of}
use Rattle.mvcc_value.specs.views.Seen.{seen_value}
use Rattle.intent_meta.proofs.EntryValueLaws.{is_ok-value_of, is_ok-alike}
use Rattle.intent_meta.proofs.fields.is_entry_value.Goals as goal

pub returns : goal.returns
returns c =
    c.is_ok.ensures.value ∙ is_ok-alike c.decode.result (value_of no_time c.args.value.now) seen_value c.decode.ensures
    ∙ is_ok-value_of c.args.value.now
