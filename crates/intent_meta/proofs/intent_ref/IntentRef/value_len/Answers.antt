use Rattle.std.proofs.Common.{◌∙◌, arith}
use Rattle.intent_meta.proofs.FieldLaws.{HasFields-record_in}
use Rattle.intent_meta.proofs.intent_ref.IntentRef.value_len.Goals as goal

pub number_at-requires : goal.number_at-requires
number_at-requires c =
    let fields = HasFields-record_in c.args.self.now.bytes.now c.args.self.now.are_bytes c.args.self.now.are_read in
    let long = fields.long in omega arith

pub returns : goal.returns
returns c =
    let fields = HasFields-record_in c.args.self.now.bytes.now c.args.self.now.are_bytes c.args.self.now.are_read in
    c.number_at.ensures ∙ fields.value_length
