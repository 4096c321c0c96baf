use Rattle.std.proofs.Common.{ℕ, eqb, ap, ◌∙◌, arith}
use Rattle.intent_meta.specs.views.Seen.{record_in}
use Rattle.intent_meta.proofs.FieldLaws.{HasFields-record_in, flag_byte-one}
use Rattle.intent_meta.proofs.intent_ref.IntentRef.deleted.Goals as goal

pub bounds-self-36 : goal.bounds-self-36
bounds-self-36 c =
    let fields = HasFields-record_in c.args.self.now.bytes.now c.args.self.now.are_bytes c.args.self.now.are_read in
    let long = fields.long in omega arith

pub returns : goal.returns
returns c =
    let fields = HasFields-record_in c.args.self.now.bytes.now c.args.self.now.are_bytes c.args.self.now.are_read in
    ap (λ (n : ℕ). eqb n 1) fields.deleted ∙ flag_byte-one (record_in c.args.self.now.bytes.now).deleted
