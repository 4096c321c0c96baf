use Rattle.std.proofs.Common.{◌≡◌, Ok, rules}
use Rattle.intent_meta.specs.Entries.{entry_in}
use Rattle.intent_meta.proofs.WalkLaws.{entry-shorter}
use Rattle.intent_meta.proofs.fields.first_entry.Goals as goal

pub returns-clause-shorter : goal.returns-clause-shorter
returns-clause-shorter c =
    let read : entry_in c.args.bytes.now ≡ Ok (record { sequence = c.in_ok-sequence.sequence; value = c.in_ok-value.value.now }, c.in_ok-value.rest.now) = search rules in
    entry-shorter c.args.bytes.now (record { sequence = c.in_ok-sequence.sequence; value = c.in_ok-value.value.now }, c.in_ok-value.rest.now) read
