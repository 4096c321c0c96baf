use Rattle.std.proofs.Common.{◌≡◌, true, false, leb, sym, ap, ◌∙◌}
use Rattle.std.specs.Prelude.{◌&&◌, not}
use Rattle.std.specs.Option.{option_map}
use Rattle.intent_meta.specs.views.Seen.{record_in, is_ignored_by}
use Rattle.intent_meta.proofs.WalkLaws.{entry_at-last, entry_at-not_last}
use Rattle.intent_meta.proofs.intent_ref.IntentRef.entry_at.Goals as goal

pub returns-then-is_seen : goal.returns-then-is_seen
returns-then-is_seen c =
    let r = record_in c.args.self.now.bytes.now in
    let seen : (leb r.sequence c.args.sequence && not (is_ignored_by c.args.ignored.now r.sequence)) ≡ true =
    rw c.sequence.ensures at (sym c.is_seen.ensures ∙ c.if-is_seen.true) in
    sym (ap (option_map (λ e. e.value)) (entry_at-last c.args.sequence c.args.ignored.now r.history (record { sequence = r.sequence; value = c.args.provisional.now }) seen))

pub returns : goal.returns
returns c =
    let r = record_in c.args.self.now.bytes.now in
    let passed : (leb r.sequence c.args.sequence && not (is_ignored_by c.args.ignored.now r.sequence)) ≡ false =
    rw c.sequence.ensures at (sym c.is_seen.ensures ∙ c.if-is_seen.false) in
    c.last_seen.ensures r.history c.history.ensures
    ∙ sym (ap (option_map (λ e. e.value)) (entry_at-not_last c.args.sequence c.args.ignored.now r.history (record { sequence = r.sequence; value = c.args.provisional.now }) passed))
