use Rattle.std.proofs.Common.{◌≡◌, ℕ, List, refl, ap, ◌∙◌}
use Rattle.std.specs.Prelude.{is_ok}
use Rattle.std.proofs.lemmas.Result.{MatchResult-weaker}
use Rattle.mvcc_key.proofs.ByteLaws.{step}
use Rattle.intent_meta.specs.Record.{behind_sequence, record_of}
use Rattle.intent_meta.proofs.decoding.check.Goals as goal

pub returns : goal.returns
unfolding record_of
returns c =
    let id : List ℕ = c.in_ok-rest.field-0-0.now in
    let epoch : ℕ = c.in_ok-rest-2.field-0-0 in
    let whole : record_of c.args.bytes.now ≡ behind_sequence id epoch c.in_ok-sequence.sequence c.in_ok-sequence.rest.now =
    step _ _ _ _ c.in_ok-rest.ensures (step _ _ _ _ c.in_ok-rest-2.ensures (step _ _ _ _ c.in_ok-sequence.ensures refl)) in
    MatchResult-weaker c.check_behind_sequence.result c.check_behind_sequence.ensures (λ x h. ap is_ok whole ∙ h id epoch) (λ e h. whole ∙ h id epoch)
