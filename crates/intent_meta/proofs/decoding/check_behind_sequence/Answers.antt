use Rattle.std.proofs.Common.{◌≡◌, ℕ, List, refl, ap, ◌∙◌}
use Rattle.std.specs.Prelude.{is_ok}
use Rattle.std.proofs.lemmas.Result.{MatchResult-weaker}
use Rattle.mvcc_key.specs.Order.{Timestamp}
use Rattle.mvcc_key.proofs.ByteLaws.{step}
use Rattle.intent_meta.specs.Record.{behind_flag, behind_sequence}
use Rattle.intent_meta.proofs.decoding.check_behind_sequence.Goals as goal

pub returns : goal.returns
returns c =
    let ts : Timestamp = record { wall = c.in_ok-rest.field-0-0; logical = c.in_ok-rest.field-0-1 } in
    let whole : (id : List ℕ) (epoch : ℕ) → behind_sequence id epoch c.args.sequence c.args.bytes.now ≡ behind_flag id epoch c.args.sequence ts c.in_ok-deleted.deleted c.in_ok-deleted.rest.now =
    λ id epoch. step _ _ _ _ c.in_ok-rest.ensures (step _ _ _ _ c.in_ok-deleted.ensures refl) in
    MatchResult-weaker c.check_behind_flag.result c.check_behind_flag.ensures
    (λ x h id epoch. ap is_ok (whole id epoch) ∙ h id epoch ts) (λ e h id epoch. whole id epoch ∙ h id epoch ts)
