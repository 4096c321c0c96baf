use Rattle.std.proofs.Common.{◌≤◌, ◌∙◌, List, ℕ, length, sym, subst}
use Rattle.mvcc_key.specs.Limits.{max_stored_length}
use Rattle.mvcc_key.specs.views.Seen.{time_of}
use Rattle.mvcc_value.specs.views.Seen.{seen_body}
use Rattle.write_rule.proofs.OpsLaws.{value_short}
use Rattle.write_rule.proofs.points.encoded.Goals as goal

pub returns-clause-short : goal.returns-clause-short
returns-clause-short c =
    subst (λ (bytes : List ℕ). length bytes ≤ max_stored_length) (sym (c.from_vec.ensures ∙ c.in_ok-encode.ensures.bytes)) (value_short (seen_body c.args.body) (time_of c.args.local) (time_of c.args.ts) c.requires)
