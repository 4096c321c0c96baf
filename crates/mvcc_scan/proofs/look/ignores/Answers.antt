-- The ranges are those of the transaction.
use Rattle.std.proofs.Common.{sym, ap, ◌∙◌}
use Rattle.mvcc_key.specs.History.{is_ignored}
use Rattle.intent_meta.proofs.WalkLaws.{is_ignored-range_of}
use Rattle.mvcc_scan.proofs.look.ignores.Goals as goal

pub returns : goal.returns
returns c =
    c.is_among.ensures ∙ sym (is_ignored-range_of c.ignored.result.now c.args.sequence) ∙ ap (λ ranges. is_ignored ranges c.args.sequence) c.ignored.ensures.value
