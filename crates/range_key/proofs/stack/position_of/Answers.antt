use Rattle.std.proofs.Common.{rules, ◌≡◌}
use Rattle.std.proofs.lemmas.Fn.{always_returns_same}
use Rattle.mvcc_key.specs.Order.{time_cmp}
use Rattle.mvcc_key.specs.views.Seen.{time_of}
use Rattle.range_key.proofs.stack.position_of.Goals as goal

pub returns-clause-place : goal.returns-clause-place
returns-clause-place c =
    c.binary_search_by.ensures.position (λ t. time_cmp (time_of c.args.ts) (time_of t))
    (always_returns_same _ (λ a r. r ≡ time_cmp (time_of c.args.ts) (time_of a.0.now)) _ (λ a r f' k. search rules))
