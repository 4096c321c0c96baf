-- The newest uncertain tombstone.
use Rattle.std.proofs.Common.{sym, ap, ◌∙◌, cond}
use Rattle.std.specs.Prelude.{Some, None, map}
use Rattle.std.specs.Option.{option_map}
use Rattle.std.specs.Ordering.{is_lt}
use Rattle.mvcc_key.specs.views.Seen.{time_of}
use Rattle.mvcc_cursor.proofs.TimeLaws.{uncertain-found}
use Rattle.mvcc_cursor.proofs.items.uncertain_time.Goals as goal

pub returns-in-None : goal.returns-in-None
returns-in-None c =
    uncertain-found (time_of c.args.above) (time_of c.args.limit) (time_of c.args.local_limit) (time_of c.last_uncertain.result) (map time_of c.args.times.now) c.requires c.last_uncertain.ensures None c.in-None.ensures

pub returns-then-is_lt : goal.returns-then-is_lt
returns-then-is_lt c =
    (let t = time_of c.in-Some.ts in
    sym (ap (λ b. option_map (λ u. (u, u)) (cond b (Some t) None)) (sym (c.is_lt.ensures ∙ ap is_lt c.compare.ensures) ∙ c.if-is_lt.true))
    ∙ uncertain-found (time_of c.args.above) (time_of c.args.limit) (time_of c.args.local_limit) (time_of c.last_uncertain.result) (map time_of c.args.times.now) c.requires c.last_uncertain.ensures (Some t) c.in-Some.ensures)

pub returns-else-is_lt : goal.returns-else-is_lt
returns-else-is_lt c =
    (let t = time_of c.in-Some.ts in
    sym (ap (λ b. option_map (λ u. (u, u)) (cond b (Some t) None)) (sym (c.is_lt.ensures ∙ ap is_lt c.compare.ensures) ∙ c.if-is_lt.false))
    ∙ uncertain-found (time_of c.args.above) (time_of c.args.limit) (time_of c.args.local_limit) (time_of c.last_uncertain.result) (map time_of c.args.times.now) c.requires c.last_uncertain.ensures (Some t) c.in-Some.ensures)
