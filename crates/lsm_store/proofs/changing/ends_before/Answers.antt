use Rattle.std.proofs.Common.{◌≡◌, true, map, refl, sym, ap, subst, ◌∙◌, arith}
use Rattle.std.specs.Prelude.{All}
use Rattle.std.specs.Ordering.{is_lt}
use Rattle.mvcc_key.specs.Order.{Timestamp, no_time, is_no_time, is_before, is_up_to}
use Rattle.mvcc_key.specs.views.Seen.{time_of}
use Rattle.mvcc_key.proofs.OrderLaws.{not_up_to-before, not_up_to-none}
use Rattle.lsm_store.proofs.TimeLaws.{unset-above}
use Rattle.lsm_store.proofs.changing.ends_before.Goals as goal

pub returns-in-Some : goal.returns-in-Some
returns-in-Some c lt n same =
    let before : is_before (time_of c.in-Some.greatest) (time_of c.args.ts) ≡ true = ap is_lt (sym c.compare.ensures) ∙ sym c.is_lt.ensures ∙ lt in
    unset-above n (time_of c.in-Some.greatest) c.args.run.now.points (map (λ o. o.ts) c.args.run.now.ranges) (ap is_no_time same ∙ c.requires)
    (not_up_to-before (time_of c.in-Some.greatest) n.ts (ap (is_before (time_of c.in-Some.greatest)) same ∙ before)) c.in-Some.ensures.greatest.greatest

pub returns-in-None : goal.returns-in-None
returns-in-None c holds n same =
    unset-above n no_time c.args.run.now.points (map (λ o. o.ts) c.args.run.now.ranges) (ap is_no_time same ∙ c.requires)
    (not_up_to-none n.ts no_time (ap is_no_time same ∙ c.requires) refl) (subst (All (λ (s : Timestamp). is_up_to s no_time ≡ true)) (sym (c.in-None.ensures.none.0 refl)) (λ k d within. absurd (omega (arith, within))))
