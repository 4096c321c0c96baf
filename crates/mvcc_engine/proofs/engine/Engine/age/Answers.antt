-- Ageing is answered as its step says.
use Rattle.std.proofs.Common.{◌≡◌, refl, sym, ap, ◌∙◌, subst, ◌<◌, ◌≤◌, Ok, Err}
use Rattle.std.proofs.lemmas.Result.{err_from_is_err_and}
use Rattle.mvcc_key.specs.Refusal.{MomentTooEarly}
use Rattle.stat_core.specs.ComputeStats.{overflowing}
use Rattle.mvcc_engine.specs.Step.{Finished, statistics}
use Rattle.mvcc_engine.specs.views.Sound.{IsSound, state_of}
use Rattle.mvcc_engine.proofs.SoundLaws.{aged-is, aged-no_debt, sound-later}
use Rattle.mvcc_engine.proofs.StepLaws.{age-early, age-over, age-taken}
use Rattle.mvcc_engine.proofs.engine.Engine.age.Goals as goal

pub returns-then-now-latest : goal.returns-then-now-latest
returns-then-now-latest c =
    let is : c.last_update_nanos-latest.result ≡ c.args.self.now.last = c.last_update_nanos-latest.ensures.value ∙ ap (λ s. s.last) c.self.view_is in
    (refl, age-early c.args.self.now c.args.now (subst (λ l. c.args.now < l) is c.if-now-latest.true) ∙ ap (λ l. Err (MomentTooEarly l)) (sym is))

pub age_to-requires-clause-no_debt : goal.age_to-requires-clause-no_debt
age_to-requires-clause-no_debt c =
    let up : c.self.inside.stats.last ≤ c.args.now = subst (λ l. l ≤ c.args.now) c.last_update_nanos-latest.ensures.value c.if-now-latest.false in
    aged-no_debt c.self.inside.store c.self.inside.stats c.self.invariant c.args.now up

pub returns-in_err-age_to : goal.returns-in_err-age_to
returns-in_err-age_to c =
    let up : c.self.inside.stats.last ≤ c.args.now = subst (λ l. l ≤ c.args.now) c.last_update_nanos-latest.ensures.value c.if-now-latest.false in
    let p = err_from_is_err_and c.from_residual.result c.from_residual.ensures.1 in
    rw (p.1, p.2) (
      ap (state_of c.self.inside.store) c.in_err-age_to.ensures.err ∙ c.self.view_is,
      age-over c.args.self.now c.args.now (subst (λ s. s.last ≤ c.args.now) c.self.view_is up) _
          (c.in_err-age_to.ensures.refused
          ∙ ap (λ q. overflowing c.self.inside.stats.count_max q.sums) (aged-is c.self.inside.store c.self.inside.stats c.self.invariant c.args.now up)
          ∙ ap (λ s. overflowing s.count_max (statistics c.args.now s.history)) c.self.view_is),
    )

pub invariant_of-self-2 : goal.invariant_of-self-2
invariant_of-self-2 c =
    let up : c.self.inside.stats.last ≤ c.args.now = subst (λ l. l ≤ c.args.now) c.last_update_nanos-latest.ensures.value c.if-now-latest.false in
    subst (IsSound c.self.inside.store)
    (sym (c.in_ok-age_to.ensures.ok ∙ aged-is c.self.inside.store c.self.inside.stats c.self.invariant c.args.now up))
    (sound-later c.self.inside.store c.self.inside.stats c.self.invariant c.args.now up)

pub returns : goal.returns
returns c =
    let up : c.self.inside.stats.last ≤ c.args.now = subst (λ l. l ≤ c.args.now) c.last_update_nanos-latest.ensures.value c.if-now-latest.false in
    let is = aged-is c.self.inside.store c.self.inside.stats c.self.invariant c.args.now up in
    age-taken c.args.self.now c.args.now (subst (λ s. s.last ≤ c.args.now) c.self.view_is up)
    (c.in_ok-age_to.ensures.refused
    ∙ ap (λ q. overflowing c.self.inside.stats.count_max q.sums) is
    ∙ ap (λ s. overflowing s.count_max (statistics c.args.now s.history)) c.self.view_is)
    ∙ ap (λ s. Ok (record { state = record { history = s.history; last = c.args.now; count_max = s.count_max; parts = s.parts }; reply = Finished })) (sym c.self.view_is)
    ∙ ap (λ q. Ok (record { state = state_of c.self.inside.store q; reply = Finished })) (sym (c.in_ok-age_to.ensures.ok ∙ is))
