-- A planned change is taken up.
use Rattle.std.proofs.Common.{refl, ap}
use Rattle.std.proofs.lemmas.Result.{err_from_is_err_and}
use Rattle.mvcc_engine.proofs.TakingLaws.{take-up, take-no_debt, take-over, take-sound, take-taken}
use Rattle.mvcc_engine.proofs.engine.Engine.take.Goals as goal

pub settle-requires-clause-later : goal.settle-requires-clause-later
settle-requires-clause-later c = take-up c.self.inside.store c.self.inside.stats c.self.invariant c.args.self.now c.self.view_is c.args.planned c.requires

pub settle-requires-clause-no_debt : goal.settle-requires-clause-no_debt
settle-requires-clause-no_debt c = take-no_debt c.self.inside.store c.self.inside.stats c.self.invariant c.args.self.now c.self.view_is c.args.planned c.requires

pub returns-in_err-settle : goal.returns-in_err-settle
returns-in_err-settle c =
    let p = err_from_is_err_and c.from_residual.result c.from_residual.ensures.1 in
    λ after reply is. rw (p.1, p.2) (
      refl,
      take-over c.self.inside.store c.self.inside.stats c.self.invariant c.args.self.now c.self.view_is c.args.planned after is reply _ c.in_err-settle.ensures.refused,
    )

pub invariant_of-self-2 : goal.invariant_of-self-2
invariant_of-self-2 c =
    take-sound c.self.inside.store c.self.inside.stats c.self.invariant c.args.self.now c.self.view_is c.args.planned c.requires
    c.apply.new.self c.settle.new.self c.in_ok-settle.ensures.ok c.in_ok-apply.ensures.shown c.in_ok-apply.ensures.fragments

pub returns : goal.returns
returns c =
    λ after reply is. take-taken c.self.inside.store c.self.inside.stats c.self.invariant c.args.self.now c.self.view_is c.args.planned after is
    c.apply.new.self c.settle.new.self c.in_ok-settle.ensures.ok c.in_ok-apply.ensures.shown c.in_ok-apply.ensures.fragments reply c.in_ok-settle.ensures.refused c.in_ok-apply.ensures.parts
