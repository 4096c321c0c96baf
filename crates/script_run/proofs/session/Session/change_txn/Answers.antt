-- The transaction of the name is changed where it stands.
use Rattle.std.proofs.Common.{◌≡◌, refl, sym, ap, ◌∙◌, subst}
use Rattle.std.specs.Option.{OnSome, option_copied_mut}
use Rattle.std.proofs.lemmas.Result.{err_from_is_err_and}
use Rattle.script_run.specs.Named.{keep}
use Rattle.script_run.specs.Output.{ScriptState}
use Rattle.script_run.specs.views.Changed.{rule_of}
use Rattle.script_run.specs.views.Told.{told_by}
use Rattle.script_run.proofs.TxnLaws.{changed, unchanged, unknown}
use Rattle.script_run.proofs.session.Session.change_txn.Goals as goal
use Rattle.script_run.proofs.session.Session.change_txn.Goals.{in-Some+in_ok-make-in-Some+in_ok-show-in-Some, in-None}

pub returns-in_err-make-in-Some : goal.returns-in_err-make-in-Some
returns-in_err-make-in-Some c =
    let v : ScriptState = record { engine = c.self.inside.engine; txns = c.self.inside.txns; begun = c.self.inside.begun } in
    let text = c.args.text.now.items in
    let name = c.args.name.now in
    let txn = c.make.new.txn in
    let kept = subst (λ o. OnSome o (c.find_mut.follows.lender txn ≡ keep name txn v.txns)) c.in-Some.is (c.find_mut.follows.holds txn) in
    let p = err_from_is_err_and c.from_residual.result c.from_residual.ensures.1 in
    λ line is. rw (p.1, p.2)
    (unchanged text text v c.args.self.now c.self.view_is name line (rule_of c.args.change) is c.in-Some.txn.now txn (c.find_mut.follows.lender txn) (told_by c.in_err-make-in-Some.field-0.0)
    (sym c.in-Some.ensures.value) c.in_err-make-in-Some.ensures.1 c.in_err-make-in-Some.ensures.0 kept refl)

pub returns : goal.returns
returns c =
    let v : ScriptState = record { engine = c.self.inside.engine; txns = c.self.inside.txns; begun = c.self.inside.begun } in
    let text = c.args.text.now.items in
    let name = c.args.name.now in
    elim c.match-find_mut.branch [
      | in-Some+in_ok-make-in-Some+in_ok-show-in-Some w ↦
          (let txn = w.make.new.txn in
          let kept = subst (λ o. OnSome o (c.find_mut.follows.lender txn ≡ keep name txn v.txns)) w.in-Some.is (c.find_mut.follows.holds txn) in
          λ line is. rw (w.result-is, w.self-inside-is, w.text-is)
          (changed text w.show.new.into.items v c.args.self.now c.self.view_is name line (rule_of c.args.change) is w.in-Some.txn.now txn (c.find_mut.follows.lender txn)
          (sym w.in-Some.ensures.value) w.in_ok-make-in-Some.ensures kept w.in_ok-show-in-Some.ensures.ok))
      | in-None w ↦
          (λ line is. rw (w.result-is, w.self-inside-is, w.text-is)
          (unknown text text v c.args.self.now c.self.view_is name line (rule_of c.args.change) is c.find_mut.follows.lender-at-none
          (sym c.find_mut.ensures.value ∙ ap option_copied_mut w.in-None.is) c.find_mut.follows.holds-at-none refl))
    ]
