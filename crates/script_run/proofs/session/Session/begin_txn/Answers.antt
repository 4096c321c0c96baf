-- A name that is taken is refused, and else stands for a new transaction.
use Rattle.std.proofs.Common.{refl, sym, ap, ◌∙◌, is_some}
use Rattle.std.proofs.lemmas.Result.{err_from_is_err_and}
use Rattle.mvcc_key.specs.views.Seen.{time_of}
use Rattle.txn_state.specs.Transaction.{begun}
use Rattle.script_text.proofs.TextLaws.{Extends-same}
use Rattle.script_run.specs.Output.{ScriptState}
use Rattle.script_run.proofs.NamedLaws.{is_some-copied}
use Rattle.script_run.proofs.TxnLaws.{begin-exists, begin-taken}
use Rattle.script_run.proofs.session.Session.begin_txn.Goals as goal

pub returns-then-is_some : goal.returns-then-is_some
returns-then-is_some c =
    let v : ScriptState = record { engine = c.self.inside.engine; txns = c.self.inside.txns; begun = c.self.inside.begun } in
    let text = c.args.text.now.items in
    begin-exists text text v c.args.self.now c.self.view_is c.args.name.now (time_of c.args.ts) (time_of c.args.limit) c.args.id
    (sym (ap is_some c.find.ensures) ∙ is_some-copied c.find.result ∙ sym c.is_some.ensures ∙ c.if-is_some.true) refl

pub returns-in_err-show : goal.returns-in_err-show
returns-in_err-show c =
    let p = err_from_is_err_and c.from_residual.result c.from_residual.ensures.1 in
    rw (p.1, p.2) (Extends-same c.args.text.now.items c.show.new.into.items c.in_err-show.ensures.err)

pub returns : goal.returns
returns c =
    let v : ScriptState = record { engine = c.self.inside.engine; txns = c.self.inside.txns; begun = c.self.inside.begun } in
    begin-taken c.args.text.now.items c.show.new.into.items v c.args.self.now c.self.view_is c.args.name.now (time_of c.args.ts) (time_of c.args.limit) c.args.id c.begin-txn.result c.keep.new.self
    (sym (ap is_some c.find.ensures) ∙ is_some-copied c.find.result ∙ sym c.is_some.ensures ∙ c.if-is_some.false)
    (c.begin-txn.ensures ∙ ap (λ id. begun id (time_of c.args.ts) (time_of c.args.limit)) c.new_id-id.ensures) c.in_ok-keep.ensures.ok c.in_ok-show.ensures.ok
