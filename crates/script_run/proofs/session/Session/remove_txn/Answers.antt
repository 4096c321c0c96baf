-- The name stands for no transaction any more.
use Rattle.std.proofs.Common.{refl, sym, ◌∙◌}
use Rattle.script_run.specs.Output.{ScriptState}
use Rattle.script_run.proofs.TxnLaws.{remove-taken, remove-unknown}
use Rattle.script_run.proofs.session.Session.remove_txn.Goals as goal

pub returns-then-not-remove : goal.returns-then-not-remove
returns-then-not-remove c =
    let v : ScriptState = record { engine = c.self.inside.engine; txns = c.self.inside.txns; begun = c.self.inside.begun } in
    let text = c.args.text.now.items in
    remove-unknown text text v c.args.self.now c.self.view_is c.args.name.now c.remove.new.self (sym c.remove.ensures.value ∙ c.if-not-remove.true) c.remove.ensures.without refl

pub returns : goal.returns
returns c =
    let v : ScriptState = record { engine = c.self.inside.engine; txns = c.self.inside.txns; begun = c.self.inside.begun } in
    remove-taken c.args.text.now.items c.show.new.into.items v c.args.self.now c.self.view_is c.args.name.now c.remove.new.self (sym c.remove.ensures.value ∙ c.if-not-remove.false)
    c.remove.ensures.without c.in_ok-show.ensures.ok
