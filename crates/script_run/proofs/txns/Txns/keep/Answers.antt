-- An insertion into the map.
use Rattle.std.proofs.Common.{◌∙◌, ap}
use Rattle.script_run.specs.Named.{keep}
use Rattle.script_run.proofs.NamedLaws.{named, keep-insert_entry}
use Rattle.script_run.proofs.txns.Txns.keep.Goals as goal

pub returns-clause-ok : goal.returns-clause-ok
returns-clause-ok c =
    ap named c.in_ok-insert.ensures.entries ∙ keep-insert_entry c.in_ok-name.name c.args.txn c.self.inside.kept.entries
    ∙ ap (keep _ c.args.txn) c.self.view_is ∙ ap (λ n. keep n c.args.txn c.args.self.now) c.in_ok-name.ensures.ok
