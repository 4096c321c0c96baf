-- A removal from the map.
use Rattle.std.proofs.Common.{◌∙◌, ap, is_some}
use Rattle.script_run.specs.Named.{drop_name, look_up}
use Rattle.script_run.proofs.NamedLaws.{look_up-lookup, drop_name-removed}
use Rattle.script_run.proofs.txns.Txns.remove.Goals as goal

pub returns-clause-value : goal.returns-clause-value
returns-clause-value c =
    c.is_some.ensures ∙ ap is_some (c.shift_remove.ensures.value ∙ look_up-lookup c.args.name.now c.self.inside.kept.entries ∙ ap (look_up c.args.name.now) c.self.view_is)

pub returns-clause-without : goal.returns-clause-without
returns-clause-without c =
    drop_name-removed c.args.name.now c.self.inside.kept.entries c.shift_remove.new.self.entries c.shift_remove.ensures.entries c.shift_remove.ensures.updates.1
    ∙ ap (drop_name c.args.name.now) c.self.view_is
