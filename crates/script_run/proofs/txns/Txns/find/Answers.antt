-- A look-up of the map.
use Rattle.std.proofs.Common.{◌∙◌, ap}
use Rattle.script_run.specs.Named.{look_up}
use Rattle.script_run.proofs.NamedLaws.{look_up-lookup}
use Rattle.script_run.proofs.txns.Txns.find.Goals as goal

pub returns : goal.returns
returns c = c.get.ensures.value ∙ look_up-lookup c.args.name.now c.self.inside.kept.entries ∙ ap (look_up c.args.name.now) c.self.view_is
