use Rattle.std.specs.Prelude.{[], option_map}
use Rattle.std.proofs.Common.{sym, ap, ◌∙◌}
use Rattle.stat_core.specs.views.Seen.{version_shape_of}
use Rattle.stat_delta.specs.Changes.{change_by_version}
use Rattle.key_top.proofs.VersionLaws.{first-change, next-change}
use Rattle.key_top.proofs.version.version_delta.Goals as goal

pub returns-in-Some-clause-exact : goal.returns-in-Some-clause-exact
returns-in-Some-clause-exact c f =
    c.next_delta.ensures.exact f ∙ sym (next-change c.args.now c.args.key_len (version_shape_of c.in-Some.old) (version_shape_of c.args.new) f)
    ∙ ap (λ newest. change_by_version c.args.now c.args.key_len [] (version_shape_of c.args.new) (option_map version_shape_of newest) f) (sym c.in-Some.is)

pub returns-in-None-clause-exact : goal.returns-in-None-clause-exact
returns-in-None-clause-exact c f =
    c.first_delta.ensures.exact f ∙ sym (first-change c.args.now c.args.key_len (version_shape_of c.args.new) f)
    ∙ ap (λ newest. change_by_version c.args.now c.args.key_len [] (version_shape_of c.args.new) (option_map version_shape_of newest) f) (sym c.in-None.is)
