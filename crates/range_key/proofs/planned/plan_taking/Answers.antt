use Rattle.std.proofs.Common.{refl}
use Rattle.range_key.specs.views.Taken.{is_taken}
use Rattle.range_key.proofs.PartLaws.{canonical-take, canonical-drop}
use Rattle.range_key.proofs.ChangedLaws.{taken-list}
use Rattle.range_key.proofs.planned.plan_taking.Goals as goal

pub thinned-requires-clause-canonical : goal.thinned-requires-clause-canonical
thinned-requires-clause-canonical c = canonical-take _ _ (canonical-drop _ c.args.fragments.now c.requires.canonical)

pub returns-clause-takes : goal.returns-clause-takes
returns-clause-takes c =
    let place = c.touched-low in
    (taken-list c.args.start.now c.args.end.now (is_taken c.args.taken) place.result.0 place.result.1 c.args.fragments.now c.args.fragments.now c.in_ok-pieces.pieces.items
    c.requires.span refl c.requires.canonical place.ensures.ordered place.ensures.left place.ensures.right c.in_ok-pieces.ensures).takes
