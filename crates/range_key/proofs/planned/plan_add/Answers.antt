use Rattle.std.proofs.Common.{refl}
use Rattle.mvcc_key.specs.views.Seen.{time_of}
use Rattle.range_key.proofs.PartLaws.{canonical-take, canonical-drop}
use Rattle.range_key.proofs.ChangedLaws.{added-list}
use Rattle.range_key.proofs.planned.plan_add.Goals as goal

pub added-requires-clause-canonical : goal.added-requires-clause-canonical
added-requires-clause-canonical c = canonical-take _ _ (canonical-drop _ c.args.fragments.now c.requires.canonical)

pub returns-clause-adds : goal.returns-clause-adds
returns-clause-adds c =
    let place = c.touched-low in
    (added-list c.args.start.now c.args.end.now (time_of c.args.ts) place.result.0 place.result.1 c.args.fragments.now c.args.fragments.now c.in_ok-pieces.pieces.items
    c.requires.span refl c.requires.canonical place.ensures.ordered place.ensures.left place.ensures.right c.in_ok-pieces.ensures).adds
