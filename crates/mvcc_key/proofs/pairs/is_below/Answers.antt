use Rattle.std.proofs.Common.{sym, ap, ◌∙◌}
use Rattle.std.specs.Prelude.{slice_get}
use Rattle.std.specs.Ordering.{is_lt}
use Rattle.std.specs.declared.cmp.Ordering.TheVariants.{Equal}
use Rattle.std.proofs.lemmas.Cmp.{ranked}
use Rattle.mvcc_key.specs.Encoded.{name_in}
use Rattle.mvcc_key.proofs.PointLaws.{HasPoint-key, named-key, below-key}
use Rattle.mvcc_key.proofs.AbbreviatedKeyLaws.{point-less, point-greater, abbreviated-key}
use Rattle.mvcc_key.proofs.pairs.is_below.Goals as goal

pub cmp_past_abbreviated-requires-clause-left : goal.cmp_past_abbreviated-requires-clause-left
cmp_past_abbreviated-requires-clause-left g c =
    let points = g.P.SortedPairs.points c.args.pairs.now in
    named-key points c.args.index c.key.result.now (HasPoint-key points c.args.index c.key.result.now (g.met.P.SortedPairs.encodable c.args.pairs.now) c.key.ensures)

pub cmp_past_abbreviated-requires-clause-abbreviated : goal.cmp_past_abbreviated-requires-clause-abbreviated
cmp_past_abbreviated-requires-clause-abbreviated g c =
    let points = g.P.SortedPairs.points c.args.pairs.now in
    let key = c.key.result.now in
    let h = HasPoint-key points c.args.index key (g.met.P.SortedPairs.encodable c.args.pairs.now) c.key.ensures in
    sym (abbreviated-key points c.args.index key c.abbreviated_key.result h c.abbreviated_key.ensures)
    ∙ ranked c.abbreviated_key.result c.args.abbreviated Equal (sym c.in-Equal.is ∙ c.cmp.ensures) ∙ c.requires.abbreviated.is

pub returns-in-Less-clause-answer : goal.returns-in-Less-clause-answer
returns-in-Less-clause-answer g c =
    let points = g.P.SortedPairs.points c.args.pairs.now in
    point-less (name_in c.args.sought.now) (slice_get points c.args.index) c.abbreviated_key.result c.args.abbreviated c.abbreviated_key.ensures c.requires.abbreviated (sym c.cmp.ensures ∙ c.in-Less.is)

pub returns-in-Equal-clause-answer : goal.returns-in-Equal-clause-answer
returns-in-Equal-clause-answer g c =
    let points = g.P.SortedPairs.points c.args.pairs.now in
    let name = name_in c.args.sought.now in
    let key = c.key.result.now in
    let h = HasPoint-key points c.args.index key (g.met.P.SortedPairs.encodable c.args.pairs.now) c.key.ensures in
    rw h.here (c.is_lt.ensures ∙ ap is_lt c.cmp_past_abbreviated.ensures ∙ below-key name points c.args.index key h)

pub returns-in-Greater-clause-answer : goal.returns-in-Greater-clause-answer
returns-in-Greater-clause-answer g c =
    let points = g.P.SortedPairs.points c.args.pairs.now in
    point-greater (name_in c.args.sought.now) (slice_get points c.args.index) c.abbreviated_key.result c.args.abbreviated c.abbreviated_key.ensures c.requires.abbreviated (sym c.cmp.ensures ∙ c.in-Greater.is)
