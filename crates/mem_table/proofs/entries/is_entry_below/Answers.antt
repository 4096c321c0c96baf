use Rattle.std.proofs.Common.{sym, ap, ◌∙◌}
use Rattle.std.specs.Ordering.{is_lt}
use Rattle.std.proofs.lemmas.Option.{get_or_from_slice_get}
use Rattle.mvcc_key.specs.Encoded.{name_in}
use Rattle.mvcc_key.specs.Points.{is_below_name}
use Rattle.mvcc_key.proofs.PointLaws.{HasPoint-key, named-key, below-key}
use Rattle.mem_table.specs.views.Entries.{no_point}
use Rattle.mem_table.proofs.entries.is_entry_below.Goals as goal

pub cmp_encoded-requires-clause-left : goal.cmp_encoded-requires-clause-left
cmp_encoded-requires-clause-left g c =
    let points = g.E.Entries.points c.args.entries.now in
    named-key points c.args.number c.key.result.now (HasPoint-key points c.args.number c.key.result.now (g.met.E.Entries.encodable c.args.entries.now) c.key.ensures)

pub returns : goal.returns
returns g c =
    let points = g.E.Entries.points c.args.entries.now in
    let name = name_in c.args.sought.now in
    let key = c.key.result.now in
    let h = HasPoint-key points c.args.number key (g.met.E.Entries.encodable c.args.entries.now) c.key.ensures in
    c.is_lt.ensures ∙ ap is_lt c.cmp_encoded.ensures ∙ below-key name points c.args.number key h ∙ ap (is_below_name name) (sym (get_or_from_slice_get points c.args.number h.point no_point h.here))
