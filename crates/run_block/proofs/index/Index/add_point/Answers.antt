use Rattle.std.proofs.Common.{refl, sym, ap, ◌∙◌}
use Rattle.mvcc_key.specs.views.Seen.{time_of}
use Rattle.std.specs.Option.{option_map}
use Rattle.run_block.specs.views.Places.{span_seen}
use Rattle.run_block.proofs.IndexLaws.{span_with, index-point}
use Rattle.run_block.proofs.index.Index.add_point.Goals as goal

pub returns-in-Some-clause-index : goal.returns-in-Some-clause-index
returns-in-Some-clause-index c =
    let is = c.requires in
    index-point c.args.bytes.now c.args.self.now _ c.args.point is.index is.placed is.first refl c.in_ok-push.ensures.items
    (c.widen-self.ensures ∙ ap (span_with (span_seen c.args.self.now.span)) (sym (ap (option_map time_of) c.in-Some.is) ∙ c.time_of_point.ensures))

pub returns-in_default-clause-index : goal.returns-in_default-clause-index
returns-in_default-clause-index c =
    let is = c.requires in
    index-point c.args.bytes.now c.args.self.now _ c.args.point is.index is.placed is.first refl c.in_ok-push.ensures.items
    (ap (span_with (span_seen c.args.self.now.span)) (sym (ap (option_map time_of) c.in_default.is) ∙ c.time_of_point.ensures))
