use Rattle.std.proofs.Common.{sym, subst}
use Rattle.mvcc_key.specs.Canonical.{IsCanonical}
use Rattle.range_key.proofs.PartLaws.{canonical-drop}
use Rattle.range_key.proofs.place.touched.Goals as goal

pub starting_by-requires : goal.starting_by-requires
starting_by-requires c = subst IsCanonical (sym c.split_at.ensures.back) (canonical-drop c.ending_below-low.result c.args.fragments.now c.requires)
