-- How contracts see range operations that are lent.
use Rattle.std.specs.Option.{option_map}
use Rattle.mvcc_key.specs.RangeOperations.{RangeOp}
use Rattle.mvcc_key.specs.views.Seen.{time_of}
use Rattle.run_block.specs.declared.range.RangeOpRef.{RangeOpRef}

-- a range operation that is lent
abbrev pub lent_range : RangeOpRef → RangeOp
lent_range r = record { start = r.start.now; end = r.end.now; ts = time_of r.ts; value = option_map (λ v. v.now) r.set }
