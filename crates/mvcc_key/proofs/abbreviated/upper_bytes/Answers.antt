use Rattle.std.proofs.Common.{◌-◌}
use Rattle.mvcc_key.proofs.AbbreviatedKeyLaws.{upper-shifted}
use Rattle.mvcc_key.proofs.abbreviated.upper_bytes.Goals as goal

pub returns : goal.returns
returns c = upper-shifted c.args.number (8 - c.args.count) c.ranges.number.fits
