-- The laws of the middle made anew.
use Rattle.mvcc_key.proofs.MiddleLaws.{with_tombstone-between, take_out-between}
use Rattle.mvcc_key.proofs.ApartLaws.{with_tombstone-around, take_out-around}
use Rattle.mvcc_key.proofs.laws.laws_of_middles.Goals as goal

pub returns : goal.returns
returns c = record { adding = with_tombstone-between; taking_out = take_out-between; adding_around = with_tombstone-around; taking_out_around = take_out-around }
