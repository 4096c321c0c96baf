-- The laws of shapes.
use Rattle.stat_delta.proofs.RecordShapeLaws.{version_shape-is, intent_shape-is}
use Rattle.stat_delta.proofs.ShortLaws.{tops-short}
use Rattle.stat_delta.proofs.laws.laws_of_shapes.Goals as goal

pub returns : goal.returns
returns c = record { of_version = version_shape-is; of_intent = intent_shape-is; short = tops-short }
