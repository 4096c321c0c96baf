-- What the cursor tells at a key is what the store's history has of it.
use Rattle.std.specs.Prelude.{map, option_map}
use Rattle.mvcc_key.specs.views.Seen.{time_of}
use Rattle.stat_core.specs.views.Seen.{version_shape_of}
use Rattle.mvcc_cursor.specs.Standing.{told}
use Rattle.mvcc_cursor.specs.views.Seen.{seen}
use Rattle.key_top.specs.views.Seen.{intent_shape_of}
use Rattle.key_top.proofs.HereLaws.{top-at}
use Rattle.key_top.proofs.here.top_here.Goals as goal

pub returns : goal.returns
returns c key at len formed =
    let s = seen c.args.cursor.now in
    top-at s key at formed c.args.key_len (option_map intent_shape_of c.intent_shape.result) (option_map version_shape_of c.args.newest)
    (map time_of c.stack_here.result.now) len (c.intent_shape.ensures (told s).intent c.meta.ensures) c.requires c.stack_here.ensures.value
