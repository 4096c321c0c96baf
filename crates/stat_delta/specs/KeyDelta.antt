-- The difference of one key as that of everything stored.
use Rattle.std.specs.Prelude.{◌≡◌, ℕ, List, ◌++◌, Option, option_to_list}
use Rattle.mvcc_key.specs.Lists.{first}
use Rattle.mvcc_key.specs.Order.{Key}
use Rattle.mvcc_key.specs.History.{Version, History, versions_of, intent_of}
use Rattle.mvcc_key.specs.Fragments.{Fragment}
use Rattle.intent_meta.specs.StoredPairs.{stored_pairs}
use Rattle.intent_meta.specs.Valid.{IsValid}
use Rattle.intent_meta.specs.LeftAlone.{LeavesOtherKeys}
use Rattle.stat_core.specs.ComputeStats.{KeyShape}
use Rattle.stat_core.specs.Laws.{IsChange}
use Rattle.stat_core.specs.declared.group.Group.{Group}
use Rattle.stat_delta.specs.Laws.{shape_with}

-- wherever one key changes in front of some of its versions, and has the one shape before and the other after, each with the newest
-- of those versions alone behind what is in front, the group is what the statistics of everything stored change by
abbrev pub ChangesStored : ℕ → Option KeyShape → Option KeyShape → Group → Type 0
ChangesStored now before after delta =
    (h h' : History) (fs : List Fragment) (key : Key) (new new' rest : List Version)
    → IsValid h → IsValid h' → LeavesOtherKeys key h h' → versions_of key h ≡ new ++ rest → versions_of key h' ≡ new' ++ rest
    → before ≡ shape_with fs key (intent_of key h) (new ++ option_to_list (first rest))
    → after ≡ shape_with fs key (intent_of key h') (new' ++ option_to_list (first rest))
    → IsChange delta now (stored_pairs h) (stored_pairs h') fs fs
