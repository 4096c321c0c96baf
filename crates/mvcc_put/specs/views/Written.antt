-- How contracts see what a write puts in front of its key's newest committed version.
use Rattle.std.specs.Prelude.{ℕ, ℤ, pos, Option, Some, None}
use Rattle.mvcc_key.specs.Order.{Key}
use Rattle.mvcc_key.specs.History.{History, Changed, intent_of}
use Rattle.mvcc_key.specs.Field.{Field}
use Rattle.stat_delta.specs.Shapes.{version_shape, intent_shape}
use Rattle.write_rule.specs.Write.{WriteRequest, WriteAnswer, new_version, new_intent}
use Rattle.write_rule.specs.Outcome.{Outcome, Replayed, Added, Left}
use Rattle.key_top.specs.Top.{Top, Front, Intent, Version, front_change, moment_of}

-- what a write with this outcome puts there: nothing changes where it is a replay
abbrev pub written_for : {h : History} {key : Key} {w : WriteRequest} {c : Changed WriteAnswer} → Outcome h key w c → Option Front
written_for (Replayed t inside same) = None
written_for {h} {key} {w} (Added ts body outside formed is) = Some (Version (version_shape (new_version key ts w.local body)))
written_for {h} {key} {w} (Left t body inside formed is) = Some (Intent (intent_shape (new_intent key t (intent_of key h) w.local body)))

-- the moment after it: the latest of the last one and of what it puts
abbrev pub moment_by : ℕ → Option Front → ℕ
moment_by last None = last
moment_by last (Some front) = moment_of last front

-- by how much it changes a statistic at a moment
abbrev pub change_by : ℕ → Top → Option Front → Field → ℤ
change_by now top None f = pos 0
change_by now top (Some front) f = front_change now top front f
