-- What a write puts among the stored pairs, and what a plan of it says.
use Rattle.std.specs.Prelude.{◌≡◌, List, [], ◌∷◌, Option, Some, None, Result, Ok, Err, if◌then◌else◌}
use Rattle.mvcc_key.specs.Order.{Key, is_same_time}
use Rattle.mvcc_key.specs.History.{Version, version_name, Intent, History, Changed, intent_of}
use Rattle.mvcc_key.specs.Points.{Point}
use Rattle.mvcc_key.specs.views.SeenPoint.{points_of}
use Rattle.intent_meta.specs.StoredPairs.{RecordOf, VersionOf, provisional, stored_pair, stored_pairs}
use Rattle.intent_meta.specs.PointPairs.{set_point, cleared_point, with_points}
use Rattle.write_rule.specs.Write.{WriteRequest, WriteAnswer, new_version, new_intent, write}
use Rattle.write_rule.specs.Outcome.{Outcome, Replayed, Added, Left}
use Rattle.write_rule.specs.views.Seen.{answer_of, refusal_of, Tells}
use Rattle.write_rule.specs.declared.change.KeyChange.{KeyChange}
use Rattle.write_rule.specs.declared.fault.WriteFault.{WriteFault}

-- a version is set
abbrev pub version_points : Version → List Point
version_points v = set_point (stored_pair (VersionOf v)) ∷ []

-- the provisional version of the replaced intent is cleared, unless the new one takes its place
abbrev pub left_behind : Option Intent → Intent → List Point
left_behind None new = []
left_behind (Some old) new = if is_same_time old.ts new.ts then [] else cleared_point (version_name (provisional old)) ∷ []

-- the record of an intent and its provisional version are set
abbrev pub intent_points : Option Intent → Intent → List Point
intent_points old new = set_point (stored_pair (RecordOf new)) ∷ set_point (stored_pair (VersionOf (provisional new))) ∷ left_behind old new

-- what a write that is taken puts: nothing where it is a replay
abbrev pub points_for : {h : History} {key : Key} {w : WriteRequest} {c : Changed WriteAnswer} → Outcome h key w c → List Point
points_for (Replayed t inside same) = []
points_for {h} {key} {w} (Added ts body outside formed is) = version_points (new_version key ts w.local body)
points_for {h} {key} {w} (Left t body inside formed is) = intent_points (intent_of key h) (new_intent key t (intent_of key h) w.local body)

-- a change is planned as the rule says: the answer, and the points, which make the stored pairs those of the history after it
pub record IsPlanned (h : History) (key : Key) (w : WriteRequest) (change : KeyChange) : Type 0 where
  pub after : History
  pub taken : write h key w ≡ Ok (record { history = after; answer = answer_of change.answer })
  pub outcome : Outcome h key w (record { history = after; answer = answer_of change.answer })
  pub points : points_of change.points ≡ points_for outcome
  pub pairs : stored_pairs after ≡ with_points (points_of change.points) (stored_pairs h)

-- a write is planned as the rule says, or refused with the rule's refusal; nothing is said where memory was wanting
abbrev pub Answers : Result KeyChange WriteFault → History → Key → WriteRequest → Type 0
Answers (Ok change) h key w = IsPlanned h key w change
Answers (Err why) h key w = Tells (refusal_of why) (write h key w)
