-- What a write puts on top of its key, as a change of what is stored and of the statistics.
use Rattle.std.specs.Prelude.{◌≡◌, ℕ, [], ◌∷◌, IfSome, option_map}
use Rattle.std.proofs.Common.{refl, sym, ap, ◌∙◌}
use Rattle.mvcc_key.specs.Order.{Key}
use Rattle.mvcc_key.specs.History.{Version, Intent, History, Changed, intent_of}
use Rattle.mvcc_key.specs.Fragments.{fragments}
use Rattle.mvcc_key.specs.Field.{Field}
use Rattle.intent_meta.specs.StoredPairs.{stored_pairs}
use Rattle.intent_meta.specs.Valid.{IsValid}
use Rattle.intent_meta.specs.KeyChanges.{Change, VersionOnTop, IntentInPlace, IsVersionOnTop, IsIntentInPlace}
use Rattle.intent_meta.proofs.KeyChangeLaws.{change_keeps_valid, change_leaves_others, on_top-versions, on_top-intent, in_place-versions, in_place-intent}
use Rattle.stat_core.specs.ComputeStats.{compute_stats}
use Rattle.stat_delta.specs.Moments.{stored_walls, greatest, IsStoredBy}
use Rattle.stat_delta.specs.Laws.{stored_change}
use Rattle.stat_delta.specs.Shapes.{version_shape, intent_shape}
use Rattle.stat_delta.proofs.ChangesOverLaws.{difference-itself}
use Rattle.stat_delta.proofs.MomentLaws.{nothing_moves, version_moves, intent_moves}
use Rattle.stat_delta.proofs.ShortLaws.{value-short, intent-short}
use Rattle.write_rule.specs.Write.{WriteRequest, WriteAnswer, new_version, new_intent}
use Rattle.write_rule.specs.Outcome.{Outcome, Replayed, Added, Left}
use Rattle.key_top.specs.Top as words
use Rattle.key_top.specs.Top.{top_in, front_change, IsShortFront}
use Rattle.key_top.proofs.TopLaws.{front-change}
use Rattle.mvcc_put.specs.views.Written.{written_for, moment_by, change_by}

-- ---- lengths

-- what a write puts is short
pub written-short : (h : History) (key : Key) (w : WriteRequest) (c : Changed WriteAnswer) (o : Outcome h key w c) → IfSome (written_for o) IsShortFront
written-short h key w c (Replayed t inside same) = tt
written-short h key w c (Added ts body outside formed is) =
    let v : Version = new_version key ts w.local body in value-short v.body v.local v.ts (is.stored).body
written-short h key w c (Left t body inside formed is) = intent-short h (new_intent key t (intent_of key h) w.local body) is.stored

-- ---- moments

-- the moment after a write is the latest of all that is stored then
pub moment-is : (last : ℕ) (h : History) (key : Key) (w : WriteRequest) (c : Changed WriteAnswer) (o : Outcome h key w c) → IsStoredBy last h
    → greatest last (stored_walls c.history) ≡ moment_by last (written_for o)
moment-is last h key w c (Replayed t inside same) by = ap (λ g. greatest last (stored_walls g)) same ∙ nothing_moves last h by
moment-is last h key w c (Added ts body outside formed is) by =
    ap (λ g. greatest last (stored_walls g)) is.put ∙ version_moves last h (new_version key ts w.local body) by
moment-is last h key w c (Left t body inside formed is) by =
    ap (λ g. greatest last (stored_walls g)) is.put ∙ intent_moves last h (new_intent key t (intent_of key h) w.local body) by

-- ---- statistics

module _ (now : ℕ) (h : History) (key : Key) (valid : IsValid h) (f : Field) where
  -- where a version comes on top
  change-version : (after : History) (v : Version) → IsVersionOnTop key h after v
      → front_change now (top_in h key) (words.Version (version_shape v)) f ≡ stored_change now (fragments h.tombstones) h after f
  change-version after v is =
      let change : Change key h after = VersionOnTop v is in
      front-change now h after key (words.Version (version_shape v)) f valid (change_keeps_valid key h after valid change) (change_leaves_others key h after change).others
      (record { new = v ∷ []; intent_is = ap (option_map intent_shape) (on_top-intent key h after v is); versions_are = on_top-versions key h after v valid is; new_are = refl })

  -- where an intent comes in its place
  change-intent : (after : History) (i : Intent) → IsIntentInPlace key h after i
      → front_change now (top_in h key) (words.Intent (intent_shape i)) f ≡ stored_change now (fragments h.tombstones) h after f
  change-intent after i is =
      let change : Change key h after = IntentInPlace i is in
      front-change now h after key (words.Intent (intent_shape i)) f valid (change_keeps_valid key h after valid change) (change_leaves_others key h after change).others
      (record { new = []; intent_is = ap (option_map intent_shape) (in_place-intent key h after i is); versions_are = in_place-versions key h after i is; new_are = refl })

  -- what a write puts on top changes the statistics of what is stored by what they change by
  pub change-is : (w : WriteRequest) (c : Changed WriteAnswer) (o : Outcome h key w c)
      → change_by now (top_in h key) (written_for o) f ≡ stored_change now (fragments h.tombstones) h c.history f
  change-is w c (Replayed t inside same) =
      sym (ap (λ g. stored_change now (fragments h.tombstones) h g f) same ∙ difference-itself (compute_stats now (stored_pairs h) (fragments h.tombstones)) f)
  change-is w c (Added ts body outside formed is) = change-version c.history (new_version key ts w.local body) is
  change-is w c (Left t body inside formed is) = change-intent c.history (new_intent key t (intent_of key h) w.local body) is
