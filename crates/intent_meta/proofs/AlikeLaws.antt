-- Histories that are alike show every key the same.
use Rattle.std.specs.Prelude.{◌≡◌, List, ◌++◌, map}
use Rattle.std.proofs.Common.{sym, ap, ◌∙◌}
use Rattle.mvcc_key.specs.Lists.{in_order}
use Rattle.mvcc_key.specs.Order.{Key}
use Rattle.mvcc_key.specs.History.{Version, Intent, RangeTombstone, History, with_version, with_intent, without_intent, versions_of, intents_within, intent_of}
use Rattle.mvcc_key.specs.Items.{item_cmp, version_item, tombstone_item, tombstones_over, items}
use Rattle.mvcc_key.specs.Fragments.{fragments, stack_at}
use Rattle.mvcc_key.proofs.StackLaws.{stack_at-fragments}
use Rattle.intent_meta.specs.StoredPairs.{provisional, RecordOf, VersionOf, stored_cmp, stored, stored_pair, stored_pairs}
use Rattle.intent_meta.specs.Alike.{AreAlike}

-- the fragments alone decide the tombstones over each key
pub tombstones_over-alike : (ts us : List RangeTombstone) (key : Key) → fragments ts ≡ fragments us → tombstones_over ts key ≡ tombstones_over us key
tombstones_over-alike ts us key same = sym (stack_at-fragments ts key) ∙ ap (λ fs. stack_at fs key) same ∙ stack_at-fragments us key

module _ {h k : History} (a : AreAlike h k) where
  -- the same versions of each key
  pub versions_of-alike : (key : Key) → versions_of key h ≡ versions_of key k
  versions_of-alike key = ap (λ vs. versions_of key (record h { versions = vs })) a.versions

  -- the same intent of each key
  pub intent_of-alike : (key : Key) → intent_of key h ≡ intent_of key k
  intent_of-alike key = ap (λ is. intent_of key (record h { intents = is })) a.intents

  -- the same intents of each span
  pub intents_within-alike : (start end : Key) → intents_within start end h ≡ intents_within start end k
  intents_within-alike start end = ap (λ is. intents_within start end (record h { intents = is })) a.intents

  -- the same items of each key
  pub items-alike : (key : Key) → items h key ≡ items k key
  unfolding items
  items-alike key =
      λ i. in_order item_cmp (map version_item (versions_of-alike key i)
      ++ map tombstone_item (tombstones_over-alike h.tombstones k.tombstones key a.fragments i))

  -- they are stored as the same pairs
  pub stored-alike : stored h ≡ stored k
  stored-alike =
      λ i. in_order stored_cmp
      (map RecordOf (a.intents i) ++ map (λ j. VersionOf (provisional j)) (a.intents i) ++ map VersionOf (a.versions i))

  -- with the same bytes
  pub stored_pairs-alike : stored_pairs h ≡ stored_pairs k
  unfolding stored_pairs
  stored_pairs-alike = ap (map stored_pair) stored-alike

  -- a version more leaves them alike
  pub with_version-alike : (v : Version) → AreAlike (with_version v h) (with_version v k)
  with_version-alike v = record {
    versions = ap (λ vs. (with_version v (record h { versions = vs })).versions) a.versions;
    intents = a.intents;
    fragments = a.fragments;
  }

  -- so does an intent more
  pub with_intent-alike : (i : Intent) → AreAlike (with_intent i h) (with_intent i k)
  with_intent-alike i = record {
    versions = a.versions;
    intents = ap (λ is. (with_intent i (record h { intents = is })).intents) a.intents;
    fragments = a.fragments;
  }

  -- and an intent less
  pub without_intent-alike : (key : Key) → AreAlike (without_intent key h) (without_intent key k)
  without_intent-alike key = record {
    versions = a.versions;
    intents = ap (λ is. (without_intent key (record h { intents = is })).intents) a.intents;
    fragments = a.fragments;
  }
