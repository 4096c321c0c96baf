-- What changes one key leaves all others.
use Rattle.std.specs.Prelude.{◌≡◌, false, not, option_to_list, Bool, true}
use Rattle.std.proofs.Common.{refl, sym, ap, subst, ◌∙◌}
use Rattle.mvcc_key.specs.Order.{Key, is_same_key}
use Rattle.mvcc_key.specs.History.{Version, version_name, version_cmp, Intent, intent_cmp, History, with_version, with_intent, without_intent}
use Rattle.mvcc_key.specs.Items.{tombstones_over}
use Rattle.mvcc_key.proofs.OrderLaws.{key_cmp-IsAntisymmetric, name_cmp-key}
use Rattle.mvcc_key.proofs.SortedLaws.{filter-put_in_order_other}
use Rattle.mvcc_key.proofs.FilterLaws.{filter-follows}
use Rattle.mvcc_key.proofs.SameKeyLaws.{differs_back}
use Rattle.mvcc_key.proofs.ByKeyLaws.{same_by_keys, same_others}
use Rattle.mvcc_key.proofs.HistoryLaws.{version_cmp-total, intent_cmp-total}
use Rattle.mvcc_key.proofs.FragmentLaws.{same_key}
use Rattle.mvcc_key.proofs.StackLaws.{same_key_is}
use Rattle.intent_meta.specs.LeftAlone.{LeavesKey, AgreeAt, LeavesOtherKeys, ChangesOnly, ChangesOnlyLeaves, OtherKeyIsLeft, OtherKeysTell, KeysTell, LeavesOthers}
use Rattle.intent_meta.proofs.LeftAloneLaws.{others_are_each, leaves-fewer}
use Rattle.intent_meta.proofs.KeyPairsLaws.{intents_are}

-- ---- one version or one intent

-- a test that fails at a key fails at each that ties with it
other_key : (a b : Key) → a ≡ b → not (is_same_key b a) ≡ false
other_key a b same = subst (λ k. not (is_same_key k a) ≡ false) same (ap not (same_key a))

-- a version of a key leaves the others
pub with_version-changes_only : (v : Version) (h : History) → ChangesOnly v.key h (with_version v h)
with_version-changes_only v h = record {
  others = record {
    versions =
        filter-put_in_order_other version_cmp (λ w. not (is_same_key w.key v.key)) v h.versions (other_key v.key v.key refl)
        (λ w tie. other_key v.key w.key (name_cmp-key (version_name v) (version_name w) tie));
    intents = refl;
  };
  tombstones = refl;
}

-- so does an intent of it
pub with_intent-changes_only : (i : Intent) (h : History) → ChangesOnly i.key h (with_intent i h)
with_intent-changes_only i h = record {
  others = record {
    versions = refl;
    intents =
        filter-put_in_order_other intent_cmp (λ j. not (is_same_key j.key i.key)) i h.intents (other_key i.key i.key refl)
        (λ j tie. other_key i.key j.key (key_cmp-IsAntisymmetric i.key j.key tie));
  };
  tombstones = refl;
}

-- and an intent that goes
pub without_intent-changes_only : (key : Key) (h : History) → ChangesOnly key h (without_intent key h)
without_intent-changes_only key h = record {
  others = record {
    versions = refl;
    intents = filter-follows (λ i. not (is_same_key i.key key)) (λ i. not (is_same_key i.key key)) h.intents (λ i other. other);
  };
  tombstones = refl;
}

-- nothing changes nothing
pub nothing-changes_only : (key : Key) (h : History) → ChangesOnly key h h
nothing-changes_only key h = record { others = record { versions = refl; intents = refl }; tombstones = refl }

-- ---- one change after another

-- what two changes leave of the other keys
pub other_keys-then : (key : Key) (first second third : History) → LeavesOtherKeys key first second → LeavesOtherKeys key second third → LeavesOtherKeys key first third
other_keys-then key first second third a b = record { versions = b.versions ∙ a.versions; intents = b.intents ∙ a.intents }

-- two changes of one key change this key only
pub changes_only-then : (key : Key) (first second third : History) → ChangesOnly key first second → ChangesOnly key second third → ChangesOnly key first third
changes_only-then key first second third a b = record { others = other_keys-then key first second third a.others b.others; tombstones = b.tombstones ∙ a.tombstones }

-- ---- keys

-- what changes one key only leaves all keys but this one
pub changes_only_leaves : ChangesOnlyLeaves
changes_only_leaves key old new c = record {
  versions = c.others.versions;
  intents = c.others.intents;
  stacks = λ other free. ap (λ ts. tombstones_over ts other) c.tombstones;
}

-- so it leaves the keys that are not touched, where this one is
pub changes_only-leaves_others : (touched : Key → Bool) (key : Key) (old new : History) → touched key ≡ true → ChangesOnly key old new → LeavesOthers touched old new
changes_only-leaves_others touched key old new here c =
    leaves-fewer (λ other. is_same_key other key) touched old new (λ other same. subst (λ k. touched k ≡ true) (sym (same_key_is other key same)) here) (changes_only_leaves key old new c)

-- so it leaves each other key
pub other_key_is_left : OtherKeyIsLeft
other_key_is_left key other old new c apart = others_are_each (λ k. is_same_key k key) old new other (changes_only_leaves key old new c) (differs_back key other apart)

-- histories agree at a key that is left
pub left-agrees : (key : Key) (old new : History) → LeavesKey key old new → AgreeAt key new old
left-agrees key old new l = record { versions = l.versions; intent = l.intent }

-- so they do at each other key where one changes
pub changes_only-agrees : (key other : Key) (old new : History) → ChangesOnly key old new → is_same_key key other ≡ false → AgreeAt other new old
changes_only-agrees key other old new c apart = left-agrees other old new (other_key_is_left key other old new c apart)

-- what agrees with what agrees
pub agree_along : (key : Key) (f g h : History) → AgreeAt key f g → AgreeAt key g h → AgreeAt key f h
agree_along key f g h a b = record { versions = a.versions ∙ b.versions; intent = a.intent ∙ b.intent }

-- the other way round
pub agree_back : (key : Key) (g h : History) → AgreeAt key g h → AgreeAt key h g
agree_back key g h a = record { versions = sym a.versions; intent = sym a.intent }

-- ---- what the keys tell

-- valid histories that agree at each other key have the same versions and intents of the other keys
pub other_keys_tell : OtherKeysTell
other_keys_tell key old new valid valid' agree = record {
  versions = same_others (λ v. v.key) version_cmp-total key new.versions old.versions valid'.versions_in_order valid.versions_in_order (λ k other. (agree k other).versions);
  intents = same_others (λ i. i.key) intent_cmp-total key new.intents old.intents valid'.intents_in_order valid.intents_in_order
      (λ k other. intents_are new k valid' ∙ ap option_to_list (agree k other).intent ∙ sym (intents_are old k valid));
}

-- valid histories that agree at every key and have the same tombstones are one
pub keys_tell : KeysTell
keys_tell g h valid valid' agree tombstones =
    let versions : g.versions ≡ h.versions = same_by_keys (λ v. v.key) version_cmp-total g.versions h.versions valid.versions_in_order valid'.versions_in_order (λ key. (agree key).versions) in
    let intents : g.intents ≡ h.intents =
    same_by_keys (λ i. i.key) intent_cmp-total g.intents h.intents valid.intents_in_order valid'.intents_in_order
    (λ key. intents_are g key valid ∙ ap option_to_list (agree key).intent ∙ sym (intents_are h key valid')) in
    λ i. record { versions = versions i; intents = intents i; tombstones = tombstones i }
