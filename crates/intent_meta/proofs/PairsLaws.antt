-- The pairs whose names pass a test, and the pairs and fragments that a change leaves.
use Rattle.std.proofs.Common.{◌≡◌, Bool, true, List, [], ◌++◌, refl, sym, ap, ◌∙◌}
use Rattle.std.specs.Prelude.{not, map, filter}
use Rattle.std.specs.List.{AllByRecursion}
use Rattle.std.proofs.lemmas.List.Elements.{filter-append}
use Rattle.mvcc_key.specs.Lists.{in_order}
use Rattle.mvcc_key.specs.Order.{no_time, Name}
use Rattle.mvcc_key.specs.History.{version_name, Intent, History}
use Rattle.mvcc_key.specs.Fragments.{fragments}
use Rattle.mvcc_key.proofs.ChangeLaws.{apart-kept}
use Rattle.mvcc_key.proofs.CanonicalLaws.{fragments-canonical}
use Rattle.mvcc_key.proofs.OrderLaws.{name_cmp-IsAntisymmetric}
use Rattle.mvcc_key.proofs.StackLaws.{stack_at-fragments}
use Rattle.mvcc_key.proofs.EachLaws.{All-both, All-every}
use Rattle.mvcc_key.proofs.FilterLaws.{filter-same, filter-all, filter-map}
use Rattle.mvcc_key.proofs.PlaceLaws.{filter-in_order_alike}
use Rattle.intent_meta.specs.StoredPairs.{provisional, Stored, RecordOf, VersionOf, stored_name, stored_cmp, stored, stored_pair, stored_pairs}
use Rattle.intent_meta.specs.LeftAlone.{PairsAreLeft, FragmentsAreLeft, PairsOfKeys}
use Rattle.intent_meta.specs.Within.{PairsAgree}
use Rattle.intent_meta.proofs.StoredLaws.{stored_cmp-total}
use Rattle.intent_meta.proofs.LeftAloneLaws.{leaves-agree}

-- ---- pairs by name

-- the name of an intent's record
abbrev pub record_name : Intent → Name
record_name i = record { key = i.key; ts = no_time }

-- the name of its provisional version
abbrev pub provisional_name : Intent → Name
provisional_name i = record { key = i.key; ts = i.ts }

-- the versions and the intents whose names pass a test
abbrev pub of_names : (Name → Bool) → History → History
of_names test h = record h { versions = filter (λ v. test (version_name v)) h.versions; intents = filter (λ i. test (provisional_name i)) h.intents }

-- the pairs whose names pass a test are those of the versions and the intents whose names do, where an intent's two names pass alike
pub pairs_of_names : (test : Name → Bool) (h : History) → AllByRecursion (λ i. test (record_name i) ≡ test (provisional_name i)) h.intents
    → filter (λ p. test p.name) (stored_pairs h) ≡ stored_pairs (of_names test h)
unfolding stored_pairs
pairs_of_names test h alike =
    filter-map (λ p. test p.name) stored_pair (stored h)
    ∙ ap (map stored_pair) (
    filter-in_order_alike stored_cmp-total passes (λ x y tie. ap test (name_cmp-IsAntisymmetric (stored_name x) (stored_name y) tie)) (records ++ provisionals ++ versions)
    ∙ ap (in_order stored_cmp) (
    filter-append passes (records ++ provisionals) versions
    ∙ ap (λ xs. xs ++ filter passes versions) (filter-append passes records provisionals)
    ∙ λ i. of_records i ++ of_provisionals i ++ of_versions i
    )
    )
  where
    passes : Stored → Bool
    passes x = test (stored_name x)

    records : List Stored
    records = map RecordOf h.intents

    provisionals : List Stored
    provisionals = map (λ i. VersionOf (provisional i)) h.intents

    versions : List Stored
    versions = map VersionOf h.versions

    of_records : filter passes records ≡ map RecordOf (of_names test h).intents
    of_records = filter-map passes RecordOf h.intents ∙ ap (map RecordOf) (filter-same (λ i. test (record_name i)) (λ i. test (provisional_name i)) h.intents alike)

    of_provisionals : filter passes provisionals ≡ map (λ i. VersionOf (provisional i)) (of_names test h).intents
    of_provisionals = filter-map passes (λ i. VersionOf (provisional i)) h.intents

    of_versions : filter passes versions ≡ map VersionOf (of_names test h).versions
    of_versions = filter-map passes VersionOf h.versions

-- where both names of each intent pass, only versions go
pub pairs_of_versions : (test : Name → Bool) (h : History) → AllByRecursion (λ i. test (record_name i) ≡ true) h.intents → AllByRecursion (λ i. test (provisional_name i) ≡ true) h.intents
    → filter (λ p. test p.name) (stored_pairs h) ≡ stored_pairs (record h { versions = filter (λ v. test (version_name v)) h.versions })
pairs_of_versions test h records provisionals =
    pairs_of_names test h
    (All-both (λ i. test (record_name i) ≡ true) (λ i. test (provisional_name i) ≡ true) (λ i. test (record_name i) ≡ test (provisional_name i)) h.intents (λ i a b. a ∙ sym b) records provisionals)
    ∙ ap (λ is. stored_pairs (record h { versions = filter (λ v. test (version_name v)) h.versions; intents = is })) (filter-all (λ i. test (provisional_name i)) h.intents provisionals)

-- ---- what is left

-- the pairs of keys that pass a test are those of their versions and intents
pub pairs_of_keys : PairsOfKeys
pairs_of_keys test h = pairs_of_names (λ n. test n.key) h (All-every (λ i. test i.key ≡ test i.key) h.intents (λ i. refl))

-- histories that agree on some keys have the same pairs of these keys
pub pairs_agree : PairsAgree
unfolding stored_pairs
pairs_agree touched h k a =
    pairs_of_keys touched h
    ∙ (λ i. stored_pairs (record { versions = a.versions i; intents = a.intents i; tombstones = [] }))
    ∙ sym (pairs_of_keys touched k)

-- what leaves the keys that are not touched leaves their pairs
pub pairs_are_left : PairsAreLeft
pairs_are_left touched old new l = pairs_agree (λ key. not (touched key)) new old (leaves-agree touched old new l)

-- what leaves the keys outside a span leaves the fragments that neither overlap it nor abut it
pub fragments_are_left : FragmentsAreLeft
fragments_are_left start end old new l =
    apart-kept start end (fragments new.tombstones) (fragments old.tombstones) (fragments-canonical new.tombstones) (fragments-canonical old.tombstones)
    (λ key out. stack_at-fragments new.tombstones key ∙ l.stacks key out ∙ sym (stack_at-fragments old.tombstones key))
