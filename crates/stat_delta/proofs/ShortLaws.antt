-- What is stored of a valid history is short enough to be counted.
use Rattle.std.specs.Prelude.{◌≡◌, ◌≤◌, ◌^◌, true, false, Bool, cond, [], length, filter, Option, Some, None, IfSome, option_map}
use Rattle.std.proofs.Common.{arith}
use Rattle.std.proofs.lemmas.List.{length-append}
use Rattle.mvcc_key.specs.Lists.{first}
use Rattle.mvcc_key.specs.Order.{Timestamp, is_no_time, is_same_key}
use Rattle.mvcc_key.specs.History.{Body, kept_local, Version, Intent, History, versions_of, intent_of}
use Rattle.mvcc_key.proofs.EachLaws.{All-passing, first-some}
use Rattle.mvcc_value.specs.Encoding.{plain_bytes, header, header_of, value_bytes}
use Rattle.intent_meta.specs.StoredPairs.{provisional_body}
use Rattle.intent_meta.specs.Valid.{IsStoredBody, IsStoredVersion, IsStoredIntent}
use Rattle.intent_meta.proofs.ReadBackLaws.{length-plain_bytes_le}
use Rattle.intent_meta.proofs.ChangedLaws.{last_body_stored}
use Rattle.stat_delta.specs.Shapes.{version_shape, intent_shape}
use Rattle.stat_delta.specs.Laws.{IsShortVersion, IsShortIntent, TopsAreShort}

-- the bytes of a value that may be stored are at most so many
pub value-short : (body : Body) (local ts : Timestamp) → IsStoredBody body → length (value_bytes body local ts) ≤ 2 ^ 25
unfolding value_bytes
value-short body local ts stored = omega (arith, length-append (header_of (kept_local local ts)) (plain_bytes body), header_short (is_no_time (kept_local local ts)), length-plain_bytes_le body stored)
  where
    header_short : (b : Bool) → length (cond b [] (header (kept_local local ts))) ≤ 17
    header_short true = omega arith
    header_short false = omega arith

-- an intent that may be stored is short
pub intent-short : (h : History) (i : Intent) → IsStoredIntent h i → IsShortIntent (intent_shape i)
intent-short h i stored = record {
  record_length = (let size = stored.size in omega arith);
  provisional = value-short (provisional_body i) i.local i.ts (last_body_stored i.entries stored.entries);
}

-- the newest version of each key and its intent are short
pub tops-short : TopsAreShort
tops-short h key valid = (
  of_intent (intent_of key h) (first-some (λ i. (is_same_key i.key key ≡ true) × IsStoredIntent h i) (filter (λ i. is_same_key i.key key) h.intents)
      (All-passing (IsStoredIntent h) (λ i. is_same_key i.key key) h.intents valid.intents)),
  of_version (first (versions_of key h)) (first-some (λ v. (is_same_key v.key key ≡ true) × IsStoredVersion v) (versions_of key h)
      (All-passing IsStoredVersion (λ v. is_same_key v.key key) h.versions valid.versions)),
)
  where
    of_intent : (o : Option Intent) → IfSome o (λ i. (is_same_key i.key key ≡ true) × IsStoredIntent h i) → IfSome (option_map intent_shape o) IsShortIntent
    of_intent None is = tt
    of_intent (Some i) is = intent-short h i is.1

    of_version : (o : Option Version) → IfSome o (λ v. (is_same_key v.key key ≡ true) × IsStoredVersion v) → IfSome (option_map version_shape o) IsShortVersion
    of_version None is = tt
    of_version (Some v) is = value-short v.body v.local v.ts (is.1).body
