-- What is left of an intent may be stored, and a refusal of its resolution is that of its key.
use Rattle.std.specs.Prelude.{◌≡◌, true, false, Option, Some, None, Err, IsTrue}
use Rattle.std.proofs.Common.{sym, subst}
use Rattle.mvcc_key.specs.Order.{Key, is_no_time, is_in_range}
use Rattle.mvcc_key.specs.History.{Intent, History, intent_of}
use Rattle.mvcc_key.specs.Refusal.{Refusal}
use Rattle.mvcc_key.proofs.HistoryLaws.{intent_of-key}
use Rattle.mvcc_key.proofs.TimeLaws.{up_to_timed}
use Rattle.intent_meta.specs.StoredPairs.{provisional_body}
use Rattle.intent_meta.specs.Valid.{IsValid}
use Rattle.intent_meta.proofs.ChangedLaws.{intent_of-stored, last_body_stored}
use Rattle.intent_meta.proofs.ReadBackLaws.{stored_timed}
use Rattle.write_rule.specs.views.Seen.{Tells}
use Rattle.write_rule.proofs.OpsLaws.{value_short}
use Rattle.intent_resolve.specs.Resolve.{Update, Resolution, Gone, Stays, Becomes, resolution, is_of, resolve}
use Rattle.intent_resolve.specs.Resolved.{FitsIntent, IsStoredResolution}
use Rattle.intent_resolve.specs.views.Left as left
use Rattle.intent_resolve.specs.views.Left.{IsRuled, IsStorableLeft, left_by}
use Rattle.intent_resolve.specs.views.Seen.{refusal_of}
use Rattle.intent_resolve.specs.declared.fault.ResolveFault.{ResolveFault}
use Rattle.intent_resolve.proofs.FormLaws.{resolution_fits, resolution_stored}
use Rattle.intent_resolve.proofs.ResolveLaws.{resolve-refused}

-- what a resolution leaves may be stored in the place of the intent
by_storable : (h : History) (i : Intent) (r : Resolution) → is_no_time i.ts ≡ false → FitsIntent i r → IsStoredResolution h r → IsStorableLeft i.ts (left_by r)
by_storable h i Gone timed fits stored = tt
by_storable h i (Stays n) timed fits stored =
    (stored.size, record { some = up_to_timed i.ts n.ts fits.no_lower timed; up = fits.no_lower; short = value_short (provisional_body n) n.local n.ts (last_body_stored n.entries stored.entries) })
by_storable h i (Becomes v) timed fits stored = record { some = up_to_timed i.ts v.ts fits.no_lower timed; up = fits.no_lower; short = value_short v.body v.local v.ts stored.body }

-- so may what the rule leaves of the intent of a key
pub left-storable : (h : History) (key : Key) (u : Update) (i : Intent) (l : left.Left) → IsValid h → intent_of key h ≡ Some i → IsTrue (is_in_range u.ts) → IsRuled (resolution u.status u i) l
    → IsStorableLeft i.ts l
left-storable h key u i l valid was range ruled =
    let stored = intent_of-stored key h i valid was in
    subst (IsStorableLeft i.ts) (sym ruled.left_is)
    (by_storable h i ruled.resolution_is (stored_timed i.ts stored.ts) (resolution_fits u i ruled.resolution_is ruled.resolves) (resolution_stored u h i ruled.resolution_is stored range ruled.resolves))

-- a refused resolution of the intent of a key refuses that of the key
pub refused-here : (h : History) (key : Key) (u : Update) (i : Intent) (why : ResolveFault) → intent_of key h ≡ Some i → is_of u i ≡ true → Tells (refusal_of why) (resolution u.status u i) → Tells (refusal_of why) (resolve h key u)
refused-here h key u i why was own e = by (refusal_of why) e
  where
    by : (o : Option Refusal) → Tells o (resolution u.status u i) → Tells o (resolve h key u)
    by None p = tt
    by (Some r) p =
        let same : i.key ≡ key = intent_of-key key h i was in
        let there : intent_of i.key h ≡ Some i = subst (λ (k : Key). intent_of k h ≡ Some i) (sym same) was in
        subst (λ (k : Key). resolve h k u ≡ Err r) same (resolve-refused h u i r there own p)
