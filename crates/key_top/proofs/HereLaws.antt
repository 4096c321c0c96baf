-- The top of a key, told by what a cursor lends of it.
use Rattle.std.specs.Prelude.{◌≡◌, ℕ, ◌≤◌, nat_le, Bool, true, false, List, [], ◌∷◌, length, map, Option, Some, None, option_map, ◌==◌, nat_lt}
use Rattle.std.specs.List.{AllByRecursion}
use Rattle.std.specs.declared.cmp.Ordering.TheVariants.{Less, Equal, Greater}
use Rattle.std.specs.Ordering.{is_le, ordering_then}
use Rattle.std.proofs.Common.{refl, sym, ap, ◌∙◌, arith, cond}
use Rattle.std.proofs.lemmas.Bool.{and_parts}
use Rattle.std.proofs.lemmas.Bool.Decides.{nat_tests}
use Rattle.mvcc_key.specs.Lists.{first}
use Rattle.mvcc_key.specs.Fragments.{stack_at}
use Rattle.mvcc_key.specs.Order.{Key, Timestamp, max_wall, max_logical, is_in_range, is_up_to, is_same_key}
use Rattle.mvcc_key.specs.History.{Version, Intent, History}
use Rattle.mvcc_key.specs.Items.{version_item, newest_at}
use Rattle.mvcc_key.proofs.EachLaws.{All-filter, All-weaker}
use Rattle.intent_meta.specs.Record.{IntentRecord}
use Rattle.intent_meta.specs.StoredPairs.{intent_record}
use Rattle.intent_meta.specs.Valid.{IsStoredVersion, IsValid}
use Rattle.intent_meta.specs.views.Lent.{LentItem, lent_item}
use Rattle.intent_meta.proofs.StoredTimeLaws.{stored_in_range}
use Rattle.stat_core.specs.DeadSince.{VersionShape}
use Rattle.stat_delta.specs.Shapes.{IntentShape, version_shape, intent_shape, shape_of_record}
use Rattle.stat_delta.proofs.RecordShapeLaws.{intent_shape-is}
use Rattle.lsm_store.specs.Shown.{fragments_in}
use Rattle.mvcc_cursor.specs.Standing.{Place, BeforeFirst, AtKey, PastLast, Standing, committed, committed_at, told, told_at, stack_here, stack_over}
use Rattle.mvcc_cursor.specs.WellFormed.{IsWellFormed, history_in}
use Rattle.key_top.specs.Top.{top_in}

-- the greatest timestamp
abbrev pub last_time : Timestamp
last_time = record { wall = max_wall; logical = max_logical }

-- numbers that are not above two others stand up to them, the first deciding
up_to_both : (a b m n : ℕ) → a ≤ m → b ≤ n → is_up_to (record { wall = a; logical = b }) (record { wall = m; logical = n }) ≡ true
up_to_both a b m n low low' = by (nat_lt a m) (a == m) (nat_lt b n) (b == n) refl refl refl refl
  where
    by : (p q r s : Bool) → nat_lt a m ≡ p → (a == m) ≡ q → nat_lt b n ≡ r → (b == n) ≡ s
        → is_le (ordering_then (cond p Less (cond q Equal Greater)) (cond r Less (cond s Equal Greater))) ≡ true
    by true q r s e f g h = refl
    by false true true s e f g h = refl
    by false true false true e f g h = refl
    by false true false false e f g h = absurd (grind (arith, nat_tests))
    by false false r s e f g h = absurd (grind (arith, nat_tests))

-- a timestamp in range stands up to the greatest
in_range-last : (t : Timestamp) → is_in_range t ≡ true → is_up_to t last_time ≡ true
in_range-last t fits =
    let parts = and_parts (nat_le t.wall max_wall) (nat_le t.logical max_logical) fits in
    let low : t.wall ≤ max_wall = grind (arith, nat_tests, parts.0) in
    let low' : t.logical ≤ max_logical = grind (arith, nat_tests, parts.1) in
    up_to_both t.wall t.logical max_wall max_logical low low'

-- the timestamps of versions are in range
abbrev AreInRange : List Version → Type 0
AreInRange = AllByRecursion (λ v. is_in_range v.ts ≡ true)

-- so are those of a key of a valid history
pub committed-in_range : (h : History) (at : Place) → IsValid h → AreInRange (committed_at at h)
committed-in_range h BeforeFirst valid = tt
committed-in_range h (AtKey key) valid =
    All-filter (λ v. is_in_range v.ts ≡ true) (λ v. is_same_key v.key key) h.versions (All-weaker IsStoredVersion (λ v. is_in_range v.ts ≡ true) h.versions (λ v s. stored_in_range v.ts s.ts) valid.versions)
committed-in_range h PastLast valid = tt

-- the newest of versions is the first
latest-first : (vs : List Version) → AreInRange vs → newest_at last_time (map version_item vs) ≡ option_map version_item (first vs)
latest-first [] fits = refl
latest-first (v ∷ vs) fits = ap (λ b. cond b (Some (version_item v)) (newest_at last_time (map version_item vs))) (in_range-last v.ts fits.0)

module _ (ts : Timestamp) (is : ts ≡ last_time) (vs : List Version) (fits : AreInRange vs) where
  same : option_map lent_item (newest_at ts (map version_item vs)) ≡ option_map (λ v. lent_item (version_item v)) (first vs)
  same = ap (λ t. option_map lent_item (newest_at t (map version_item vs))) is ∙ ap (option_map lent_item) (latest-first vs fits) ∙ by (first vs)
    where
      by : (o : Option Version) → option_map lent_item (option_map version_item o) ≡ option_map (λ v. lent_item (version_item v)) o
      by None = refl
      by (Some v) = refl

  -- what the statistics see of the version that is lent
  pub some-shape : (item : LentItem) (shape : VersionShape) → Some item ≡ option_map lent_item (newest_at ts (map version_item vs)) → ((v : Version) → item ≡ lent_item (version_item v) → shape ≡ version_shape v)
      → Some shape ≡ option_map version_shape (first vs)
  some-shape item shape e tells = by (first vs) (e ∙ same)
    where
      by : (o : Option Version) → Some item ≡ option_map (λ v. lent_item (version_item v)) o → Some shape ≡ option_map version_shape o
      by None p = absurd cc
      by (Some v) p = let here : item ≡ lent_item (version_item v) = cc in ap (λ (s : VersionShape). Some s) (tells v here)

  -- where none is lent there is none
  pub none-shape : None ≡ option_map lent_item (newest_at ts (map version_item vs)) → None ≡ option_map version_shape (first vs)
  none-shape e = by (first vs) (e ∙ same)
    where
      by : (o : Option Version) → None ≡ option_map (λ v. lent_item (version_item v)) o → None ≡ option_map version_shape o
      by None p = refl
      by (Some v) p = absurd cc

-- what the statistics see of the intent whose record is lent
pub head-shape : (r : IntentRecord) (shape : IntentShape) (i : Option Intent) → shape ≡ shape_of_record r → Some r ≡ option_map intent_record i → Some shape ≡ option_map intent_shape i
head-shape r shape None is e = absurd cc
head-shape r shape (Some i) is e =
    let here : r ≡ intent_record i = cc in
    ap (λ (s : IntentShape). Some s) (is ∙ ap shape_of_record here ∙ sym (intent_shape-is i))

-- where no record is lent there is no intent
pub no_head : (i : Option Intent) → None ≡ option_map intent_record i → None ≡ option_map intent_shape i
no_head None e = refl
no_head (Some i) e = absurd cc

-- what a cursor at a key tells of its intent, its newest version and its tombstones is the top of the key in the store's history
pub top-at : (s : Standing) (key : Key) → s.at ≡ AtKey key → IsWellFormed (history_in s.store) s.store
    → (n : ℕ) (intent : Option IntentShape) (newest : Option VersionShape) (stack : List Timestamp)
    → n ≡ length key → intent ≡ option_map intent_shape (told s).intent → newest ≡ option_map version_shape (first (committed s)) → stack ≡ stack_here s
    → record { key_length = n; intent = intent; newest = newest; stack = stack } ≡ top_in (history_in s.store) key
top-at s key at formed n intent newest stack lengths intents newests stacks =
    let h = history_in s.store in
    let same_intents = intents ∙ ap (λ p. option_map intent_shape (told_at p h).intent) at in
    let same_newest = newests ∙ ap (λ p. option_map version_shape (first (committed_at p h))) at in
    let same_stacks = stacks ∙ ap (λ p. stack_over p (fragments_in s.store)) at ∙ ap (λ fs. stack_at fs key) formed.fragments in
    λ j. record { key_length = lengths j; intent = same_intents j; newest = same_newest j; stack = same_stacks j }
