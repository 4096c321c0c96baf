-- What a decision says of a read outside transactions.
use Rattle.std.specs.Prelude.{◌≡◌, ℕ, Bool, true, false, List, [], ◌∷◌, find, Option, Some, None, Result, Ok, Err, IsOk}
use Rattle.std.specs.Option.{option_map}
use Rattle.std.proofs.lemmas.Grind.{common_steps}
use Rattle.std.proofs.Common.{arith, rules, refl, sym, ap, ap₂, ◌∙◌, subst, cond}
use Rattle.mvcc_key.specs.Steps.{◌>>=◌}
use Rattle.mvcc_key.specs.Order.{Key, Timestamp, no_time, is_up_to}
use Rattle.mvcc_key.specs.History.{Body, Deletion, Bytes, Int, Intent, History, intent_of}
use Rattle.mvcc_key.specs.Items.{Item, items, newest_at}
use Rattle.mvcc_key.specs.Refusal.{IntentSeen, seen, Refusal, Conflict}
use Rattle.mvcc_key.proofs.HistoryLaws.{intent_of-key}
use Rattle.mvcc_value.specs.Found.{Found}
use Rattle.intent_meta.specs.KeyHistory.{KeyHistory, key_history}
use Rattle.read_rule.specs.Read.{ReadRequest, Row, row_of, Decision, item_row, is_more_recent, is_conflict, past_uncertain, past_more_recent, past_any_intent, by_items, decision, decide, listed_of, listed, GetAnswer, get}
use Rattle.read_rule.specs.views.Decided.{IsDecision}
use Rattle.read_rule.specs.declared.decision.Decision.{Decision as Decided}
use Rattle.read_rule.specs.declared.decision.Decision.TheVariants as decided_as
use Rattle.read_rule.proofs.AnswerLaws.{none_unsure}
use Rattle.mvcc_cursor.specs.Standing.{sought_key}
use Rattle.mvcc_cursor.specs.KeyHistory.{HasAlike}
use Rattle.mvcc_value.specs.views.Seen.{found_of}
use Rattle.mvcc_value.specs.declared.value.Found.{Found as Known}
use Rattle.write_rule.specs.views.Seen.{Tells}
use Rattle.mvcc_engine.specs.declared.refusal.Refusal.{Refusal as Why}
use Rattle.mvcc_engine.specs.views.Seen.{AnswersGet, AnswersRead, IsReadable, refusal_of}
use Rattle.mvcc_engine.specs.Step.{State, Get, Got, answered, step, read_at}

-- no timestamp is below none
none-first : (wall logical : ℕ) → is_up_to no_time (record { wall = wall; logical = logical }) ≡ true
none-first wall logical = grind (arith, common_steps)

-- a plain read fails on no more recent item
none-recent : (ts : Timestamp) (is : List Item) → find (is_more_recent (read_at ts)) is ≡ None
none-recent ts [] = refl
none-recent ts (i ∷ is) = none-recent ts is

-- so the newest item at or below decides, behind the intent
by_newest : (ts : Timestamp) (key : Key) (is : List Item) → by_items key (read_at ts) is ≡ item_row key (newest_at ts is)
by_newest ts key is =
    ap₂ (λ m u. past_more_recent m (past_uncertain u (item_row key (newest_at ts is))))
    (none-recent ts is) (none_unsure (read_at ts) is (none-first ts.wall ts.logical))

abbrev decided : Timestamp → Key → Option Intent → List Item → Decision
decided ts key intent is = past_any_intent (read_at ts) intent (item_row key (newest_at ts is))

decision-is : (ts : Timestamp) (k : KeyHistory) → decision (read_at ts) k ≡ decided ts k.key k.intent k.items
decision-is ts k = ap (past_any_intent (read_at ts) k.intent) (by_newest ts k.key k.items)

-- ---- another key with the same items

-- a decision, told with another key
abbrev rekeyed : Key → Decision → Decision
rekeyed key (Ok None) = Ok None
rekeyed key (Ok (Some row)) = Ok (row_of key (row.found).body (row.found).ts row.stored)
rekeyed key (Err why) = Err why

row-rekeyed : (a b : Key) (body : Body) (ts : Timestamp) (stored : ℕ) → Ok (row_of b body ts stored) ≡ rekeyed b (Ok (row_of a body ts stored))
row-rekeyed a b Deletion ts stored = refl
row-rekeyed a b (Bytes bytes) ts stored = refl
row-rekeyed a b (Int number) ts stored = refl

item-rekeyed : (a b : Key) (o : Option Item) → item_row b o ≡ rekeyed b (item_row a o)
item-rekeyed a b None = refl
item-rekeyed a b (Some i) = row-rekeyed a b i.body i.ts _

decided-rekeyed : (ts : Timestamp) (a b : Key) (intent : Option Intent) (is : List Item) → decided ts b intent is ≡ rekeyed b (decided ts a intent is)
decided-rekeyed ts a b None is = item-rekeyed a b (newest_at ts is)
decided-rekeyed ts a b (Some i) is = by (is_conflict (read_at ts) i)
  where
    by : (c : Bool) → cond c (Err (Conflict (seen i ∷ []))) (item_row b (newest_at ts is)) ≡ rekeyed b (cond c (Err (Conflict (seen i ∷ []))) (item_row a (newest_at ts is)))
    by true = refl
    by false = item-rekeyed a b (newest_at ts is)

-- ---- a refusal

item-taken : (key : Key) (o : Option Item) (why : Refusal) → item_row key o ≡ Err why → ⊥
item-taken key None why e = absurd cc
item-taken key (Some i) why e = absurd cc

-- only an intent refuses
refused-by : (ts : Timestamp) (key : Key) (intent : Option Intent) (is : List Item) (why : Refusal) → decided ts key intent is ≡ Err why → (i : Intent) × ((intent ≡ Some i) × (why ≡ Conflict (seen i ∷ [])))
refused-by ts key None is why e = absurd (item-taken key (newest_at ts is) why e)
refused-by ts key (Some i) is why e = by (is_conflict (read_at ts) i) e
  where
    by : (c : Bool) → cond c (Err (Conflict (seen i ∷ []))) (item_row key (newest_at ts is)) ≡ Err why → (j : Intent) × ((Some i ≡ Some j) × (why ≡ Conflict (seen j ∷ [])))
    by true f = (i, (refl, cc))
    by false f = absurd (item-taken key (newest_at ts is) why f)

-- ---- a get

none-listed : (ts : Timestamp) (i : Option Intent) → listed_of (read_at ts) i ≡ []
none-listed ts None = refl
none-listed ts (Some i) = refl

-- a decision as the answer of a get
abbrev as_get : Decision → Result GetAnswer Refusal
as_get d = d >>= (λ found. Ok (record { found = option_map (λ row. row.found) found; intents = [] }))

get-decided : (h : History) (ts : Timestamp) (key : Key) → get h (read_at ts) key ≡ as_get (decision (read_at ts) (key_history key h))
unfolding get decide listed
get-decided h ts key =
    ap (λ l. decision (read_at ts) (key_history key h) >>= (λ found. Ok (record { found = option_map (λ row. row.found) found; intents = l }))) (none-listed ts (intent_of key h))

same-found : (key : Key) (body : Body) (ts : Timestamp) (n m : ℕ) → option_map (λ row. row.found) (row_of key body ts n) ≡ option_map (λ row. row.found) (row_of key body ts m)
same-found key Deletion ts n m = refl
same-found key (Bytes bytes) ts n m = refl
same-found key (Int number) ts n m = refl

module _ (h : History) (key : Key) (ts : Timestamp) (alike : HasAlike h (sought_key key) key) where
  -- the decision about the first bytes of the key is that about the key
  get-rekeyed : get h (read_at ts) key ≡ as_get (rekeyed key (decision (read_at ts) (key_history (sought_key key) h)))
  get-rekeyed =
      get-decided h ts key
      ∙ ap as_get
      (decision-is ts (key_history key h)
      ∙ decided-rekeyed ts (sought_key key) key (intent_of key h) (items h key)
      ∙ ap (rekeyed key) (ap₂ (decided ts (sought_key key)) (sym alike.intent) (sym alike.items) ∙ sym (decision-is ts (key_history (sought_key key) h))))

  pub get-nothing : decision (read_at ts) (key_history (sought_key key) h) ≡ Ok None → get h (read_at ts) key ≡ Ok (record { found = None; intents = [] })
  get-nothing e = get-rekeyed ∙ ap (λ d. as_get (rekeyed key d)) e

  pub get-row : (row : Row) (found : Option Found) (at : Timestamp) → decision (read_at ts) (key_history (sought_key key) h) ≡ Ok (Some row) → (row.found).ts ≡ at
      → found ≡ option_map (λ r. r.found) (row_of key (row.found).body at 0) → get h (read_at ts) key ≡ Ok (record { found = found; intents = [] })
  get-row row found at e at_is is =
      get-rekeyed ∙ ap (λ d. as_get (rekeyed key d)) e
      ∙ ap (λ f. Ok (record { found = f; intents = [] })) (same-found key (row.found).body (row.found).ts row.stored 0 ∙ ap (λ t. option_map (λ r. r.found) (row_of key (row.found).body t 0)) at_is ∙ sym is)

  -- what refuses it is an intent of the key
  refused : (why : Refusal) → decision (read_at ts) (key_history (sought_key key) h) ≡ Err why → (i : Intent) × ((i.key ≡ key) × (why ≡ Conflict (seen i ∷ [])))
  refused why e =
      let found = refused-by ts (sought_key key) (intent_of (sought_key key) h) (items h (sought_key key)) why (sym (decision-is ts (key_history (sought_key key) h)) ∙ e) in
      (found.0, (intent_of-key key h found.0 (sym alike.intent ∙ found.1.0), found.1.1))

  pub get-conflict : (s : IntentSeen) → decision (read_at ts) (key_history (sought_key key) h) ≡ Err (Conflict (s ∷ [])) → get h (read_at ts) key ≡ Err (Conflict (record { key = key; id = s.id; ts = s.ts } ∷ []))
  get-conflict s e =
      let by = refused (Conflict (s ∷ [])) e in
      let same : s ≡ seen by.0 = cc (by.1.1) in
      let of_key : s.key ≡ key = ap (λ t. t.key) same ∙ by.1.0 in
      get-rekeyed ∙ ap (λ d. as_get (rekeyed key d)) e ∙ ap (λ k. Err (Conflict (record { key = k; id = s.id; ts = s.ts } ∷ []))) of_key

  -- nothing else does
  pub only-conflict : (why : Refusal) → ((s : IntentSeen) → why ≡ Conflict (s ∷ []) → ⊥) → decision (read_at ts) (key_history (sought_key key) h) ≡ Err why → ⊥
  only-conflict why other e = let by = refused why e in other (seen by.0) by.1.1

-- a get is answered as its step says
pub get-steps : (result : Result (Option Known) Why) (s : State) (key : Key) (ts : Timestamp) → AnswersGet result s.history key ts → AnswersRead result (λ found. Got (option_map found_of found)) s (step s (Get key ts))
unfolding step
get-steps (Ok found) s key ts told = ap (answered s (λ a. Got a.found)) told
get-steps (Err why) s key ts told = by (refusal_of why) told
  where
    by : (o : Option Refusal) → Tells o (get s.history (read_at ts) key) → Tells o (answered s (λ a. Got a.found) (get s.history (read_at ts) key))
    by None t = tt
    by (Some r) t = ap (answered s (λ a. Got a.found)) t

-- a value that was decided can be read
pub decided-readable : (r : ReadRequest) (k : KeyHistory) (d : Decided) → IsDecision r k d → IsReadable d
decided-readable r k (decided_as.Value bytes ts) f = subst IsOk (sym f.read) (search rules)
decided-readable r k decided_as.Nothing f = tt
decided-readable r k (decided_as.Conflict id ts) f = tt
decided-readable r k (decided_as.Uncertain ts local) f = tt
decided-readable r k (decided_as.TooOld ts) f = tt
decided-readable r k (decided_as.EpochFault own other) f = tt
