-- What the parts of a decision say.
use Rattle.std.specs.Prelude.{◌≡◌, ℕ, Bool, false, List, [], ◌∷◌, Option, Some, None, Err}
use Rattle.mvcc_key.specs.History.{Body, Entry, Intent}
use Rattle.mvcc_key.specs.Refusal as refusal
use Rattle.mvcc_key.specs.views.Seen.{time_of}
use Rattle.mvcc_key.specs.Items.{newest_at}
use Rattle.intent_meta.specs.KeyHistory.{KeyHistory}
use Rattle.txn_state.specs.Transaction.{read_time}
use Rattle.txn_state.specs.views.SeenId.{id_of}
use Rattle.read_rule.specs.Read.{ReadRequest, Decision, past_any_intent, own_entry, entry_row, item_row, lists, decision}
use Rattle.read_rule.specs.declared.by_intent.ByIntent.{ByIntent}
use Rattle.read_rule.specs.declared.by_intent.ByIntent.TheVariants as code

-- it neither refuses nor answers
pub record IsPassed (r : ReadRequest) (intent : Option Intent) (listed : Bool) : Type 0 where
  pub past : (others : Decision) → past_any_intent r intent others ≡ others
  pub no_entry : own_entry r intent ≡ None
  pub listed_is : listed ≡ lists r intent

-- it refuses
pub record IsRefused (r : ReadRequest) (intent : Option Intent) (why : refusal.Refusal) : Type 0 where
  pub answer : (others : Decision) → past_any_intent r intent others ≡ Err why
  pub unlisted : lists r intent ≡ false

-- an own entry answers
pub record IsOwn (r : ReadRequest) (intent : Option Intent) : Type 0 where
  pub head : Intent
  pub entry : Entry Body
  pub intent_is : intent ≡ Some head
  pub entry_is : own_entry r intent ≡ Some entry
  pub answer : (others : Decision) → past_any_intent r intent others ≡ entry_row head (Some entry) others
  pub unlisted : lists r intent ≡ false

-- what the key's intent alone says of a read; of a refusal it is told with the key
abbrev pub DecidesByIntent : ByIntent → ReadRequest → List ℕ → Option Intent → Type 0
DecidesByIntent (code.Passed listed) r key intent = IsPassed r intent listed
DecidesByIntent code.Own r key intent = IsOwn r intent
DecidesByIntent (code.Conflict id ts) r key intent = IsRefused r intent (refusal.Conflict (record { key = key; id = id_of id; ts = time_of ts } ∷ []))
DecidesByIntent (code.EpochFault own other) r key intent = IsRefused r intent (refusal.EpochFault own other)

-- the newest item at or below the read timestamp answers
pub record IsByItem (r : ReadRequest) (k : KeyHistory) : Type 0 where
  pub no_entry : own_entry r k.intent ≡ None
  pub answer : decision r k ≡ item_row k.key (newest_at (read_time r.who) k.items)
