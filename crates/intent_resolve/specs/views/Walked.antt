-- How contracts see a walk over a transaction's intents.
use Rattle.std.specs.Prelude.{◌≡◌, ℕ, Bool, true, false, is_some, nat_lt, Option, Some, None, List, []}
use Rattle.mvcc_key.specs.Lists.{first}
use Rattle.mvcc_key.specs.Order.{Key, is_below}
use Rattle.mvcc_key.specs.History.{Intent, History}
use Rattle.mvcc_key.specs.Spans.{Span}
use Rattle.mvcc_cursor.specs.Standing.{Standing, Place, BeforeFirst, AtKey, PastLast, anew, here, told}
use Rattle.mvcc_cursor.specs.WellFormed.{history_in}
use Rattle.intent_resolve.specs.Resolve.{Update, of_update}
use Rattle.intent_resolve.specs.Resolved.{own_intents}

-- the transaction's intents from the place on, up to end
abbrev pub own_from : Update → Place → Key → History → List Intent
own_from u BeforeFirst end h = own_intents u [] end h
own_from u (AtKey key) end h = own_intents u key end h
own_from u PastLast end h = []

-- it stands past the last key, or at a stored one, and has given no version
abbrev pub is_past_last : Place → Bool
is_past_last BeforeFirst = false
is_past_last (AtKey key) = false
is_past_last PastLast = true

pub record StandsStored (s : Standing) : Type 0 where
  pub fresh : s ≡ anew s
  pub there : is_past_last s.at ≡ false → is_some (first (here s)) ≡ true

-- it stands at a stored key below end with an intent of the transaction
pub record StandsAtOwn (u : Update) (end : Key) (s : Standing) : Type 0 where
  pub key : Key
  pub at_key : s.at ≡ AtKey key
  pub own : is_some (of_update u (told s).intent) ≡ true
  pub below : is_below key end ≡ true

-- it has come to the next of the transaction's intents, or there is none
pub record HasCome (u : Update) (end : Key) (old new : Standing) (found : Bool) : Type 0 where
  pub over : new.store ≡ old.store
  pub stands : StandsStored new
  pub left : own_from u new.at end (history_in old.store) ≡ own_from u old.at end (history_in old.store)
  pub at_own : found ≡ true → StandsAtOwn u end new
  pub none : found ≡ false → own_from u old.at end (history_in old.store) ≡ []

-- one more may be handled
abbrev pub is_room : Option ℕ → ℕ → Bool
is_room None count = true
is_room (Some max) count = nat_lt count max

-- there is a key, and it is below end
abbrev pub is_key_below : Key → Option Key → Bool
is_key_below end None = false
is_key_below end (Some key) = is_below key end

-- the span from the key on, where one was found
abbrev pub span_if : Bool → Key → Option Key → Option Span
span_if false end key = None
span_if true end None = None
span_if true end (Some key) = Some (record { start = key; end = end })
