-- Histories that are alike answer every read of a key alike.
use Rattle.std.specs.Prelude.{◌≡◌, option_map, Ok}
use Rattle.std.proofs.Common.{ap}
use Rattle.mvcc_key.specs.Steps.{◌>>=◌, unless_fault}
use Rattle.mvcc_key.specs.Order.{Key}
use Rattle.mvcc_key.specs.History.{History}
use Rattle.mvcc_key.specs.Refusal.{BadOptions}
use Rattle.intent_meta.specs.Alike.{AreAlike}
use Rattle.intent_meta.proofs.AlikeLaws.{intent_of-alike, items-alike}
use Rattle.read_rule.specs.Read.{ReadRequest, by_items, past_any_intent, decide, listed_of, listed, are_bad_options, get}
use Rattle.read_rule.specs.Laws.{AlikeReadAlike}

module _ {h k : History} (a : AreAlike h k) where
  -- they decide alike what a read of a key answers
  pub decide-alike : (r : ReadRequest) (key : Key) → decide h r key ≡ decide k r key
  unfolding decide
  decide-alike r key = λ i. past_any_intent r (intent_of-alike a key i) (by_items key r (items-alike a key i))

  -- and list alike what an inconsistent one passes over
  pub listed-alike : (r : ReadRequest) (key : Key) → listed h r key ≡ listed k r key
  unfolding listed
  listed-alike r key = ap (listed_of r) (intent_of-alike a key)

  -- so a read of one key is answered alike
  pub get-alike : (r : ReadRequest) (key : Key) → get h r key ≡ get k r key
  unfolding get
  get-alike r key =
      λ i. unless_fault (are_bad_options r) BadOptions r
      >>= λ good. decide-alike r key i
      >>= λ found. Ok (record { found = option_map (λ row. row.found) found; intents = listed-alike r key i })

pub alike_read_alike : AlikeReadAlike
alike_read_alike h k a r key = record { decided = decide-alike a r key; listed_are = listed-alike a r key; got = get-alike a r key }
