-- A transaction that is lent out of the table.
use Rattle.std.specs.Prelude.{◌≡◌, ℕ, List, Option, OnSome}
use Rattle.std.specs.Borrow.{LendsSo, MutBor, Fml}
use Rattle.txn_state.specs.Transaction.{Txn}
use Rattle.txn_state.specs.contracts.txn.Txn as txn
use Rattle.script_run.specs.Named.{Named, keep}
use Rattle.script_run.specs.contracts.txns.Txns.{the_row}

-- the table keeps what is left of the transaction under its name; where there is none it stays
abbrev pub LendsNamed : MutBor (List (Named Txn)) → List ℕ → Option (MutBor Txn) → Fml
LendsNamed s name r = LendsSo the_row txn.the_row s r (λ n t. OnSome r (n ≡ keep name t s.now)) (λ n. n ≡ s.now)
