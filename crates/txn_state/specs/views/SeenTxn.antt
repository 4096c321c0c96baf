-- How contracts see a transaction.
use Rattle.std.specs.Prelude.{map}
use Rattle.mvcc_key.specs.views.Seen.{time_of, range_of}
use Rattle.txn_state.specs.views.SeenId.{id_of}
use Rattle.txn_state.specs.Transaction.{Txn}
use Rattle.txn_state.specs.declared.txn.Txn.TheInside.{Inside}

-- a transaction
abbrev pub txn_of : Inside → Txn
txn_of t = record {
  id = id_of t.id;
  epoch = t.epoch;
  sequence = t.sequence;
  read_ts = time_of t.read_ts;
  write_ts = time_of t.write_ts;
  global_limit = time_of t.global_limit;
  ignored = map range_of t.ignored.items;
}
