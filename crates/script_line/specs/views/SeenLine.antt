-- How contracts see what the reading of a line makes.
use Rattle.std.specs.Prelude.{Bool, true, false}
use Rattle.std.specs.Option.{option_map}
use Rattle.std.specs.Cow.{cow_slice_items}
use Rattle.mvcc_key.specs.History as history
use Rattle.mvcc_key.specs.views.Seen.{time_of}
use Rattle.txn_state.specs.views.Seen.{ranges_of}
use Rattle.script_line.specs.Grammar as grammar
use Rattle.script_line.specs.declared.line.Who.{Who}
use Rattle.script_line.specs.declared.line.Who.TheVariants as writer
use Rattle.script_line.specs.declared.line.Value.{Value}
use Rattle.script_line.specs.declared.line.Value.TheVariants as value
use Rattle.script_line.specs.declared.line.Status.{Status}
use Rattle.script_line.specs.declared.line.Status.TheVariants as status
use Rattle.script_line.specs.declared.line.Line.{Line}
use Rattle.script_line.specs.declared.line.Line.TheVariants as line

-- who writes
abbrev pub who_of : Who → grammar.Who
who_of (writer.AtTime ts) = grammar.AtTime (time_of ts)
who_of (writer.InTxn name) = grammar.InTxn name.now

-- a value
abbrev pub body_of : Value → history.Body
body_of (value.Bytes bytes) = history.Bytes (cow_slice_items bytes)
body_of (value.Int number) = history.Int number

-- how a transaction ended
abbrev pub status_of : Status → grammar.Status
status_of status.Committed = grammar.Committed
status_of status.Aborted = grammar.Aborted
status_of status.Pending = grammar.Pending

-- what a line says
abbrev pub line_of : Line → grammar.Line
line_of line.Blank = grammar.Blank
line_of (line.TxnBegin name ts limit id) = grammar.TxnBegin name.now (time_of ts) (time_of limit) id
line_of (line.TxnStep name n) = grammar.TxnStep name.now n
line_of (line.TxnAdvance name ts) = grammar.TxnAdvance name.now (time_of ts)
line_of (line.TxnRestart name ts) = grammar.TxnRestart name.now (time_of ts)
line_of (line.TxnRefresh name) = grammar.TxnRefresh name.now
line_of (line.TxnIgnoreSeqs name ranges) = grammar.TxnIgnoreSeqs name.now (ranges_of ranges.items)
line_of (line.TxnRemove name) = grammar.TxnRemove name.now
line_of (line.Put key value who local) = grammar.Put (cow_slice_items key) (body_of value) (who_of who) (time_of local)
line_of (line.Del key who local) = grammar.Del (cow_slice_items key) (who_of who) (time_of local)
line_of (line.ConditionalPut key value who expected local) = grammar.ConditionalPut (cow_slice_items key) (body_of value) (who_of who) (option_map body_of expected) (time_of local)
line_of (line.InitPut key value who local) = grammar.InitPut (cow_slice_items key) (body_of value) (who_of who) (time_of local)
line_of (line.Increment key who by local) = grammar.Increment (cow_slice_items key) (who_of who) by (time_of local)
line_of (line.Resolve name key status ts) = grammar.Resolve name.now (cow_slice_items key) (status_of status) (option_map time_of ts)
line_of (line.ResolveRange name start end status ts max) = grammar.ResolveRange name.now (cow_slice_items start) (cow_slice_items end) (status_of status) (option_map time_of ts) max
line_of (line.Get key ts) = grammar.Get (cow_slice_items key) (time_of ts)
line_of (line.Age now) = grammar.Age now.nanos
line_of line.Stats = grammar.Stats
line_of line.Flush = grammar.Flush
line_of (line.Compact keep) = grammar.Compact keep.runs
line_of line.Layout = grammar.Layout

-- the line is no command
abbrev pub is_blank : grammar.Line → Bool
is_blank grammar.Blank = true
is_blank other = false
