-- What a line of a script says.
use Rattle.std.specs.Prelude.{ℕ, ℤ, pos, Bool, false, ◌||◌, List, [], ◌∷◌, map, Option, Some, None, option_map, codes, bytes_eq, ◌==◌, if◌then◌else◌}
use Rattle.mvcc_key.specs.Order.{Timestamp, no_time, Key}
use Rattle.mvcc_key.specs.Limits.{max_count}
use Rattle.mvcc_key.specs.History.{Body, Bytes, Int, SeqRange}
use Rattle.script_words.specs.Forms.{◌>>=◌, name, text, integer, wall, time, max_number, number_from, number_to, ranges, id}
use Rattle.script_words.specs.Words.{Word, words, word_of, only, required, optional, perhaps, one_of, up_to_one_of}

-- who writes: no transaction, at a timestamp, or the transaction of a name
pub data Who : Type 0 where
  AtTime : (ts : Timestamp) → Who
  InTxn : (name : List ℕ) → Who

-- how a transaction ended, or that it goes on
pub data Status : Type 0 where
  Committed : Status
  Aborted : Status
  Pending : Status

-- what a line says
pub data Line : Type 0 where
  Blank : Line
  TxnBegin : (name : List ℕ) (ts limit : Timestamp) (id : Option (List ℕ)) → Line
  TxnStep : (name : List ℕ) (n : ℕ) → Line
  TxnAdvance : (name : List ℕ) (ts : Timestamp) → Line
  TxnRestart : (name : List ℕ) (ts : Timestamp) → Line
  TxnRefresh : (name : List ℕ) → Line
  TxnIgnoreSeqs : (name : List ℕ) (ranges : List SeqRange) → Line
  TxnRemove : (name : List ℕ) → Line
  Put : (key : Key) (value : Body) (who : Who) (local : Timestamp) → Line
  Del : (key : Key) (who : Who) (local : Timestamp) → Line
  ConditionalPut : (key : Key) (value : Body) (who : Who) (expected : Option Body) (local : Timestamp) → Line
  InitPut : (key : Key) (value : Body) (who : Who) (local : Timestamp) → Line
  Increment : (key : Key) (who : Who) (by : ℤ) (local : Timestamp) → Line
  Resolve : (name : List ℕ) (key : Key) (status : Status) (ts : Option Timestamp) → Line
  ResolveRange : (name : List ℕ) (start end : Key) (status : Status) (ts : Option Timestamp) (max : Option ℕ) → Line
  Get : (key : Key) (ts : Timestamp) → Line
  Age : (now : ℕ) → Line
  Stats : Line
  Flush : Line
  Compact : (keep : ℕ) → Line
  Layout : Line

-- a NAME as a writer
abbrev pub in_txn : List ℕ → Option Who
in_txn bytes = option_map InTxn (name bytes)

-- a TIME as a writer
abbrev pub at_time : List ℕ → Option Who
at_time bytes = option_map AtTime (time bytes)

-- a TEXT as a value
abbrev pub bytes_value : List ℕ → Option Body
bytes_value bytes = option_map Bytes (text bytes)

-- an INT as a value
abbrev pub int_value : List ℕ → Option Body
int_value bytes = option_map Int (integer bytes)

-- a status in small letters or in capitals
unfoldable pub status_of : List ℕ → Option Status
status_of bytes =
    if bytes_eq bytes (codes "committed") || bytes_eq bytes (codes "COMMITTED") then Some Committed
    else if bytes_eq bytes (codes "aborted") || bytes_eq bytes (codes "ABORTED") then Some Aborted
    else if bytes_eq bytes (codes "pending") || bytes_eq bytes (codes "PENDING") then Some Pending
    else None

-- k=TEXT
abbrev pub key : List Word → Option Key
key = required (codes "k") text

-- end=TEXT
abbrev pub end : List Word → Option Key
end = required (codes "end") text

-- t=NAME
abbrev pub txn : List Word → Option (List ℕ)
txn = required (codes "t") name

-- ts=TIME
abbrev pub timestamp : List Word → Option Timestamp
timestamp = required (codes "ts") time

-- t=NAME or ts=TIME, and not both
abbrev pub who : List Word → Option Who
who = one_of (codes "t") in_txn (codes "ts") at_time

-- v=TEXT or int=INT, and not both
abbrev pub value : List Word → Option Body
value = one_of (codes "v") bytes_value (codes "int") int_value

-- cond=TEXT or cond_int=INT or neither
abbrev pub expected : List Word → Option (Option Body)
expected = up_to_one_of (codes "cond") bytes_value (codes "cond_int") int_value

-- local=TIME, or no time
abbrev pub local : List Word → Option Timestamp
local = optional (codes "local") time no_time

-- status=STATUS
abbrev pub status : List Word → Option Status
status = required (codes "status") status_of

-- ts=TIME, where it stands
abbrev pub perhaps_timestamp : List Word → Option (Option Timestamp)
perhaps_timestamp = perhaps (codes "ts") time

-- max=NUM, where it stands
abbrev pub max : List Word → Option (Option ℕ)
max = perhaps (codes "max") (number_to max_number)

-- now=MOMENT
abbrev pub now : List Word → Option ℕ
now = required (codes "now") wall

-- keep=NUM, at least 1
abbrev pub keep : List Word → Option ℕ
keep = required (codes "keep") (number_from 1)

-- a command without words
unfoldable pub alone : Line → List Word → Option Line
alone line given = do
  ws ← only [] [] given
  Some line

-- t=NAME ts=TIME [limit=TIME] [id=UUID]
unfoldable pub txn_begin : List Word → Option Line
txn_begin given = do
  ws ← only (codes "t" ∷ codes "ts" ∷ codes "limit" ∷ codes "id" ∷ []) [] given
  t ← txn ws
  ts ← timestamp ws
  limit ← optional (codes "limit") time no_time ws
  i ← perhaps (codes "id") id ws
  Some (TxnBegin t ts limit i)

-- t=NAME [n=NUM, at most 2^31-1]
unfoldable pub txn_step : List Word → Option Line
txn_step given = do
  ws ← only (codes "t" ∷ codes "n" ∷ []) [] given
  t ← txn ws
  n ← optional (codes "n") (number_to max_count) 1 ws
  Some (TxnStep t n)

-- t=NAME ts=TIME
unfoldable pub txn_advance : List Word → Option Line
txn_advance given = do
  ws ← only (codes "t" ∷ codes "ts" ∷ []) [] given
  t ← txn ws
  ts ← timestamp ws
  Some (TxnAdvance t ts)

-- t=NAME [ts=TIME]
unfoldable pub txn_restart : List Word → Option Line
txn_restart given = do
  ws ← only (codes "t" ∷ codes "ts" ∷ []) [] given
  t ← txn ws
  ts ← optional (codes "ts") time no_time ws
  Some (TxnRestart t ts)

-- t=NAME
unfoldable pub txn_refresh : List Word → Option Line
txn_refresh given = do
  ws ← only (codes "t" ∷ []) [] given
  t ← txn ws
  Some (TxnRefresh t)

-- t=NAME seqs=SEQS
unfoldable pub txn_ignore_seqs : List Word → Option Line
txn_ignore_seqs given = do
  ws ← only (codes "t" ∷ codes "seqs" ∷ []) [] given
  t ← txn ws
  rs ← required (codes "seqs") ranges ws
  Some (TxnIgnoreSeqs t rs)

-- t=NAME
unfoldable pub txn_remove : List Word → Option Line
txn_remove given = do
  ws ← only (codes "t" ∷ []) [] given
  t ← txn ws
  Some (TxnRemove t)

-- k=TEXT value who [local=TIME]
unfoldable pub put : List Word → Option Line
put given = do
  ws ← only (codes "k" ∷ codes "v" ∷ codes "int" ∷ codes "t" ∷ codes "ts" ∷ codes "local" ∷ []) [] given
  k ← key ws
  v ← value ws
  w ← who ws
  l ← local ws
  Some (Put k v w l)

-- k=TEXT who [local=TIME]
unfoldable pub del : List Word → Option Line
del given = do
  ws ← only (codes "k" ∷ codes "t" ∷ codes "ts" ∷ codes "local" ∷ []) [] given
  k ← key ws
  w ← who ws
  l ← local ws
  Some (Del k w l)

-- k=TEXT value who [local=TIME], and the value that is expected or none
unfoldable pub cput : List Word → Option Line
cput given = do
  ws ← only (codes "k" ∷ codes "v" ∷ codes "int" ∷ codes "t" ∷ codes "ts" ∷ codes "cond" ∷ codes "cond_int" ∷ codes "local" ∷ []) [] given
  k ← key ws
  v ← value ws
  w ← who ws
  e ← expected ws
  l ← local ws
  Some (ConditionalPut k v w e l)

-- k=TEXT value who [local=TIME]
unfoldable pub initput : List Word → Option Line
initput given = do
  ws ← only (codes "k" ∷ codes "v" ∷ codes "int" ∷ codes "t" ∷ codes "ts" ∷ codes "local" ∷ []) [] given
  k ← key ws
  v ← value ws
  w ← who ws
  l ← local ws
  Some (InitPut k v w l)

-- k=TEXT who [inc=INT] [local=TIME]
unfoldable pub increment : List Word → Option Line
increment given = do
  ws ← only (codes "k" ∷ codes "t" ∷ codes "ts" ∷ codes "inc" ∷ codes "local" ∷ []) [] given
  k ← key ws
  w ← who ws
  by ← optional (codes "inc") integer (pos 1) ws
  l ← local ws
  Some (Increment k w by l)

-- t=NAME k=TEXT status=STATUS [ts=TIME]
unfoldable pub resolve : List Word → Option Line
resolve given = do
  ws ← only (codes "t" ∷ codes "k" ∷ codes "status" ∷ codes "ts" ∷ []) [] given
  t ← txn ws
  k ← key ws
  s ← status ws
  ts ← perhaps_timestamp ws
  Some (Resolve t k s ts)

-- t=NAME k=TEXT end=TEXT status=STATUS [ts=TIME] [max=NUM]
unfoldable pub resolve_range : List Word → Option Line
resolve_range given = do
  ws ← only (codes "t" ∷ codes "k" ∷ codes "end" ∷ codes "status" ∷ codes "ts" ∷ codes "max" ∷ []) [] given
  t ← txn ws
  k ← key ws
  e ← end ws
  s ← status ws
  ts ← perhaps_timestamp ws
  m ← max ws
  Some (ResolveRange t k e s ts m)

-- k=TEXT ts=TIME
unfoldable pub get : List Word → Option Line
get given = do
  ws ← only (codes "k" ∷ codes "ts" ∷ []) [] given
  k ← key ws
  ts ← timestamp ws
  Some (Get k ts)

-- now=MOMENT
unfoldable pub age : List Word → Option Line
age given = do
  ws ← only (codes "now" ∷ []) [] given
  n ← now ws
  Some (Age n)

-- keep=NUM
unfoldable pub compact : List Word → Option Line
compact given = do
  ws ← only (codes "keep" ∷ []) [] given
  n ← keep ws
  Some (Compact n)

-- the command of this name that changes a transaction, with these words
unfoldable pub txn_command : List ℕ → List Word → Option Line
txn_command name ws =
    if bytes_eq name (codes "txn_begin") then txn_begin ws
    else if bytes_eq name (codes "txn_step") then txn_step ws
    else if bytes_eq name (codes "txn_advance") then txn_advance ws
    else if bytes_eq name (codes "txn_restart") then txn_restart ws
    else if bytes_eq name (codes "txn_refresh") then txn_refresh ws
    else if bytes_eq name (codes "txn_ignore_seqs") then txn_ignore_seqs ws
    else if bytes_eq name (codes "txn_remove") then txn_remove ws
    else None

-- the command of this name, with these words
unfoldable pub command : List ℕ → List Word → Option Line
command name ws =
    if bytes_eq name (codes "put") then put ws
    else if bytes_eq name (codes "get") then get ws
    else if bytes_eq name (codes "del") then del ws
    else if bytes_eq name (codes "cput") then cput ws
    else if bytes_eq name (codes "initput") then initput ws
    else if bytes_eq name (codes "increment") then increment ws
    else if bytes_eq name (codes "resolve") then resolve ws
    else if bytes_eq name (codes "resolve_range") then resolve_range ws
    else if bytes_eq name (codes "age") then age ws
    else if bytes_eq name (codes "stats") then alone Stats ws
    else if bytes_eq name (codes "flush") then alone Flush ws
    else if bytes_eq name (codes "compact") then compact ws
    else if bytes_eq name (codes "layout") then alone Layout ws
    else txn_command name ws

-- the first word begins with a number sign
abbrev pub begins_comment : List ℕ → Bool
begins_comment [] = false
begins_comment (b ∷ bs) = b == 0x23

-- a line without words, and one that begins with a number sign, is no command
unfoldable pub parse_words : List (List ℕ) → Option Line
parse_words [] = Some Blank
parse_words (w ∷ ws) = if begins_comment w then Some Blank else command w (map word_of ws)

-- what the line says, where it has a reading
unfoldable pub parse : List ℕ → Option Line
parse line = parse_words (words line)
