-- The texts of answers and refusals.
use Rattle.std.specs.Prelude.{ℕ, zero, suc, ◌/◌, ◌+◌, ◌%◌, ℤ, Bool, true, false, ◌&&◌, not, List, [], ◌∷◌, ◌++◌, Option, Some, None, nat_le, ◌==◌, codes, if◌then◌else◌}
use Rattle.std.specs.List.{flat_map}
use Rattle.std.specs.Char.{digit_char}
use Rattle.std.specs.Fmt.{decimal, signed_decimal}
use Rattle.mvcc_key.specs.Order.{Timestamp, Key}
use Rattle.mvcc_key.specs.Spans.{Span}
use Rattle.mvcc_key.specs.History.{Body, Deletion, Bytes, Int, SeqRange}
use Rattle.mvcc_key.specs.Refusal.{IntentSeen, Refusal, EmptyKey, KeyTooLong, ValueTooLong, BadTimestamp, BadSpan, Conflict, EpochFault, ReplayMissing, ReplayMismatch, TooOld, ConditionFailed, NotInteger, IntegerOverflow, IntentTooLong, CommitBelowIntent, MomentTooEarly, CountOverflow}
use Rattle.mvcc_value.specs.Found.{Found}
use Rattle.txn_state.specs.Transaction.{Txn, TxnRefusal, SequenceLimit, EpochLimit, BadRanges}
use Rattle.stat_core.specs.ComputeStats.{Sums}
use Rattle.stat_core.specs.Names.{field_name}
use Rattle.uuid.specs.Text.{lower, hyphenated_text}
use Rattle.script_text.specs.Statistics.{statistics_line}

-- why a line is refused: by the script, by a transaction's rules, or by the engine
pub data Reason : Type 0 where
  BadLine : (line : ℕ) → Reason
  TxnExists : Reason
  NoTxn : Reason
  ByTxn : (why : TxnRefusal) → Reason
  ByEngine : (why : Refusal) → Reason

-- what is shown
pub data Answer : Type 0 where
  Accepted : Answer
  TxnLine : (name : List ℕ) (txn : Txn) → Answer
  Got : (key : Key) (found : Option Found) → Answer
  Deleted : (found : Bool) → Answer
  Incremented : (number : ℤ) → Answer
  Resolved : (found : Bool) → Answer
  ResolvedRange : (count : ℕ) (resume : Option Span) → Answer
  Statistics : (sums : Sums) (now : ℕ) → Answer
  LayoutLine : (index keys clears : ℕ) (ranges : Bool) → Answer
  Refused : (why : Reason) → Answer

-- a byte by \x and two lower-case hexadecimal digits
abbrev pub hex_byte : ℕ → List ℕ
hex_byte b = 0x5c ∷ 0x78 ∷ digit_char (b / 16) ∷ digit_char (b % 16) ∷ []

-- a printed byte but the quotation mark and the backslash
abbrev pub is_unescaped : ℕ → Bool
is_unescaped b = nat_le 0x21 b && nat_le b 0x7e && not (b == 0x22) && not (b == 0x5c)

-- such a byte for itself, a backslash doubled, and every other byte by its digits
unfoldable pub escaped_byte : ℕ → List ℕ
escaped_byte b =
    if is_unescaped b then b ∷ []
    else if b == 0x5c then 0x5c ∷ 0x5c ∷ []
    else hex_byte b

-- bytes, each for itself or escaped
abbrev pub escaped : List ℕ → List ℕ
escaped bytes = flat_map escaped_byte bytes

-- a key in quotation marks
unfoldable pub quoted : Key → List ℕ
quoted key = codes "\"" ++ escaped key ++ codes "\""

-- the last nine decimal digits
abbrev pub nine_digits : ℕ → List ℕ
nine_digits n =
    (48 + n / 100000000 % 10) ∷ (48 + n / 10000000 % 10) ∷ (48 + n / 1000000 % 10)
    ∷ (48 + n / 100000 % 10) ∷ (48 + n / 10000 % 10) ∷ (48 + n / 1000 % 10)
    ∷ (48 + n / 100 % 10) ∷ (48 + n / 10 % 10) ∷ (48 + n % 10) ∷ []

-- seconds, nine digits, and the counter
unfoldable pub time : Timestamp → List ℕ
time t = decimal (t.wall / 1000000000) ++ codes "." ++ nine_digits (t.wall % 1000000000) ++ codes "," ++ decimal t.logical

-- a value by its kind
unfoldable pub value : Body → List ℕ
value Deletion = codes "/<empty>"
value (Bytes bytes) = codes "/BYTES/" ++ escaped bytes
value (Int number) = codes "/INT/" ++ signed_decimal number

-- an id in its form with hyphens
unfoldable pub id : List ℕ → List ℕ
id bytes = hyphenated_text lower bytes

-- the two ends of a range
unfoldable pub range : SeqRange → List ℕ
range r = decimal r.first ++ codes "-" ++ decimal r.last

-- a range behind another one
unfoldable pub next_range : SeqRange → List ℕ
next_range r = codes "," ++ range r

-- the ranges, with commas between them, or none
unfoldable pub ranges : List SeqRange → List ℕ
ranges [] = codes "none"
ranges (r ∷ rs) = range r ++ flat_map next_range rs

-- the name of a transaction
unfoldable pub txn_name : List ℕ → List ℕ
txn_name name = codes "txn: \"" ++ name ++ codes "\""

-- which transaction it is, and where it stands
unfoldable pub txn_numbers : Txn → List ℕ
txn_numbers t = codes " id=" ++ id t.id ++ (codes " epoch=" ++ decimal t.epoch) ++ (codes " seq=" ++ decimal t.sequence)

-- when it reads and writes, and up to when a value may have been written before it began
unfoldable pub txn_times : Txn → List ℕ
txn_times t = (codes " read=" ++ time t.read_ts) ++ (codes " write=" ++ time t.write_ts) ++ (codes " limit=" ++ time t.global_limit)

-- a transaction by its name, as it stands
unfoldable pub txn_line : List ℕ → Txn → List ℕ
txn_line name t = txn_name name ++ txn_numbers t ++ txn_times t ++ codes " ignored=" ++ ranges t.ignored ++ codes "\n"

-- the number that is there after an increment
unfoldable pub increment_line : ℤ → List ℕ
increment_line number = codes "increment: " ++ signed_decimal number ++ codes "\n"

-- what is left of a span, where something is
unfoldable pub resume_line : Option Span → List ℕ
resume_line None = []
resume_line (Some s) = codes "resume: " ++ quoted s.start ++ codes "-" ++ quoted s.end ++ codes "\n"

-- how many intents of a span are resolved, and what is left of it
unfoldable pub resolved_lines : ℕ → Option Span → List ℕ
resolved_lines count resume = codes "resolve_range: resolved=" ++ decimal count ++ codes "\n" ++ resume_line resume

-- what a read of a key shows
unfoldable pub get_line : Key → Option Found → List ℕ
get_line key None = codes "get: " ++ quoted key ++ codes " -> <no data>\n"
get_line key (Some f) = codes "get: " ++ quoted f.key ++ codes " -> " ++ value f.body ++ codes " @" ++ time f.ts ++ codes "\n"

-- an intent that is in the way
unfoldable pub conflict_text : IntentSeen → List ℕ
conflict_text i = codes " " ++ quoted i.key ++ codes "/" ++ id i.id ++ codes "@" ++ time i.ts

-- a value, or that there is none
unfoldable pub actual : Option Body → List ℕ
actual None = codes "<none>"
actual (Some body) = value body

-- the name of a refusal, and what it carries; no command gives another so far
unfoldable pub refusal : Refusal → List ℕ
refusal EmptyKey = codes "EmptyKey"
refusal (KeyTooLong length) = codes "KeyTooLong length=" ++ decimal length
refusal (ValueTooLong length) = codes "ValueTooLong length=" ++ decimal length
refusal BadTimestamp = codes "BadTimestamp"
refusal BadSpan = codes "BadSpan"
refusal (Conflict intents) = codes "Conflict" ++ flat_map conflict_text intents
refusal (EpochFault own other) = (codes "EpochFault own=" ++ decimal own) ++ (codes " intent=" ++ decimal other)
refusal (ReplayMissing sequence) = codes "ReplayMissing sequence=" ++ decimal sequence
refusal (ReplayMismatch stored) = codes "ReplayMismatch stored=" ++ value stored
refusal (TooOld existing) = codes "TooOld existing=" ++ time existing
refusal (ConditionFailed found) = codes "ConditionFailed actual=" ++ actual found
refusal (NotInteger found) = codes "NotInteger actual=" ++ value found
refusal (IntegerOverflow old by) = (codes "IntegerOverflow old=" ++ signed_decimal old) ++ (codes " by=" ++ signed_decimal by)
refusal (IntentTooLong length) = codes "IntentTooLong length=" ++ decimal length
refusal (CommitBelowIntent ts) = codes "CommitBelowIntent ts=" ++ time ts
refusal (MomentTooEarly latest) = codes "MomentTooEarly latest=" ++ decimal latest
refusal (CountOverflow field) = codes "CountOverflow field=" ++ field_name field
refusal other = []

-- the name of a refusal by a transaction's rules, and the number as it stands
unfoldable pub txn_refusal : TxnRefusal → List ℕ
txn_refusal (SequenceLimit sequence) = codes "SequenceLimit sequence=" ++ decimal sequence
txn_refusal (EpochLimit epoch) = codes "EpochLimit epoch=" ++ decimal epoch
txn_refusal BadRanges = codes "BadRanges"

-- why a line is refused
unfoldable pub reason : Reason → List ℕ
reason (BadLine n) = codes "BadLine line=" ++ decimal n
reason TxnExists = codes "TxnExists"
reason NoTxn = codes "NoTxn"
reason (ByTxn why) = txn_refusal why
reason (ByEngine why) = refusal why

-- true or false
abbrev pub truth : Bool → List ℕ
truth true = codes "true"
truth false = codes "false"

-- yes or no
unfoldable pub yes_or_no : Bool → List ℕ
yes_or_no true = codes "yes"
yes_or_no false = codes "no"

-- the first part is the memory table, and each other one a run
unfoldable pub part_name : ℕ → List ℕ
part_name zero = codes ": mem"
part_name (suc n) = codes ": run"

-- a part by its place: its names, the cleared ones, and whether it holds range operations
unfoldable pub layout_line : ℕ → ℕ → ℕ → Bool → List ℕ
layout_line index keys clears ranges =
    codes "part " ++ decimal index ++ part_name index ++ codes " keys=" ++ decimal keys ++ codes " clears=" ++ decimal clears
    ++ codes " ranges=" ++ yes_or_no ranges ++ codes "\n"

-- the text of an answer: whole lines
unfoldable pub show : Answer → List ℕ
show Accepted = codes "ok\n"
show (TxnLine name txn) = txn_line name txn
show (Got key found) = get_line key found
show (Deleted found) = codes "del: found=" ++ truth found ++ codes "\n"
show (Incremented number) = increment_line number
show (Resolved found) = codes "resolve: found=" ++ truth found ++ codes "\n"
show (ResolvedRange count resume) = resolved_lines count resume
show (Statistics sums now) = statistics_line sums now
show (LayoutLine index keys clears ranges) = layout_line index keys clears ranges
show (Refused why) = codes "error: " ++ reason why ++ codes "\n"
