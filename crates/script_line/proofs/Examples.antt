-- What lines and command lines mean, computed from the definitions.
use Rattle.std.specs.Prelude.{◌≡◌, ℕ, Bool, true, false, List, [], ◌∷◌, ◌++◌, map, replicate, Option, Some, None, is_none, codes, refl, ⊤, pos, negsuc}
use Rattle.std.specs.List.{list_all}
use Rattle.mvcc_key.specs.Order.{Timestamp, no_time}
use Rattle.mvcc_key.specs.History.{Bytes, Int}
use Rattle.script_words.proofs.Examples.{on_forms}
use Rattle.script_line.specs.Grammar as grammar
use Rattle.script_line.specs.Grammar.{Who, AtTime, InTxn, Committed, Aborted, Pending, Blank, TxnBegin, TxnStep, TxnAdvance, TxnRestart, TxnRefresh, TxnIgnoreSeqs, TxnRemove, Put, Del, ConditionalPut, InitPut, Increment, Resolve, ResolveRange, Get, Age, Stats, Flush, Compact, Layout, command, txn_command, parse_words, parse}
use Rattle.script_line.specs.CommandLine.{Invocation, Run, invocation, given_options, options_of, run_options}

-- what an example unfolds
unfoldable pub on_words : ⊤
unfolding on_forms grammar.txn_begin grammar.txn_step grammar.txn_advance grammar.txn_restart grammar.txn_refresh grammar.txn_ignore_seqs grammar.txn_remove grammar.put grammar.del grammar.cput grammar.initput grammar.increment grammar.status_of grammar.resolve grammar.resolve_range grammar.get grammar.age grammar.alone grammar.compact txn_command command parse_words parse invocation given_options options_of run_options
on_words = tt

-- what is written at a second
abbrev one_second : Timestamp
one_second = record { wall = 1000000000; logical = 0 }

abbrev at_one : Who
at_one = AtTime one_second

-- words: spaces and tabs part them, and nothing else
parted : parse (codes " \t put\t k=a  v=abc\t\tts=1 \t") ≡ Some (Put (codes "a") (Bytes (codes "abc")) at_one no_time)
unfolding on_words
parted = refl

blank_lines : map parse (codes "" ∷ codes " \t " ∷ codes "# put k=a" ∷ codes "\t#" ∷ codes "#=" ∷ []) ≡ Some Blank ∷ Some Blank ∷ Some Blank ∷ Some Blank ∷ Some Blank ∷ []
unfolding on_words
blank_lines = refl

-- a word is cut at its first equals sign, and its value may be empty
first_equals_sign : parse (codes "put k==b=c ts=1 v=") ≡ Some (Put (codes "=b=c") (Bytes []) at_one no_time)
unfolding on_words
first_equals_sign = refl

lines_in_any_order : map parse (codes "put v=x ts=1 k=a" ∷ codes "put ts=1 k=a v=x" ∷ [])
    ≡ Some (Put (codes "a") (Bytes (codes "x")) at_one no_time) ∷ Some (Put (codes "a") (Bytes (codes "x")) at_one no_time) ∷ []
unfolding on_words
lines_in_any_order = refl

each_command : map parse (codes "get k=a ts=2" ∷ codes "del k=a ts=1,2" ∷ codes "age now=0.9" ∷ codes "stats\t" ∷ codes "flush" ∷ codes "compact keep=2" ∷ codes "layout" ∷ [])
    ≡ Some (Get (codes "a") (record { wall = 2000000000; logical = 0 })) ∷ Some (Del (codes "a") (AtTime (record { wall = 1000000000; logical = 2 })) no_time) ∷ Some (Age 900000000) ∷ Some Stats
    ∷ Some Flush ∷ Some (Compact 2) ∷ Some Layout ∷ []
unfolding on_words
each_command = refl

-- a name twice, wanting or unknown, a flag for a value, another command, and bytes that are no blanks
lines_without_a_reading : list_all (λ l. is_none (parse l))
    (codes "put k=a k=b ts=1 v=x" ∷ codes "put k=a ts=1 ts=1 v=x" ∷ codes "put k=a ts=1 v=x v=x" ∷ codes "put k=a ts=1" ∷ codes "put ts=1 v=x" ∷ codes "put k=a v=x" ∷ codes "put k=a ts=1 v=x int=1"
    ∷ codes "put k ts=1 v=x" ∷ codes "get k=a ts=1 k" ∷ codes "get k=a" ∷ codes "get k=a ts=1 v=x" ∷ codes "del k=a ts=1 =" ∷ codes "age" ∷ codes "age now" ∷ codes "age now=5,0" ∷ codes "age now=1 now=1"
    ∷ codes "stats now" ∷ codes "flush x" ∷ codes "layout keep=1" ∷ codes "compact" ∷ codes "compact keep=0" ∷ codes "compact keep=1 keep=1" ∷ codes "Put k=a ts=1 v=x" ∷ codes "putt k=a ts=1 v=x" ∷ codes "=" ∷ codes "k=a put"
    ∷ (codes "get k=a" ++ 0x0d ∷ codes " ts=1") ∷ (codes "get k=a" ++ 0x0b ∷ codes "ts=1") ∷ (codes "stats" ++ 0x0d ∷ []) ∷ (codes "stats" ++ 0x00 ∷ []) ∷ [])
    ≡ true
unfolding on_words
lines_without_a_reading = refl

-- a write by a transaction, or at a timestamp; a value that is bytes, or a number
writes : map parse (codes "put t=A k=a v=abc" ∷ codes "put k=a int=-3 ts=1" ∷ codes "del k=a t=A" ∷ codes "initput k=a ts=1 v=" ∷ codes "initput int=7 t=A k=a" ∷ codes "increment k=a ts=1" ∷ codes "increment inc=-30 k=a t=A" ∷ [])
    ≡ Some (Put (codes "a") (Bytes (codes "abc")) (InTxn (codes "A")) no_time) ∷ Some (Put (codes "a") (Int (negsuc 2)) at_one no_time) ∷ Some (Del (codes "a") (InTxn (codes "A")) no_time)
    ∷ Some (InitPut (codes "a") (Bytes []) at_one no_time) ∷ Some (InitPut (codes "a") (Int (pos 7)) (InTxn (codes "A")) no_time) ∷ Some (Increment (codes "a") at_one (pos 1) no_time)
    ∷ Some (Increment (codes "a") (InTxn (codes "A")) (negsuc 29) no_time) ∷ []
unfolding on_words
writes = refl

-- a local timestamp in each of them; 0 is none
local_timestamps : map parse (codes "put t=A k=a v=abc local=1" ∷ codes "del local=1 k=a ts=1" ∷ codes "cput k=a v= local=1 ts=1" ∷ codes "initput k=a ts=1 local=1 v=" ∷ codes "increment k=a ts=1 local=1" ∷ codes "del k=a ts=1 local=0" ∷ [])
    ≡ Some (Put (codes "a") (Bytes (codes "abc")) (InTxn (codes "A")) one_second) ∷ Some (Del (codes "a") at_one one_second) ∷ Some (ConditionalPut (codes "a") (Bytes []) at_one None one_second)
    ∷ Some (InitPut (codes "a") (Bytes []) at_one one_second) ∷ Some (Increment (codes "a") at_one (pos 1) one_second) ∷ Some (Del (codes "a") at_one no_time) ∷ []
unfolding on_words
local_timestamps = refl

-- conditions: none, bytes that may be empty, or a number
conditions : map parse (codes "cput k=a ts=1 v=x" ∷ codes "cput k=a t=A int=1 cond=abc" ∷ codes "cput cond= k=a ts=1 v=x" ∷ codes "cput k=a ts=1 v=x cond_int=-1" ∷ [])
    ≡ Some (ConditionalPut (codes "a") (Bytes (codes "x")) at_one None no_time) ∷ Some (ConditionalPut (codes "a") (Int (pos 1)) (InTxn (codes "A")) (Some (Bytes (codes "abc"))) no_time)
    ∷ Some (ConditionalPut (codes "a") (Bytes (codes "x")) at_one (Some (Bytes [])) no_time) ∷ Some (ConditionalPut (codes "a") (Bytes (codes "x")) at_one (Some (Int (negsuc 0))) no_time) ∷ []
unfolding on_words
conditions = refl

-- resolutions: of a key or a span, where the transaction writes or at a timestamp, of all intents or of some
resolutions : map parse (codes "resolve t=A k=a status=committed" ∷ codes "resolve status=ABORTED ts=1 k= t=A" ∷ codes "resolve_range t=A k=a end=b status=PENDING" ∷ codes "resolve_range max=3 t=A k=a end=b status=aborted ts=1"
    ∷ codes "resolve_range t=A k=b end=a status=pending ts=0 max=0" ∷ codes "resolve t=A k=a status=COMMITTED" ∷ codes "resolve_range t=A k=a end= status=committed max=9223372036854775807" ∷ [])
    ≡ Some (Resolve (codes "A") (codes "a") Committed None) ∷ Some (Resolve (codes "A") [] Aborted (Some one_second)) ∷ Some (ResolveRange (codes "A") (codes "a") (codes "b") Pending None None)
    ∷ Some (ResolveRange (codes "A") (codes "a") (codes "b") Aborted (Some one_second) (Some 3)) ∷ Some (ResolveRange (codes "A") (codes "b") (codes "a") Pending (Some no_time) (Some 0))
    ∷ Some (Resolve (codes "A") (codes "a") Committed None) ∷ Some (ResolveRange (codes "A") (codes "a") [] Committed None (Some 9223372036854775807)) ∷ []
unfolding on_words
resolutions = refl

-- a bad status, and words of a resolution that are wanting, twice, of others or in no form
resolutions_without_a_reading : list_all (λ l. is_none (parse l))
    (codes "resolve t=A k=a" ∷ codes "resolve t=A k=a status=" ∷ codes "resolve t=A k=a status" ∷ codes "resolve t=A k=a status=done" ∷ codes "resolve t=A k=a status=Committed" ∷ codes "resolve t=A k=a status=commit"
    ∷ codes "resolve t=A k=a status=abortedx" ∷ codes "resolve t=A k=a status=pending status=pending" ∷ codes "resolve k=a status=committed" ∷ codes "resolve t=A status=committed" ∷ codes "resolve t= k=a status=committed"
    ∷ codes "resolve t=A k=\\x status=committed" ∷ codes "resolve t=A k=a status=committed ts=" ∷ codes "resolve t=A k=a status=committed ts" ∷ codes "resolve t=A k=a end=b status=committed" ∷ codes "resolve t=A k=a status=committed max=1"
    ∷ codes "resolve t=A k=a status=committed local=1" ∷ [])
    ≡ true
unfolding on_words
resolutions_without_a_reading = refl

-- the same of a span; a max without a number
resolutions_of_spans_without_a_reading : list_all (λ l. is_none (parse l))
    (codes "resolve_range t=A k=a end=b" ∷ codes "resolve_range t=A k=a end=b status=over" ∷ codes "resolve_range t=A k=a status=aborted" ∷ codes "resolve_range t=A end=b status=aborted" ∷ codes "resolve_range k=a end=b status=aborted"
    ∷ codes "resolve_range t=A k=a end=\\ status=aborted" ∷ codes "resolve_range t=A k=a end=b status=aborted max" ∷ codes "resolve_range t=A k=a end=b status=aborted max=" ∷ codes "resolve_range t=A k=a end=b status=aborted max=-1"
    ∷ codes "resolve_range t=A k=a end=b status=aborted max=9223372036854775808" ∷ codes "resolve_range t=A k=a end=b status=aborted max=00000000000000000001" ∷ codes "resolve_range t=A k=a end=b status=aborted max=1 max=1"
    ∷ codes "resolve_range t=A k=a end=b end=c status=aborted" ∷ codes "resolve_range t=A k=a end=b status=aborted ts=1,2147483648" ∷ codes "resolve_range t=A k=a end=b status=aborted v=x" ∷ [])
    ≡ true
unfolding on_words
resolutions_of_spans_without_a_reading = refl

-- an id: fifteen zeros and a byte
abbrev id_of : ℕ → List ℕ
id_of b = replicate 15 0 ++ b ∷ []

-- changes of transactions
changes_of_transactions : map parse
    (codes "txn_begin t=A ts=1" ∷ codes "txn_begin id=000000000000000000000000000000ff limit=1 ts=0 t=b-2" ∷ codes "txn_step t=A" ∷ codes "txn_step n=2147483647 t=A" ∷ codes "txn_advance t=A ts=1"
    ∷ codes "txn_restart t=A" ∷ codes "txn_restart ts=1 t=A" ∷ codes "txn_refresh t=A" ∷ codes "txn_ignore_seqs t=A seqs=1-1,3-2" ∷ codes "txn_remove t=A" ∷ [])
    ≡ Some (TxnBegin (codes "A") one_second no_time None) ∷ Some (TxnBegin (codes "b-2") no_time one_second (Some (id_of 0xff))) ∷ Some (TxnStep (codes "A") 1) ∷ Some (TxnStep (codes "A") 2147483647)
    ∷ Some (TxnAdvance (codes "A") one_second) ∷ Some (TxnRestart (codes "A") no_time) ∷ Some (TxnRestart (codes "A") one_second) ∷ Some (TxnRefresh (codes "A"))
    ∷ Some (TxnIgnoreSeqs (codes "A") (record { first = 1; last = 1 } ∷ record { first = 3; last = 2 } ∷ [])) ∷ Some (TxnRemove (codes "A")) ∷ []
unfolding on_words
changes_of_transactions = refl

-- both or neither of t and ts, or of v and int; both conditions
words_against_each_other : list_all (λ l. is_none (parse l))
    (codes "put k=a v=x" ∷ codes "put k=a v=x t=A ts=1" ∷ codes "put k=a ts=1" ∷ codes "put k=a ts=1 v=x int=1" ∷ codes "del k=a" ∷ codes "del k=a t=A ts=1" ∷ codes "cput k=a v=x" ∷ codes "cput k=a v=x t=A ts=1"
    ∷ codes "cput k=a ts=1" ∷ codes "cput k=a ts=1 v=x int=1" ∷ codes "cput k=a ts=1 v=x cond=x cond_int=1" ∷ codes "initput k=a v=x" ∷ codes "initput k=a v=x t=A ts=1" ∷ codes "initput k=a t=A"
    ∷ codes "initput k=a t=A v=x int=1" ∷ codes "increment k=a" ∷ codes "increment k=a t=A ts=1" ∷ [])
    ≡ true
unfolding on_words
words_against_each_other = refl

-- words that a command does not have, has once, or wants
other_words : list_all (λ l. is_none (parse l))
    (codes "put k=a ts=1 v=x cond=x" ∷ codes "put t=A t=B k=a v=x" ∷ codes "put t k=a v=x" ∷ codes "put k=a ts=1 v=x local=1 local=1" ∷ codes "del t=A k=a local" ∷ codes "get k=a ts=1 local=1" ∷ codes "get k=a ts=1 inconsistent=1" ∷ codes "get t=A k=a" ∷ codes "cput ts=1 v=x"
    ∷ codes "cput k=a ts=1 v=x cond=x cond=x" ∷ codes "cput k=a ts=1 v=x max=1" ∷ codes "initput k=a ts=1 v=x cond=x" ∷ codes "initput k=a ts=1 v=x status=committed" ∷ codes "increment ts=1" ∷ codes "increment k=a ts=1 v=x"
    ∷ codes "increment k=a ts=1 inc=1 inc=1" ∷ codes "increment k=a ts=1 end=b" ∷ codes "txn_begin t=A" ∷ codes "txn_begin ts=1" ∷ codes "txn_begin t=A ts=1 n=1" ∷ codes "txn_step" ∷ codes "txn_step t=A n"
    ∷ codes "txn_advance t=A" ∷ codes "txn_restart" ∷ codes "txn_refresh" ∷ codes "txn_refresh t=A ts=1" ∷ codes "txn_ignore_seqs t=A" ∷ codes "txn_remove" ∷ codes "txn_remove t=A t=A" ∷ codes "txn" ∷ codes "txn_ t=A" ∷ [])
    ≡ true
unfolding on_words
other_words = refl

-- a name, an id, ranges, a time or a number that is none
values_without_a_reading : list_all (λ l. is_none (parse l))
    (codes "put t= k=a v=x" ∷ codes "put t=a.b k=a v=x" ∷ codes "put k=a ts=x v=x" ∷ codes "put k=a ts=1 v=\\x" ∷ codes "put k=a ts=1 int=" ∷ codes "put k=a ts=1 int=1x" ∷ codes "del t=A= k=a" ∷ codes "cput k=a ts=1 v=x cond=\\"
    ∷ codes "cput k=a ts=1 v=x cond_int=+1" ∷ codes "put k=a ts=1 v=x local=" ∷ codes "del k=a ts=1 local=-1" ∷ codes "initput k=a ts=1 v=x local=1." ∷ codes "cput k=a ts=1 v=x local=x" ∷ codes "increment k=a ts=1 local=9223372036.854775808" ∷ codes "initput k=a t=a+b v=x" ∷ codes "increment k=a ts=1 inc=9223372036854775808" ∷ codes "increment k=a ts=1 inc=-9223372036854775809" ∷ codes "txn_begin t=\"A\" ts=1"
    ∷ codes "txn_begin t=A ts=1,2147483648" ∷ codes "txn_begin t=A ts=1 limit=-1" ∷ codes "txn_begin t=A ts=1 limit=" ∷ codes "txn_begin t=A ts=1 id=" ∷ codes "txn_begin t=A ts=1 id=1" ∷ codes "txn_step t=A n=2147483648"
    ∷ codes "txn_step t=A n=-1" ∷ codes "txn_step t=A n=00000000000000000001" ∷ codes "txn_advance t=A ts=1." ∷ codes "txn_restart t=A ts=" ∷ codes "txn_ignore_seqs t=A seqs=" ∷ codes "txn_ignore_seqs t=A seqs=1-2,"
    ∷ codes "txn_ignore_seqs t=A seqs=0-4294967296" ∷ [])
    ≡ true
unfolding on_words
values_without_a_reading = refl

-- options: each alone, in any order, the value behind an equals sign or in the next word
abbrev run_with : Bool → ℕ → Option Invocation
run_with stats count_max = Some (Run (record { stats = stats; count_max = count_max }))

no_options : invocation (codes "run" ∷ []) ≡ run_with false 9223372036854775807
unfolding on_words
no_options = refl

statistics_option : invocation (codes "run" ∷ codes "--stats" ∷ []) ≡ run_with true 9223372036854775807
unfolding on_words
statistics_option = refl

bound_in_the_next_word : invocation (codes "run" ∷ codes "--count-max" ∷ codes "100" ∷ []) ≡ run_with false 100
unfolding on_words
bound_in_the_next_word = refl

bound_behind_the_sign : invocation (codes "run" ∷ codes "--count-max=1" ∷ []) ≡ run_with false 1
unfolding on_words
bound_behind_the_sign = refl

statistics_first : invocation (codes "run" ∷ codes "--stats" ∷ codes "--count-max=100" ∷ []) ≡ run_with true 100
unfolding on_words
statistics_first = refl

statistics_last : invocation (codes "run" ∷ codes "--count-max" ∷ codes "100" ∷ codes "--stats" ∷ []) ≡ run_with true 100
unfolding on_words
statistics_last = refl

greatest_bounds : map (λ n. invocation (codes "run" ∷ codes "--count-max" ∷ n ∷ [])) (codes "9223372036854775807" ∷ codes "09223372036854775807" ∷ codes "00000000000000000001" ∷ [])
    ≡ run_with false 9223372036854775807 ∷ run_with false 9223372036854775807 ∷ run_with false 1 ∷ []
unfolding on_words
greatest_bounds = refl

no_bounds : list_all (λ n. is_none (invocation (codes "run" ∷ codes "--count-max" ∷ n ∷ [])))
    (codes "" ∷ codes "0" ∷ codes "9223372036854775808" ∷ codes "000000000000000000001" ∷ codes "+1" ∷ codes "1 " ∷ codes "=1" ∷ codes "--stats" ∷ codes "--count-max" ∷ [])
    ≡ true
unfolding on_words
no_bounds = refl

words_without_a_reading : list_all (λ ws. is_none (invocation ws))
    ([] ∷ (codes "" ∷ []) ∷ (codes "Run" ∷ []) ∷ (codes "run=" ∷ []) ∷ (codes "run" ∷ codes "run" ∷ []) ∷ (codes "run" ∷ codes "" ∷ []) ∷ (codes "run" ∷ codes "--" ∷ []) ∷ (codes "run" ∷ codes "--" ∷ codes "--stats" ∷ [])
    ∷ (codes "run" ∷ codes "--stats=" ∷ []) ∷ (codes "run" ∷ codes "--stats=x" ∷ []) ∷ (codes "run" ∷ codes "--stat" ∷ []) ∷ (codes "run" ∷ codes "--stats" ∷ codes "--stats" ∷ []) ∷ (codes "run" ∷ codes "--stats" ∷ codes "" ∷ [])
    ∷ (codes "run" ∷ codes "--count-max" ∷ []) ∷ (codes "run" ∷ codes "--count-max=" ∷ []) ∷ (codes "run" ∷ codes "--count-max=0" ∷ []) ∷ (codes "run" ∷ codes "--count-max=1" ∷ codes "1" ∷ [])
    ∷ (codes "run" ∷ codes "--count-max" ∷ codes "1" ∷ codes "--count-max=2" ∷ []) ∷ (codes "run" ∷ codes "--fast" ∷ []) ∷ (codes "run" ∷ codes "--fast=1" ∷ []) ∷ (codes "run" ∷ codes "--fast" ∷ codes "1" ∷ []) ∷ [])
    ≡ true
unfolding on_words
words_without_a_reading = refl
