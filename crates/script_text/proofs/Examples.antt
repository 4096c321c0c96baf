-- What is written of bytes, times, values, transactions, answers and refusals, computed from the definitions.
use Rattle.std.specs.Prelude.{◌≡◌, ℕ, true, false, List, [], ◌∷◌, ◌++◌, map, replicate, Some, None, codes, refl, ⊤, pos, negsuc}
use Rattle.std.specs.Fmt.{digits}
use Rattle.mvcc_key.specs.Order.{Timestamp, no_time}
use Rattle.mvcc_key.specs.History.{Deletion, Bytes, Int}
use Rattle.mvcc_key.specs.Refusal as refusals
use Rattle.mvcc_key.specs.Field.{GcBytesAge}
use Rattle.txn_state.specs.Transaction.{SequenceLimit, EpochLimit, BadRanges}
use Rattle.uuid.specs.Text.{by_index}
use Rattle.script_text.specs.Statistics.{field_text, statistics_line}
use Rattle.script_text.specs.Text as shown
use Rattle.script_text.specs.Text.{BadLine, TxnExists, NoTxn, ByTxn, ByEngine, Accepted, TxnLine, Got, Deleted, Incremented, Resolved, ResolvedRange, Statistics, LayoutLine, Refused, escaped_byte, quoted, next_range, txn_name, txn_numbers, txn_times, txn_line, increment_line, resume_line, resolved_lines, get_line, conflict_text, actual, refusal, txn_refusal, reason, yes_or_no, part_name, layout_line, show}

-- what an example unfolds
unfoldable pub on_texts : ⊤
unfolding digits by_index escaped_byte quoted shown.time shown.value shown.id shown.range next_range shown.ranges txn_name txn_numbers txn_times txn_line increment_line resume_line resolved_lines get_line conflict_text actual refusal txn_refusal reason yes_or_no part_name layout_line field_text statistics_line show
on_texts = tt

-- what is written at a second
abbrev one_second : Timestamp
one_second = record { wall = 1000000000; logical = 0 }

-- an id: fifteen zeros and a byte
abbrev id_of : ℕ → List ℕ
id_of b = replicate 15 0 ++ b ∷ []

-- what is written of bytes
written_bytes : shown.escaped (codes "!#[]~\"\\" ++ 0x20 ∷ 0x00 ∷ 0x0a ∷ 0x7f ∷ 0xab ∷ []) ≡ codes "!#[]~\\x22\\\\\\x20\\x00\\x0a\\x7f\\xab"
unfolding on_texts
written_bytes = refl

written_times : shown.time (record { wall = 12345678901; logical = 7 }) ≡ codes "12.345678901,7"
unfolding on_texts
written_times = refl

written_values : map shown.value (Deletion ∷ Bytes (codes "a\"") ∷ Int (pos 5) ∷ Int (negsuc 9) ∷ []) ≡ codes "/<empty>" ∷ codes "/BYTES/a\\x22" ∷ codes "/INT/5" ∷ codes "/INT/-10" ∷ []
unfolding on_texts
written_values = refl

-- transactions
written_transactions : map (λ t. show (TxnLine (codes "A") t))
    (record { id = id_of 1; epoch = 0; sequence = 2147483647; read_ts = one_second; write_ts = record { wall = 5; logical = 7 }; global_limit = no_time; ignored = [] }
    ∷ record {
      id = 0x67 ∷ 0xe5 ∷ 0x50 ∷ 0x44 ∷ 0x10 ∷ 0xb1 ∷ 0x42 ∷ 0x6f ∷ 0x92 ∷ 0x47 ∷ 0xbb ∷ 0x68 ∷ 0x0e ∷ 0x5f ∷ 0xe0 ∷ 0xc8 ∷ [];
      epoch = 3;
      sequence = 0;
      read_ts = no_time;
      write_ts = no_time;
      global_limit = one_second;
      ignored = record { first = 0; last = 1 } ∷ record { first = 4; last = 2147483647 } ∷ [];
    }
    ∷ [])
    ≡ codes "txn: \"A\" id=00000000-0000-0000-0000-000000000001 epoch=0 seq=2147483647 read=1.000000000,0 write=0.000000005,7 limit=0.000000000,0 ignored=none\n"
    ∷ codes "txn: \"A\" id=67e55044-10b1-426f-9247-bb680e5fe0c8 epoch=3 seq=0 read=0.000000000,0 write=0.000000000,0 limit=1.000000000,0 ignored=0-1,4-2147483647\n" ∷ []
unfolding on_texts
written_transactions = refl

-- answers and refusals
written_answers : map show (Accepted ∷ Got (codes "a") None ∷ Got (codes "a") (Some (record { key = codes "a"; body = Bytes (codes "x"); ts = record { wall = 1; logical = 0 } })) ∷ Deleted true ∷ Deleted false ∷ Incremented (negsuc 9) ∷ LayoutLine 0 2 1 true ∷ LayoutLine 1 3 0 false ∷ [])
    ≡ codes "ok\n" ∷ codes "get: \"a\" -> <no data>\n" ∷ codes "get: \"a\" -> /BYTES/x @0.000000001,0\n" ∷ codes "del: found=true\n" ∷ codes "del: found=false\n" ∷ codes "increment: -10\n" ∷ codes "part 0: mem keys=2 clears=1 ranges=yes\n"
    ∷ codes "part 1: run keys=3 clears=0 ranges=no\n" ∷ []
unfolding on_texts
written_answers = refl

-- resolutions, and what is left of a span
written_resolutions : map show (Resolved true ∷ Resolved false ∷ ResolvedRange 0 None ∷ ResolvedRange 12 (Some (record { start = codes "c"; end = codes "z\"" })) ∷ ResolvedRange 1 (Some (record { start = []; end = codes "c" ++ 0x00 ∷ [] })) ∷ [])
    ≡ codes "resolve: found=true\n" ∷ codes "resolve: found=false\n" ∷ codes "resolve_range: resolved=0\n" ∷ codes "resolve_range: resolved=12\nresume: \"c\"-\"z\\x22\"\n" ∷ codes "resolve_range: resolved=1\nresume: \"\"-\"c\\x00\"\n" ∷ []
unfolding on_texts
written_resolutions = refl

written_refusals_of_resolutions : map (λ r. show (Refused (ByEngine r))) (refusals.BadSpan ∷ refusals.CommitBelowIntent (record { wall = 2500000000; logical = 3 }) ∷ [])
    ≡ codes "error: BadSpan\n" ∷ codes "error: CommitBelowIntent ts=2.500000000,3\n" ∷ []
unfolding on_texts
written_refusals_of_resolutions = refl

written_statistics : show (Statistics (record { key_count = 1; key_bytes = 2; val_count = 3; val_bytes = 4; live_count = 5; live_bytes = 6; intent_count = 7; intent_bytes = 8; intent_age = 9; gc_bytes_age = 10; range_key_count = 11; range_key_bytes = 12; range_val_count = 13; range_val_bytes = 14 }) 1500000000)
    ≡ codes "stats: key_count=1 key_bytes=2 val_count=3 val_bytes=4 live_count=5 live_bytes=6 intent_count=7 intent_bytes=8 intent_age=9 gc_bytes_age=10 range_key_count=11 range_key_bytes=12 range_val_count=13 range_val_bytes=14 last_update_nanos=1500000000\n"
unfolding on_texts
written_statistics = refl

written_refusals : map (λ r. show (Refused (ByEngine r)))
    (refusals.EmptyKey ∷ refusals.KeyTooLong 4097 ∷ refusals.ValueTooLong 1048577 ∷ refusals.BadTimestamp ∷ refusals.TooOld (record { wall = 1000000000; logical = 0 }) ∷ refusals.MomentTooEarly 5 ∷ refusals.CountOverflow GcBytesAge ∷ [])
    ≡ codes "error: EmptyKey\n" ∷ codes "error: KeyTooLong length=4097\n" ∷ codes "error: ValueTooLong length=1048577\n" ∷ codes "error: BadTimestamp\n" ∷ codes "error: TooOld existing=1.000000000,0\n"
    ∷ codes "error: MomentTooEarly latest=5\n" ∷ codes "error: CountOverflow field=gc_bytes_age\n" ∷ []
unfolding on_texts
written_refusals = refl

written_bad_line : show (Refused (BadLine 12)) ≡ codes "error: BadLine line=12\n"
unfolding on_texts
written_bad_line = refl

written_conflicts : map (λ is. show (Refused (ByEngine (refusals.Conflict is))))
    ((record { key = codes "a"; id = id_of 1; ts = record { wall = 2000000000; logical = 0 } } ∷ [])
    ∷ (record { key = codes "a"; id = id_of 1; ts = one_second } ∷ record { key = codes "b\""; id = id_of 0xfe; ts = one_second } ∷ []) ∷ [])
    ≡ codes "error: Conflict \"a\"/00000000-0000-0000-0000-000000000001@2.000000000,0\n"
    ∷ codes "error: Conflict \"a\"/00000000-0000-0000-0000-000000000001@1.000000000,0 \"b\\x22\"/00000000-0000-0000-0000-0000000000fe@1.000000000,0\n" ∷ []
unfolding on_texts
written_conflicts = refl

written_refusals_of_writes : map (λ r. show (Refused (ByEngine r)))
    (refusals.EpochFault 0 1 ∷ refusals.ReplayMissing 1 ∷ refusals.ReplayMismatch (Int (pos 5)) ∷ refusals.ReplayMismatch Deletion ∷ refusals.ConditionFailed (Some (Bytes (codes "abc"))) ∷ refusals.ConditionFailed None
    ∷ refusals.NotInteger (Bytes (codes "x")) ∷ refusals.IntegerOverflow (pos 9223372036854775807) (pos 1) ∷ refusals.IntegerOverflow (negsuc 1) (negsuc 9223372036854775807) ∷ refusals.IntentTooLong 16777217 ∷ [])
    ≡ codes "error: EpochFault own=0 intent=1\n" ∷ codes "error: ReplayMissing sequence=1\n" ∷ codes "error: ReplayMismatch stored=/INT/5\n" ∷ codes "error: ReplayMismatch stored=/<empty>\n"
    ∷ codes "error: ConditionFailed actual=/BYTES/abc\n" ∷ codes "error: ConditionFailed actual=<none>\n" ∷ codes "error: NotInteger actual=/BYTES/x\n" ∷ codes "error: IntegerOverflow old=9223372036854775807 by=1\n"
    ∷ codes "error: IntegerOverflow old=-2 by=-9223372036854775808\n" ∷ codes "error: IntentTooLong length=16777217\n" ∷ []
unfolding on_texts
written_refusals_of_writes = refl

written_refusals_of_transactions : map (λ r. show (Refused r)) (TxnExists ∷ NoTxn ∷ ByTxn (SequenceLimit 2147483647) ∷ ByTxn (EpochLimit 2147483647) ∷ ByTxn BadRanges ∷ [])
    ≡ codes "error: TxnExists\n" ∷ codes "error: NoTxn\n" ∷ codes "error: SequenceLimit sequence=2147483647\n" ∷ codes "error: EpochLimit epoch=2147483647\n" ∷ codes "error: BadRanges\n" ∷ []
unfolding on_texts
written_refusals_of_transactions = refl
