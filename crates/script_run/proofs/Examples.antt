-- Scripts and what a run writes for them, computed from the definitions.
use Rattle.std.specs.Prelude.{◌≡◌, [], ◌∷◌, Some, codes, refl, ⊤}
use Rattle.mvcc_key.specs.Items.{items}
use Rattle.mvcc_key.specs.Fragments.{fragments}
use Rattle.mvcc_value.specs.Encoding.{varint, value_bytes, plain_body, value_of}
use Rattle.stat_core.specs.DeadSince.{dead_since}
use Rattle.stat_core.specs.ComputeStats.{overflowing, key_sums, compute_stats}
use Rattle.lsm_store.specs.Parts.{after_batch, flushed, compacted}
use Rattle.intent_meta.specs.Record.{record_bytes, record_of}
use Rattle.intent_meta.specs.StoredPairs.{stored_pairs}
use Rattle.read_rule.specs.Read.{get, decide, listed}
use Rattle.write_rule.specs.Write.{write, value_before}
use Rattle.intent_resolve.specs.Resolve.{resolve_intent, resolve, resolve_each, resolve_range}
use Rattle.mvcc_engine.specs.Step.{statistics, step}
use Rattle.script_line.proofs.Examples.{on_words}
use Rattle.script_words.specs.Forms.{text}
use Rattle.script_text.specs.Text.{escaped}
use Rattle.script_text.proofs.Examples.{on_texts}
use Rattle.script_run.specs.Output.{without_return, carry_out, output_from, lines, script_output, output, whole_part}

-- what an example unfolds
unfoldable pub on_literals : ⊤
unfolding on_words on_texts items fragments varint value_bytes plain_body value_of record_bytes record_of dead_since overflowing key_sums compute_stats stored_pairs after_batch flushed compacted get decide listed write value_before resolve_intent resolve resolve_each resolve_range statistics step without_return carry_out output_from lines script_output output whole_part
on_literals = tt

-- what is written of bytes, and read again
written_and_read : text (escaped (0x00 ∷ 0x22 ∷ 0x5c ∷ 0x78 ∷ 0x20 ∷ 0xff ∷ [])) ≡ Some (0x00 ∷ 0x22 ∷ 0x5c ∷ 0x78 ∷ 0x20 ∷ 0xff ∷ [])
unfolding on_literals
written_and_read = refl

empty_script : output (codes "run" ∷ []) [] ≡ []
unfolding on_literals
empty_script = refl

put_and_get : output (codes "run" ∷ []) (codes "put k=a ts=1 v=abc\nget k=a ts=1\n") ≡ codes "ok\nget: \"a\" -> /BYTES/abc @1.000000000,0\n"
unfolding on_literals
put_and_get = refl

too_old : output (codes "run" ∷ []) (codes "put k=a ts=1 v=abc\nput k=a ts=1 v=x\nget k=b ts=9") ≡ codes "ok\nerror: TooOld existing=1.000000000,0\nget: \"b\" -> <no data>\n"
unfolding on_literals
too_old = refl

between_versions : output (codes "run" ∷ []) (codes "put k=a ts=1 v=x\nput k=a ts=3 v=y\nget k=a ts=2\nget k=a ts=4\n")
    ≡ codes "ok\nok\nget: \"a\" -> /BYTES/x @1.000000000,0\nget: \"a\" -> /BYTES/y @3.000000000,0\n"
unfolding on_literals
between_versions = refl

bad_lines : output (codes "run" ∷ []) (codes "put k=a\nput k=a k=b ts=1 v=x\nput k=\\x4 ts=1 v=x\nput k=a ts=9223372037 v=x\nput k=a ts=1 v=x int=1\nPut k=a ts=1 v=x\n")
    ≡ codes "error: BadLine line=1\nerror: BadLine line=2\nerror: BadLine line=3\nerror: BadLine line=4\nerror: BadLine line=5\nerror: BadLine line=6\n"
unfolding on_literals
bad_lines = refl

blank_lines : output (codes "run" ∷ []) (codes "\n \t \n# put k=a\n  put \t k=a  v=abc\tts=1\r\nget k=\\x61 ts=1,5") ≡ codes "ok\nget: \"a\" -> /BYTES/abc @1.000000000,0\n"
unfolding on_literals
blank_lines = refl

texts : output (codes "run" ∷ []) (codes "put ts=0.5,7 v= k=\\x00\\\\\"\nget k=\\x00\\\\\\x22 ts=0.500000000,8\n") ≡ codes "ok\nget: \"\\x00\\\\\\x22\" -> /BYTES/ @0.500000000,7\n"
unfolding on_literals
texts = refl

refused : output (codes "run" ∷ []) (codes "put k= ts=1 v=x\nput k=a ts=0 v=x\nput k=a ts=0,1 v=x\nget k= ts=0\n") ≡ codes "error: EmptyKey\nerror: BadTimestamp\nok\nget: \"\" -> <no data>\n"
unfolding on_literals
refused = refl

usage : output (codes "run" ∷ codes "--fast" ∷ []) (codes "put k=a ts=1 v=abc\n") ≡ []
unfolding on_literals
usage = refl

whole : whole_part (codes "put\nget") ≡ codes "put\n"
unfolding on_literals
whole = refl

deleted : output (codes "run" ∷ []) (codes "put k=a ts=1 v=abc\ndel k=a ts=3\nage now=10\nage now=9\nget k=a ts=3\nstats\n")
    ≡ codes "ok\ndel: found=true\nok\nerror: MomentTooEarly latest=10000000000\nget: \"a\" -> <no data>\nstats: key_count=1 key_bytes=26 val_count=2 val_bytes=8 live_count=0 live_bytes=0 intent_count=0 intent_bytes=0 intent_age=0 gc_bytes_age=238 range_key_count=0 range_key_bytes=0 range_val_count=0 range_val_bytes=0 last_update_nanos=10000000000\n"
unfolding on_literals
deleted = refl

bounded : output (codes "run" ∷ codes "--stats" ∷ codes "--count-max" ∷ codes "13" ∷ []) (codes "put k=a ts=1 v=abc\n")
    ≡ codes "error: CountOverflow field=key_bytes\nstats: key_count=0 key_bytes=0 val_count=0 val_bytes=0 live_count=0 live_bytes=0 intent_count=0 intent_bytes=0 intent_age=0 gc_bytes_age=0 range_key_count=0 range_key_bytes=0 range_val_count=0 range_val_bytes=0 last_update_nanos=0\n"
unfolding on_literals
bounded = refl

parts : output (codes "run" ∷ []) (codes "put k=a ts=1 v=abc\nflush\nflush\nput k=a ts=2 v=x\ndel k=b ts=1\nlayout\nflush\ncompact keep=2\nlayout\ncompact keep=1\nlayout\n")
    ≡ codes "ok\nok\nok\nok\ndel: found=false\npart 0: mem keys=2 clears=0 ranges=no\npart 1: run keys=1 clears=0 ranges=no\nok\nok\npart 0: mem keys=0 clears=0 ranges=no\npart 1: run keys=2 clears=0 ranges=no\npart 2: run keys=1 clears=0 ranges=no\nok\npart 0: mem keys=0 clears=0 ranges=no\npart 1: run keys=3 clears=0 ranges=no\n"
unfolding on_literals
parts = refl

bad_parts : output (codes "run" ∷ []) (codes "compact keep=0\ncompact\nflush x\nlayout keep=1\ncompact keep=1 keep=2\ncompact keep\nflush keep=1\n")
    ≡ codes "error: BadLine line=1\nerror: BadLine line=2\nerror: BadLine line=3\nerror: BadLine line=4\nerror: BadLine line=5\nerror: BadLine line=6\nerror: BadLine line=7\n"
unfolding on_literals
bad_parts = refl

parts_with_statistics : output (codes "run" ∷ codes "--stats" ∷ []) (codes "put k=a ts=1 v=abc\nflush\nlayout\n")
    ≡ codes "ok\nstats: key_count=1 key_bytes=14 val_count=1 val_bytes=8 live_count=1 live_bytes=22 intent_count=0 intent_bytes=0 intent_age=0 gc_bytes_age=0 range_key_count=0 range_key_bytes=0 range_val_count=0 range_val_bytes=0 last_update_nanos=1000000000\nok\nstats: key_count=1 key_bytes=14 val_count=1 val_bytes=8 live_count=1 live_bytes=22 intent_count=0 intent_bytes=0 intent_age=0 gc_bytes_age=0 range_key_count=0 range_key_bytes=0 range_val_count=0 range_val_bytes=0 last_update_nanos=1000000000\npart 0: mem keys=0 clears=0 ranges=no\npart 1: run keys=1 clears=0 ranges=no\nstats: key_count=1 key_bytes=14 val_count=1 val_bytes=8 live_count=1 live_bytes=22 intent_count=0 intent_bytes=0 intent_age=0 gc_bytes_age=0 range_key_count=0 range_key_bytes=0 range_val_count=0 range_val_bytes=0 last_update_nanos=1000000000\n"
unfolding on_literals
parts_with_statistics = refl

transactions : output (codes "run" ∷ []) (codes "put k=a ts=1 v=x\ntxn_begin t=A ts=2\nput t=A k=a v=abc\nput t=A k=a v=abc\nput t=A k=a v=x\ntxn_step t=A n=2\nput t=A k=a v=de\ntxn_begin t=B ts=2 id=00000000-0000-0000-0000-000000000001\ntxn_step t=B\nput t=B k=a v=de\nput k=a ts=9 v=z\n")
    ≡ codes "ok\ntxn: \"A\" id=00000000-0000-0000-0000-000000000001 epoch=0 seq=0 read=2.000000000,0 write=2.000000000,0 limit=0.000000000,0 ignored=none\nok\nok\nerror: ReplayMismatch stored=/BYTES/abc\ntxn: \"A\" id=00000000-0000-0000-0000-000000000001 epoch=0 seq=2 read=2.000000000,0 write=2.000000000,0 limit=0.000000000,0 ignored=none\nok\ntxn: \"B\" id=00000000-0000-0000-0000-000000000001 epoch=0 seq=0 read=2.000000000,0 write=2.000000000,0 limit=0.000000000,0 ignored=none\ntxn: \"B\" id=00000000-0000-0000-0000-000000000001 epoch=0 seq=1 read=2.000000000,0 write=2.000000000,0 limit=0.000000000,0 ignored=none\nerror: ReplayMissing sequence=1\nerror: Conflict \"a\"/00000000-0000-0000-0000-000000000001@2.000000000,0\n"
unfolding on_literals
transactions = refl

names : output (codes "run" ∷ []) (codes "txn_begin t=A ts=1\ntxn_begin t=A ts=1\ntxn_remove t=A\nput t=A k=a v=x\ntxn_begin t=A ts=2\ntxn_step t=A n=2147483647\ntxn_step t=A\ntxn_ignore_seqs t=A seqs=2-1\n")
    ≡ codes "txn: \"A\" id=00000000-0000-0000-0000-000000000001 epoch=0 seq=0 read=1.000000000,0 write=1.000000000,0 limit=0.000000000,0 ignored=none\nerror: TxnExists\nok\nerror: NoTxn\ntxn: \"A\" id=00000000-0000-0000-0000-000000000002 epoch=0 seq=0 read=2.000000000,0 write=2.000000000,0 limit=0.000000000,0 ignored=none\ntxn: \"A\" id=00000000-0000-0000-0000-000000000002 epoch=0 seq=2147483647 read=2.000000000,0 write=2.000000000,0 limit=0.000000000,0 ignored=none\nerror: SequenceLimit sequence=2147483647\nerror: BadRanges\n"
unfolding on_literals
names = refl

increments : output (codes "run" ∷ []) (codes "increment k=a ts=1 inc=9223372036854775807\nincrement k=a ts=2 inc=1\ntxn_begin t=A ts=3\nincrement t=A k=b inc=5\nincrement t=A k=b inc=5\nput t=A k=b v=x\n")
    ≡ codes "increment: 9223372036854775807\nerror: IntegerOverflow old=9223372036854775807 by=1\ntxn: \"A\" id=00000000-0000-0000-0000-000000000001 epoch=0 seq=0 read=3.000000000,0 write=3.000000000,0 limit=0.000000000,0 ignored=none\nincrement: 5\nincrement: 5\nerror: ReplayMismatch stored=/INT/5\n"
unfolding on_literals
increments = refl

conditions : output (codes "run" ∷ []) (codes "cput k=a ts=1 v=abc\ncput k=a ts=2 v=x\ncput k=a ts=2 v=x cond=abc\ninitput k=a ts=3 v=x\ninitput k=a ts=4 v=y\nincrement k=a ts=4\n")
    ≡ codes "ok\nerror: ConditionFailed actual=/BYTES/abc\nok\nok\nerror: ConditionFailed actual=/BYTES/x\nerror: NotInteger actual=/BYTES/x\n"
unfolding on_literals
conditions = refl

-- a numbered id meets one that was given: the two names are one transaction's
one_id : output (codes "run" ∷ []) (codes "txn_begin t=A ts=1 id=00000000000000000000000000000002\ntxn_begin t=A ts=1\ntxn_begin t=B ts=2\nput t=A k=a v=x\nput t=B k=a v=x\ntxn_step t=B\nput t=B k=a v=y\nput t=A k=a v=x\nput t=A k=a v=y\n")
    ≡ codes "txn: \"A\" id=00000000-0000-0000-0000-000000000002 epoch=0 seq=0 read=1.000000000,0 write=1.000000000,0 limit=0.000000000,0 ignored=none\nerror: TxnExists\ntxn: \"B\" id=00000000-0000-0000-0000-000000000002 epoch=0 seq=0 read=2.000000000,0 write=2.000000000,0 limit=0.000000000,0 ignored=none\nok\nok\ntxn: \"B\" id=00000000-0000-0000-0000-000000000002 epoch=0 seq=1 read=2.000000000,0 write=2.000000000,0 limit=0.000000000,0 ignored=none\nok\nok\nerror: ReplayMismatch stored=/BYTES/x\n"
unfolding on_literals
one_id = refl

-- a commit below its intent is refused, and one above it moves the value there
resolved : output (codes "run" ∷ []) (codes "txn_begin t=A ts=2\nput t=A k=a v=abc\ntxn_step t=A\nput t=A k=a v=de\nresolve t=A k=a status=committed ts=1\nresolve t=A k=a status=committed ts=4\nget k=a ts=4\nget k=a ts=3\nresolve t=A k=a status=committed ts=4\n")
    ≡ codes "txn: \"A\" id=00000000-0000-0000-0000-000000000001 epoch=0 seq=0 read=2.000000000,0 write=2.000000000,0 limit=0.000000000,0 ignored=none\nok\ntxn: \"A\" id=00000000-0000-0000-0000-000000000001 epoch=0 seq=1 read=2.000000000,0 write=2.000000000,0 limit=0.000000000,0 ignored=none\nok\nerror: CommitBelowIntent ts=2.000000000,0\nresolve: found=true\nget: \"a\" -> /BYTES/de @4.000000000,0\nget: \"a\" -> <no data>\nresolve: found=false\n"
unfolding on_literals
resolved = refl

-- what was written at ignored sequences is dropped, and an intent of which nothing is left goes
dropped : output (codes "run" ∷ []) (codes "txn_begin t=A ts=2\nput t=A k=a v=abc\ntxn_ignore_seqs t=A seqs=0-1\nresolve t=A k=a status=pending\nget k=a ts=9\nresolve t=A k=a status=aborted\n")
    ≡ codes "txn: \"A\" id=00000000-0000-0000-0000-000000000001 epoch=0 seq=0 read=2.000000000,0 write=2.000000000,0 limit=0.000000000,0 ignored=none\nok\ntxn: \"A\" id=00000000-0000-0000-0000-000000000001 epoch=0 seq=0 read=2.000000000,0 write=2.000000000,0 limit=0.000000000,0 ignored=0-1\nresolve: found=true\nget: \"a\" -> <no data>\nresolve: found=false\n"
unfolding on_literals
dropped = refl

-- the intents of a span are resolved up to the most, and what is left is told
spans : output (codes "run" ∷ []) (codes "txn_begin t=A ts=2\nput t=A k=a v=x\nput t=A k=c v=x\nresolve_range t=A k=a end=z status=aborted max=1\nresolve_range t=A k=z end=a status=aborted\nget k=a ts=9\n")
    ≡ codes "txn: \"A\" id=00000000-0000-0000-0000-000000000001 epoch=0 seq=0 read=2.000000000,0 write=2.000000000,0 limit=0.000000000,0 ignored=none\nok\nok\nresolve_range: resolved=1\nresume: \"c\"-\"z\"\nerror: BadSpan\nget: \"a\" -> <no data>\n"
unfolding on_literals
spans = refl
