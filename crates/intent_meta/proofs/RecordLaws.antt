-- A record that is written is read again, and what is read was written.
use Rattle.std.proofs.Common.{◌≡◌, ℕ, zero, suc, ◌+◌, ◌^◌, ◌<◌, ◌≤◌, Bool, true, false, ltb, List, [], ◌∷◌, ◌++◌, length, Option, Some, None, Ok, refl, sym, ap, subst, ◌∙◌, append_assoc, arith}
use Rattle.std.specs.Prelude.{not}
use Rattle.std.specs.List.{flat_map}
use Rattle.std.specs.Int.{Width, w32, w64, to_be_bytes}
use Rattle.std.proofs.lemmas.Bool.{le-ltb, ltb-true, ltb-false, and_parts, not-false, not_from_true, and_from, le-leb}
use Rattle.std.proofs.lemmas.List.{append-nil}
use Rattle.std.proofs.lemmas.List.Concat.{flat_map-cons}
use Rattle.mvcc_key.specs.Steps.{unless_fault, bytes_at, number_at}
use Rattle.mvcc_key.specs.Order.{Timestamp, is_no_time, max_wall, max_logical}
use Rattle.mvcc_key.specs.Limits.{max_count}
use Rattle.mvcc_key.specs.History.{Entry}
use Rattle.mvcc_key.proofs.ByteLaws.{IsBytes, IsBytes-rest, IsWide, wide32, wide64, bind_ok, unless_ok, unless_passes, step, ok_is, none_left, Takes, Takes-then, number_takes, number_again, bytes_take, bytes_again}
use Rattle.mvcc_key.proofs.KeyFormatLaws.{in_range}
use Rattle.intent_meta.specs.declared.fault.IntentFault.TheVariants.{Short, Range, Length, Order, Trailing}
use Rattle.mvcc_value.specs.Encoding.{is_value_length}
use Rattle.intent_meta.specs.Record.{IntentRecord, flag_byte, entry_bytes, record_bytes, limited_at, flag_at, value_length_at, is_entry_value, is_next_sequence, entry_from, entries_from, time_from, behind_flag, behind_sequence, record_of}
use Rattle.intent_meta.specs.Rules.{IsRecordTime, IsRecordEntry, AreRecordEntries, IsRecord, IsRecordOf}

-- ---- fields

-- a number up to a limit that is read was written, and is within the limit
pub limited-takes : (w : Width) (most : ℕ) (wide : IsWide w most) (limit : ℕ) (bytes : List ℕ) (x : ℕ × List ℕ) → IsBytes bytes
    → limited_at w limit bytes ≡ Ok x → Takes bytes (to_be_bytes w x.0) x.1 × (x.0 ≤ limit)
limited-takes w most wide limit bytes x fits e =
    let a = bind_ok (number_at Short w bytes) _ x e in
    let b = unless_ok (ltb limit a.0.0) Range a.0 x a.2 in
    let t = number_takes Short w most wide bytes a.0.0 a.0.1 fits a.1 in
    subst (λ (y : ℕ × List ℕ). Takes bytes (to_be_bytes w y.0) y.1 × (y.0 ≤ limit)) b.1 (t.0, ltb-false _ _ b.0)

-- a number up to a limit is read again
pub limited-again : (w : Width) (most : ℕ) (wide : IsWide w most) (limit n : ℕ) (rest : List ℕ) → n ≤ limit → limit < most
    → limited_at w limit (to_be_bytes w n ++ rest) ≡ Ok (n, rest)
limited-again w most wide limit n rest le lt =
    rw (number_again Short w most wide n rest (omega arith), le-ltb limit n le) refl

-- a flag that is read was written
pub flag-takes : (bytes : List ℕ) (x : Bool × List ℕ) → IsBytes bytes → flag_at bytes ≡ Ok x → Takes bytes (flag_byte x.0 ∷ []) x.1
flag-takes [] x fits e = absurd cc
flag-takes (zero ∷ bytes) x fits e =
    subst (λ (y : Bool × List ℕ). Takes (0 ∷ bytes) (flag_byte y.0 ∷ []) y.1) (ok_is (false, bytes) x e) (record { parts = refl; rest_fits = IsBytes-rest 0 bytes fits })
flag-takes (suc zero ∷ bytes) x fits e =
    subst (λ (y : Bool × List ℕ). Takes (1 ∷ bytes) (flag_byte y.0 ∷ []) y.1) (ok_is (true, bytes) x e) (record { parts = refl; rest_fits = IsBytes-rest 1 bytes fits })
flag-takes (suc (suc b) ∷ bytes) x fits e = absurd cc

-- a flag is read again
pub flag-again : (b : Bool) (rest : List ℕ) → flag_at (flag_byte b ∷ rest) ≡ Ok (b, rest)
flag-again true rest = refl
flag-again false rest = refl

-- a timestamp that is read was written, and is one
pub time-takes : (bytes : List ℕ) (x : Timestamp × List ℕ) → IsBytes bytes → time_from bytes ≡ Ok x
    → Takes bytes (to_be_bytes w64 (x.0).wall ++ to_be_bytes w32 (x.0).logical) x.1 × IsRecordTime x.0
time-takes bytes x fits e =
    let a = bind_ok (limited_at w64 max_wall bytes) _ x e in
    let b = bind_ok (limited_at w32 max_logical a.0.1) _ x a.2 in
    let ts : Timestamp = record { wall = a.0.0; logical = b.0.0 } in
    let c = unless_ok (is_no_time ts) Range (ts, b.0.1) x b.2 in
    let t0 = limited-takes w64 (2 ^ 64) wide64 max_wall bytes a.0 fits a.1 in
    let t1 = limited-takes w32 (2 ^ 32) wide32 max_logical a.0.1 b.0 t0.0.rest_fits b.1 in
    subst (λ (y : Timestamp × List ℕ). Takes bytes (to_be_bytes w64 (y.0).wall ++ to_be_bytes w32 (y.0).logical) y.1 × IsRecordTime y.0) c.1 (
      Takes-then bytes (to_be_bytes w64 a.0.0) a.0.1 (to_be_bytes w32 b.0.0) b.0.1 t0.0 t1.0,
      record { some = c.0; range = and_from _ _ (le-leb _ _ t0.1) (le-leb _ _ t1.1) },
    )

-- a timestamp is read again
pub time-again : (t : Timestamp) (rest : List ℕ) → IsRecordTime t → time_from (to_be_bytes w64 t.wall ++ (to_be_bytes w32 t.logical ++ rest)) ≡ Ok (t, rest)
time-again t rest h =
    let far = in_range t h.range in
    rw (limited-again w64 (2 ^ 64) wide64 max_wall t.wall (to_be_bytes w32 t.logical ++ rest) (omega arith) (omega arith))
    (rw (limited-again w32 (2 ^ 32) wide32 max_logical t.logical rest (omega arith) (omega arith)) (unless_passes (is_no_time t) Range (t, rest) h.some))

-- ---- history entries

-- an entry that is read was written, and may stand there
pub entry-takes : (before : Option ℕ) (limit : ℕ) (bytes : List ℕ) (x : Entry (List ℕ) × List ℕ) → IsBytes bytes
    → entry_from before limit bytes ≡ Ok x → Takes bytes (entry_bytes x.0) x.1 × IsRecordEntry before limit x.0
entry-takes before limit bytes x fits e =
    let a = bind_ok (limited_at w32 max_count bytes) _ x e in
    let b = bind_ok (unless_fault (not (is_next_sequence before limit a.0.0)) Order a.0) _ x a.2 in
    let c = bind_ok (number_at Short w32 b.0.1) _ x b.2 in
    let d = bind_ok (bytes_at Short c.0.0 c.0.1) _ x c.2 in
    let made : Entry (List ℕ) × List ℕ = (record { sequence = a.0.0; value = d.0.0 }, d.0.1) in
    let placed = unless_ok (not (is_next_sequence before limit a.0.0)) Order a.0 b.0 b.1 in
    let last = unless_ok (not (is_entry_value d.0.0)) Length made x d.2 in
    let t0 = limited-takes w32 (2 ^ 32) wide32 max_count bytes a.0 fits a.1 in
    let t1 : Takes bytes (to_be_bytes w32 a.0.0) b.0.1 = subst (λ (y : ℕ × List ℕ). Takes bytes (to_be_bytes w32 a.0.0) y.1) placed.1 t0.0 in
    let t2 = number_takes Short w32 (2 ^ 32) wide32 b.0.1 c.0.0 c.0.1 t1.rest_fits c.1 in
    let t3 = bytes_take Short c.0.0 c.0.1 d.0.0 d.0.1 t2.0.rest_fits d.1 in
    let len : length d.0.0 ≡ c.0.0 = t3.1 in
    let sized : Takes b.0.1 (to_be_bytes w32 (length d.0.0)) c.0.1 = subst (λ (n : ℕ). Takes b.0.1 (to_be_bytes w32 n) c.0.1) (sym len) t2.0 in
    let both : Takes b.0.1 (to_be_bytes w32 (length d.0.0) ++ d.0.0) d.0.1 = Takes-then b.0.1 (to_be_bytes w32 (length d.0.0)) c.0.1 d.0.0 d.0.1 sized t3.0 in
    let whole : Takes bytes (entry_bytes made.0) d.0.1 = Takes-then bytes (to_be_bytes w32 a.0.0) b.0.1 (to_be_bytes w32 (length d.0.0) ++ d.0.0) d.0.1 t1 both in
    subst (λ (y : Entry (List ℕ) × List ℕ). Takes bytes (entry_bytes y.0) y.1 × IsRecordEntry before limit y.0) last.1
    (whole, record { sequence = t0.1; placed = not-false _ placed.0; size = subst (λ (n : ℕ). n < 2 ^ 32) (sym len) t2.1; value = not-false _ last.0 })

-- an entry is read again
pub entry-again : (before : Option ℕ) (limit : ℕ) (e : Entry (List ℕ)) (rest : List ℕ) → IsRecordEntry before limit e
    → entry_from before limit (entry_bytes e ++ rest) ≡ Ok (e, rest)
entry-again before limit e rest h =
    let tail : List ℕ = e.value ++ rest in
    let sized : List ℕ = to_be_bytes w32 (length e.value) ++ tail in
    let first : limited_at w32 max_count (to_be_bytes w32 e.sequence ++ sized) ≡ Ok (e.sequence, sized) =
    limited-again w32 (2 ^ 32) wide32 max_count e.sequence sized h.sequence (omega arith) in
    let second : unless_fault (not (is_next_sequence before limit e.sequence)) Order (e.sequence, sized) ≡ Ok (e.sequence, sized) =
    unless_passes _ Order (e.sequence, sized) (not_from_true _ h.placed) in
    let third : number_at Short w32 sized ≡ Ok (length e.value, tail) = number_again Short w32 (2 ^ 32) wide32 (length e.value) tail h.size in
    let fourth : bytes_at Short (length e.value) tail ≡ Ok (e.value, rest) = bytes_again Short (length e.value) e.value rest refl in
    let fifth : unless_fault (not (is_entry_value e.value)) Length (e, rest) ≡ Ok (e, rest) = unless_passes _ Length (e, rest) (not_from_true _ h.value) in
    step _ _ _ _ first (step _ _ _ _ second (step _ _ _ _ third (step _ _ _ _ fourth fifth)))

-- entries that are read were written, are as many as were asked for, and may stand there
pub entries-take : (n : ℕ) (before : Option ℕ) (limit : ℕ) (bytes : List ℕ) (x : List (Entry (List ℕ)) × List ℕ) → IsBytes bytes
    → entries_from n before limit bytes ≡ Ok x → Takes bytes (flat_map entry_bytes x.0) x.1 × (length x.0 ≡ n) × AreRecordEntries before limit x.0
entries-take zero before limit bytes x fits e =
    subst (λ (y : List (Entry (List ℕ)) × List ℕ). Takes bytes (flat_map entry_bytes y.0) y.1 × (length y.0 ≡ 0) × AreRecordEntries before limit y.0)
    (ok_is ([], bytes) x e) (record { parts = refl; rest_fits = fits }, refl, tt)
entries-take (suc n) before limit bytes x fits e =
    let a = bind_ok (entry_from before limit bytes) _ x e in
    let b = bind_ok (entries_from n (Some (a.0.0).sequence) limit a.0.1) _ x a.2 in
    let first = entry-takes before limit bytes a.0 fits a.1 in
    let others = entries-take n (Some (a.0.0).sequence) limit a.0.1 b.0 first.0.rest_fits b.1 in
    let both = Takes-then bytes (entry_bytes a.0.0) a.0.1 (flat_map entry_bytes b.0.0) b.0.1 first.0 others.0 in
    subst (λ (y : List (Entry (List ℕ)) × List ℕ). Takes bytes (flat_map entry_bytes y.0) y.1 × (length y.0 ≡ suc n) × AreRecordEntries before limit y.0)
    (ok_is (a.0.0 ∷ b.0.0, b.0.1) x b.2) (rw flat_map-cons both, ap suc others.1, (first.1, others.2))

-- entries are read again
pub entries-again : (es : List (Entry (List ℕ))) (before : Option ℕ) (limit : ℕ) (rest : List ℕ) → AreRecordEntries before limit es
    → entries_from (length es) before limit (flat_map entry_bytes es ++ rest) ≡ Ok (es, rest)
entries-again [] before limit rest h = refl
entries-again (e ∷ es) before limit rest h =
    let regrouped : flat_map entry_bytes (e ∷ es) ++ rest ≡ entry_bytes e ++ (flat_map entry_bytes es ++ rest) =
    ap (λ (xs : List ℕ). xs ++ rest) (flat_map-cons entry_bytes e es) ∙ append_assoc (entry_bytes e) (flat_map entry_bytes es) rest in
    let first = entry-again before limit e (flat_map entry_bytes es ++ rest) h.0 in
    let others = entries-again es (Some e.sequence) limit rest h.1 in
    ap (entries_from (suc (length es)) before limit) regrouped ∙ step _ _ _ _ first (step _ _ _ _ others refl)

-- entries behind one with a sequence are fewer than the sequences up to the limit
few_behind : (es : List (Entry (List ℕ))) (before limit : ℕ) → before < limit → AreRecordEntries (Some before) limit es → length es + suc before ≤ limit
few_behind [] before limit lt h = omega arith
few_behind (e ∷ es) before limit lt h =
    let parts = and_parts (ltb before e.sequence) (ltb e.sequence limit) h.0.placed in
    let above : before < e.sequence = ltb-true _ _ parts.0 in
    let rest = few_behind es e.sequence limit (ltb-true _ _ parts.1) h.1 in
    omega arith

-- the entries of a record are at most as many as the sequences below its own
pub length-entries_le : (es : List (Entry (List ℕ))) (limit : ℕ) → AreRecordEntries None limit es → length es ≤ limit
length-entries_le [] limit h = omega arith
length-entries_le (e ∷ es) limit h = let rest = few_behind es e.sequence limit (ltb-true _ _ h.0.placed) h.1 in omega arith

-- ---- records

-- a value's length that is read was written, and is one
pub value_length-takes : (deleted : Bool) (bytes : List ℕ) (x : ℕ × List ℕ) → IsBytes bytes → value_length_at deleted bytes ≡ Ok x
    → Takes bytes (to_be_bytes w32 x.0) x.1 × (x.0 < 2 ^ 32) × (is_value_length deleted x.0 ≡ true)
value_length-takes deleted bytes x fits e =
    let a = bind_ok (number_at Short w32 bytes) _ x e in
    let b = unless_ok (not (is_value_length deleted a.0.0)) Length a.0 x a.2 in
    let t = number_takes Short w32 (2 ^ 32) wide32 bytes a.0.0 a.0.1 fits a.1 in
    subst (λ (y : ℕ × List ℕ). Takes bytes (to_be_bytes w32 y.0) y.1 × (y.0 < 2 ^ 32) × (is_value_length deleted y.0 ≡ true)) b.1 (t.0, t.1, not-false _ b.0)

-- a value's length is read again
pub value_length-again : (deleted : Bool) (n : ℕ) (rest : List ℕ) → n < 2 ^ 32 → is_value_length deleted n ≡ true
    → value_length_at deleted (to_be_bytes w32 n ++ rest) ≡ Ok (n, rest)
value_length-again deleted n rest lt long =
    step _ _ _ _ (number_again Short w32 (2 ^ 32) wide32 n rest lt) (unless_passes _ Length (n, rest) (not_from_true _ long))

regroup : (a b c d e f g h : List ℕ) → ((((((a ++ b) ++ c) ++ d) ++ e) ++ f) ++ g) ++ h ≡ a ++ (b ++ (c ++ ((d ++ e) ++ (f ++ (g ++ h)))))
regroup a b c d e f g h = simp append_assoc

-- a record's entries are fewer than 2^32
pub few : (r : IntentRecord) → IsRecord r → length r.history < 2 ^ 32
few r h = omega (arith, length-entries_le r.history r.sequence h.entries, h.sequence)

-- a record is read again
pub record_of-record_bytes : (r : IntentRecord) → IsRecord r → record_of (record_bytes r) ≡ Ok r
unfolding record_of record_bytes
record_of-record_bytes r h =
    let b7 : List ℕ = flat_map entry_bytes r.history in
    let b6 : List ℕ = to_be_bytes w32 (length r.history) ++ b7 in
    let b5 : List ℕ = to_be_bytes w32 r.value_length ++ b6 in
    let b4 : List ℕ = flag_byte r.deleted ∷ b5 in
    let b3 : List ℕ = to_be_bytes w64 r.ts.wall ++ (to_be_bytes w32 r.ts.logical ++ b4) in
    let b2 : List ℕ = to_be_bytes w32 r.sequence ++ b3 in
    let b1 : List ℕ = to_be_bytes w32 r.epoch ++ b2 in
    let s0 : bytes_at Short 16 (r.id ++ b1) ≡ Ok (r.id, b1) = bytes_again Short 16 r.id b1 h.id in
    let s1 : limited_at w32 max_count b1 ≡ Ok (r.epoch, b2) = limited-again w32 (2 ^ 32) wide32 max_count r.epoch b2 h.epoch (omega arith) in
    let s2 : limited_at w32 max_count b2 ≡ Ok (r.sequence, b3) = limited-again w32 (2 ^ 32) wide32 max_count r.sequence b3 h.sequence (omega arith) in
    let s3 : time_from b3 ≡ Ok (r.ts, b4) = time-again r.ts b4 h.ts in
    let s4 : flag_at b4 ≡ Ok (r.deleted, b5) = flag-again r.deleted b5 in
    let s5 : value_length_at r.deleted b5 ≡ Ok (r.value_length, b6) = value_length-again r.deleted r.value_length b6 h.value_size h.value_length in
    let s7 : number_at Short w32 b6 ≡ Ok (length r.history, b7) = number_again Short w32 (2 ^ 32) wide32 (length r.history) b7 (few r h) in
    let s8 : entries_from (length r.history) None r.sequence b7 ≡ Ok (r.history, []) =
    ap (entries_from (length r.history) None r.sequence) (sym (append-nil b7)) ∙ entries-again r.history None r.sequence [] h.entries in
    ap record_of (regroup r.id (to_be_bytes w32 r.epoch) (to_be_bytes w32 r.sequence) (to_be_bytes w64 r.ts.wall) (to_be_bytes w32 r.ts.logical) (flag_byte r.deleted ∷ to_be_bytes w32 r.value_length) (to_be_bytes w32 (length r.history)) b7)
    ∙ step _ _ _ _ s0 (step _ _ _ _ s1 (step _ _ _ _ s2 (step _ _ _ _ s3 (step _ _ _ _ s4 (step _ _ _ _ s5 (step _ _ _ _ s7 (step _ _ _ _ s8 refl)))))))

-- the bytes behind the flag
abbrev value_and_entries : ℕ → List (Entry (List ℕ)) → List ℕ
value_and_entries value_length history = to_be_bytes w32 value_length ++ (to_be_bytes w32 (length history) ++ flat_map entry_bytes history)

-- what is known behind the flag
record Behind (id : List ℕ) (epoch sequence : ℕ) (ts : Timestamp) (deleted : Bool) (bytes : List ℕ) (r : IntentRecord) : Type 0 where
  value_length : ℕ
  history : List (Entry (List ℕ))
  is : record { id = id; epoch = epoch; sequence = sequence; ts = ts; deleted = deleted; value_length = value_length; history = history } ≡ r
  bytes_are : bytes ≡ value_and_entries value_length history
  long : is_value_length deleted value_length ≡ true
  size : value_length < 2 ^ 32
  entries : AreRecordEntries None sequence history

behind_flag_takes : (id : List ℕ) (epoch sequence : ℕ) (ts : Timestamp) (deleted : Bool) (bytes : List ℕ) (r : IntentRecord) → IsBytes bytes
    → behind_flag id epoch sequence ts deleted bytes ≡ Ok r → Behind id epoch sequence ts deleted bytes r
behind_flag_takes id epoch sequence ts deleted bytes r fits e =
    let g = bind_ok (value_length_at deleted bytes) _ r e in
    let l = bind_ok (number_at Short w32 g.0.1) _ r g.2 in
    let m = bind_ok (entries_from l.0.0 None sequence l.0.1) _ r l.2 in
    let last = unless_ok (ltb 0 (length m.0.1)) Trailing (record { id = id; epoch = epoch; sequence = sequence; ts = ts; deleted = deleted; value_length = g.0.0; history = m.0.0 }) r m.2 in
    let t5 = value_length-takes deleted bytes g.0 fits g.1 in
    let t7 = number_takes Short w32 (2 ^ 32) wide32 g.0.1 l.0.0 l.0.1 t5.0.rest_fits l.1 in
    let t8 = entries-take l.0.0 None sequence l.0.1 m.0 t7.0.rest_fits m.1 in
    let count : Takes g.0.1 (to_be_bytes w32 (length m.0.0)) l.0.1 = subst (λ (n : ℕ). Takes g.0.1 (to_be_bytes w32 n) l.0.1) (sym t8.1) t7.0 in
    let e7 : Takes l.0.1 (flat_map entry_bytes m.0.0) [] = subst (Takes l.0.1 (flat_map entry_bytes m.0.0)) (none_left m.0.1 last.0) t8.0 in
    let e6 = Takes-then g.0.1 (to_be_bytes w32 (length m.0.0)) l.0.1 (flat_map entry_bytes m.0.0) [] count e7 in
    let e5 = Takes-then bytes (to_be_bytes w32 g.0.0) g.0.1 (to_be_bytes w32 (length m.0.0) ++ flat_map entry_bytes m.0.0) [] t5.0 e6 in
    record {
      value_length = g.0.0;
      history = m.0.0;
      is = last.1;
      bytes_are = e5.parts ∙ append-nil (value_and_entries g.0.0 m.0.0);
      long = t5.2;
      size = t5.1;
      entries = t8.2;
    }

-- what is known behind the sequence
record Middle (id : List ℕ) (epoch sequence : ℕ) (bytes : List ℕ) (r : IntentRecord) : Type 0 where
  ts : Timestamp
  deleted : Bool
  rest : List ℕ
  taken : Takes bytes ((to_be_bytes w64 ts.wall ++ to_be_bytes w32 ts.logical) ++ (flag_byte deleted ∷ [])) rest
  time : IsRecordTime ts
  behind : Behind id epoch sequence ts deleted rest r

behind_sequence_takes : (id : List ℕ) (epoch sequence : ℕ) (bytes : List ℕ) (r : IntentRecord) → IsBytes bytes
    → behind_sequence id epoch sequence bytes ≡ Ok r → Middle id epoch sequence bytes r
behind_sequence_takes id epoch sequence bytes r fits e =
    let d = bind_ok (time_from bytes) _ r e in
    let f = bind_ok (flag_at d.0.1) _ r d.2 in
    let t3 = time-takes bytes d.0 fits d.1 in
    let t4 = flag-takes d.0.1 f.0 t3.0.rest_fits f.1 in
    record {
      ts = d.0.0;
      deleted = f.0.0;
      rest = f.0.1;
      taken = Takes-then bytes (to_be_bytes w64 (d.0.0).wall ++ to_be_bytes w32 (d.0.0).logical) d.0.1 (flag_byte f.0.0 ∷ []) f.0.1 t3.0 t4;
      time = t3.1;
      behind = behind_flag_takes id epoch sequence d.0.0 f.0.0 f.0.1 r t4.rest_fits f.2;
    }

-- what is known of the front
record Front (bytes : List ℕ) (r : IntentRecord) : Type 0 where
  id : List ℕ
  epoch : ℕ
  sequence : ℕ
  rest : List ℕ
  taken : bytes ≡ id ++ (to_be_bytes w32 epoch ++ (to_be_bytes w32 sequence ++ rest))
  id_length : length id ≡ 16
  epoch_limit : epoch ≤ max_count
  sequence_limit : sequence ≤ max_count
  middle : Middle id epoch sequence rest r

front_takes : (bytes : List ℕ) (r : IntentRecord) → IsBytes bytes → record_of bytes ≡ Ok r → Front bytes r
unfolding record_of
front_takes bytes r fits e =
    let a = bind_ok (bytes_at Short 16 bytes) _ r e in
    let b = bind_ok (limited_at w32 max_count a.0.1) _ r a.2 in
    let c = bind_ok (limited_at w32 max_count b.0.1) _ r b.2 in
    let t0 = bytes_take Short 16 bytes a.0.0 a.0.1 fits a.1 in
    let t1 = limited-takes w32 (2 ^ 32) wide32 max_count a.0.1 b.0 t0.0.rest_fits b.1 in
    let t2 = limited-takes w32 (2 ^ 32) wide32 max_count b.0.1 c.0 t1.0.rest_fits c.1 in
    record {
      id = a.0.0;
      epoch = b.0.0;
      sequence = c.0.0;
      rest = c.0.1;
      taken = t0.0.parts ∙ ap (λ (xs : List ℕ). a.0.0 ++ xs) (t1.0.parts ∙ ap (λ (xs : List ℕ). to_be_bytes w32 b.0.0 ++ xs) t2.0.parts);
      id_length = t0.1;
      epoch_limit = t1.1;
      sequence_limit = t2.1;
      middle = behind_sequence_takes a.0.0 b.0.0 c.0.0 c.0.1 r t2.0.rest_fits c.2;
    }

whole_bytes : (id : List ℕ) (epoch sequence : ℕ) (ts : Timestamp) (deleted : Bool) (value_length : ℕ) (history : List (Entry (List ℕ))) (bytes third fourth : List ℕ)
    → bytes ≡ id ++ (to_be_bytes w32 epoch ++ (to_be_bytes w32 sequence ++ third))
    → third ≡ ((to_be_bytes w64 ts.wall ++ to_be_bytes w32 ts.logical) ++ (flag_byte deleted ∷ [])) ++ fourth
    → fourth ≡ value_and_entries value_length history
    → bytes ≡ record_bytes (record { id = id; epoch = epoch; sequence = sequence; ts = ts; deleted = deleted; value_length = value_length; history = history })
unfolding record_bytes
whole_bytes id epoch sequence ts deleted value_length history bytes third fourth p q s =
    p ∙ ap (λ (xs : List ℕ). id ++ (to_be_bytes w32 epoch ++ (to_be_bytes w32 sequence ++ xs))) (q ∙ ap (λ (xs : List ℕ). ((to_be_bytes w64 ts.wall ++ to_be_bytes w32 ts.logical) ++ (flag_byte deleted ∷ [])) ++ xs) s)
    ∙ sym (regroup id (to_be_bytes w32 epoch) (to_be_bytes w32 sequence) (to_be_bytes w64 ts.wall) (to_be_bytes w32 ts.logical) (flag_byte deleted ∷ to_be_bytes w32 value_length) (to_be_bytes w32 (length history)) (flat_map entry_bytes history))

-- what is read was written
pub IsRecordOf-record_of : (bytes : List ℕ) (r : IntentRecord) → IsBytes bytes → record_of bytes ≡ Ok r → IsRecordOf bytes r
IsRecordOf-record_of bytes r fits e =
    let front : Front bytes r = front_takes bytes r fits e in
    let middle : Middle front.id front.epoch front.sequence front.rest r = front.middle in
    let behind : Behind front.id front.epoch front.sequence middle.ts middle.deleted middle.rest r = middle.behind in
    subst (IsRecordOf bytes) behind.is (record {
      bytes_are = whole_bytes front.id front.epoch front.sequence middle.ts middle.deleted behind.value_length behind.history bytes front.rest middle.rest front.taken middle.taken.parts behind.bytes_are;
      is_record = record {
        id = front.id_length;
        epoch = front.epoch_limit;
        sequence = front.sequence_limit;
        ts = middle.time;
        value_length = behind.long;
        value_size = behind.size;
        entries = behind.entries;
      };
    })
