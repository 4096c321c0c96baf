-- The next stored key.
use Rattle.std.proofs.Common.{◌≡◌, ◌+◌, ◌++◌, ◌∷◌, [], cond, length, sym, ap, subst, ◌∙◌, arith}
use Rattle.std.specs.Prelude.{◌&&◌}
use Rattle.mvcc_key.specs.Fragments.{stack_at}
use Rattle.mvcc_key.specs.Points.{count_below}
use Rattle.lsm_store.specs.Shown.{shown, fragments_in}
use Rattle.mvcc_cursor.specs.WellFormed.{IsWellFormed, history_in}
use Rattle.mvcc_cursor.specs.KeyPoints.{record_name, key_above}
use Rattle.mvcc_cursor.specs.Standing.{AtKey, or_past, next_place}
use Rattle.mvcc_cursor.specs.views.Under.{key_under, place_under, place_in, is_stored, has_record, before_key, IsRecordName}
use Rattle.mvcc_cursor.specs.views.Seen.{seen}
use Rattle.mvcc_cursor.proofs.BytesLaws.{record-IsName, record-name-in, still-named, zero-named, sought-length}
use Rattle.mvcc_cursor.proofs.KeyLaws.{before, from-found, above-found}
use Rattle.mvcc_cursor.proofs.HistoryLaws.{short-keys}
use Rattle.mvcc_cursor.proofs.MoveLaws.{comes-to, there-named, there-short, there-past, past-found, there-stands, past-stands, past-ends, past-has, past-over, next-there}
use Rattle.mvcc_cursor.proofs.SeenLaws.{some-points}
use Rattle.mvcc_cursor.proofs.StoreLaws.{placed, shown-rising, shown-set}
use Rattle.mvcc_cursor.proofs.cursor.MvccCursor.next_key.Goals as goal

pub seek-requires : goal.seek-requires
seek-requires g c = record-IsName c.put_zero.new.sought.items c.as_slice.result.now (still-named (key_under c.args.self.now.sought.items ++ 0 ∷ []) c.put_zero.new.sought.items (c.put_zero.ensures.items ∙ zero-named c.args.self.now.sought.items c.args.self.now.named)) c.as_slice.ensures.value

pub take_key-self-requires-clause-short : goal.take_key-self-requires-clause-short
take_key-self-requires-clause-short g c =
    (let well = subst (λ s. IsWellFormed (history_in s) s) (sym c.seek.ensures.store) c.args.self.now.well_formed in
    short-keys (history_in c.seek.new.self.store.now) (shown c.seek.new.self.store.now) (fragments_in c.seek.new.self.store.now) well (shown-set c.seek.new.self.store.now))

pub settle-self-requires-clause-named : goal.settle-self-requires-clause-named
settle-self-requires-clause-named g c =
    (let named = there-named (shown c.seek.new.self.store.now) (place_under c.seek.new.self.head) c.take_key-self.new.sought.items c.take_key-self.ensures.items in
    subst IsRecordName (sym c.as_slice-2.ensures.value) named)

pub settle-self-requires-clause-stands : goal.settle-self-requires-clause-stands
settle-self-requires-clause-stands g c =
    λ here.
    (let self = c.args.self.now in
    let store = self.places.store.now in
    let points = shown c.seek.new.self.store.now in
    let place = place_under c.seek.new.self.head in
    let sought = c.take_key-self.new.sought.items in
    there-stands points place sought c.take_key-self.ensures.items (shown-rising c.seek.new.self.store.now) (key_under c.args.self.now.sought.items ++ 0 ∷ []) (c.seek.ensures.place
    ∙ ap (λ n. count_below n (shown store) + 1) (record-name-in (key_under self.sought.items ++ 0 ∷ []) c.put_zero.new.sought.items c.as_slice.result.now (c.put_zero.ensures.items ∙ zero-named self.sought.items self.named) c.as_slice.ensures.value)
    ∙ ap (λ s. count_below (record_name (key_under self.sought.items ++ 0 ∷ [])) (shown s) + 1) (sym c.seek.ensures.store)) c.take_key-self.result c.take_key-self.ensures.found here
    ∙ ap (λ l. before_key l points + 1) (sym c.as_slice-2.ensures.value))

pub stack_if-self-requires : goal.stack_if-self-requires
stack_if-self-requires g c =
    record-IsName c.take_key-self.new.sought.items c.as_slice-3.result.now
    (there-named (shown c.seek.new.self.store.now) (place_under c.seek.new.self.head) c.take_key-self.new.sought.items c.take_key-self.ensures.items) c.as_slice-3.ensures.value

pub invariant_of-self-2-clause-named : goal.invariant_of-self-2-clause-named
invariant_of-self-2-clause-named g c = there-named (shown c.seek.new.self.store.now) (place_under c.seek.new.self.head) c.take_key-self.new.sought.items c.take_key-self.ensures.items

pub invariant_of-self-2-clause-short : goal.invariant_of-self-2-clause-short
invariant_of-self-2-clause-short g c =
    there-short (shown c.seek.new.self.store.now) (place_under c.seek.new.self.head) c.take_key-self.new.sought.items c.take_key-self.ensures.items (short-keys (history_in c.seek.new.self.store.now) (shown c.seek.new.self.store.now) (fragments_in c.seek.new.self.store.now) (subst (λ s. IsWellFormed (history_in s) s) (sym c.seek.ensures.store) c.args.self.now.well_formed) (shown-set c.seek.new.self.store.now))

pub invariant_of-self-2-clause-found : goal.invariant_of-self-2-clause-found
invariant_of-self-2-clause-found g c =
    (let self = c.args.self.now in
    let store = self.places.store.now in
    let points = shown c.seek.new.self.store.now in
    let place = place_under c.seek.new.self.head in
    let sought = c.take_key-self.new.sought.items in
    past-found points place sought c.take_key-self.ensures.items c.or_past_if-self.result c.take_key-self.result c.take_key-self.ensures.found c.or_past_if-self.ensures
    ∙ ap (λ s. is_stored (place_in c.or_past_if-self.result sought) (shown s)) (sym c.settle-self.ensures.store))

pub invariant_of-self-2-clause-has : goal.invariant_of-self-2-clause-has
invariant_of-self-2-clause-has g c =
    (let self = c.args.self.now in
    let store = self.places.store.now in
    let points = shown c.seek.new.self.store.now in
    let place = place_under c.seek.new.self.head in
    let sought = c.take_key-self.new.sought.items in
    c.settle-self.ensures.intent
    ∙ ap (λ l. c.take_key-self.result && has_record (AtKey (key_under l)) points) c.as_slice-2.ensures.value
    ∙ past-has c.or_past_if-self.result c.take_key-self.result sought points c.or_past_if-self.ensures
    ∙ ap (λ s. has_record (place_in c.or_past_if-self.result sought) (shown s)) (sym c.settle-self.ensures.store))

pub invariant_of-self-2-clause-stands : goal.invariant_of-self-2-clause-stands
invariant_of-self-2-clause-stands g c =
    λ there.
    (let self = c.args.self.now in
    let store = self.places.store.now in
    let points = shown c.seek.new.self.store.now in
    let place = place_under c.seek.new.self.head in
    let sought = c.take_key-self.new.sought.items in
    ap (λ v. place_under v) c.settle-self.ensures.head
    ∙ past-stands points place sought c.take_key-self.ensures.items (shown-rising c.seek.new.self.store.now) (key_under c.args.self.now.sought.items ++ 0 ∷ []) (c.seek.ensures.place
    ∙ ap (λ n. count_below n (shown store) + 1) (record-name-in (key_under self.sought.items ++ 0 ∷ []) c.put_zero.new.sought.items c.as_slice.result.now (c.put_zero.ensures.items ∙ zero-named self.sought.items self.named) c.as_slice.ensures.value)
    ∙ ap (λ s. count_below (record_name (key_under self.sought.items ++ 0 ∷ [])) (shown s) + 1) (sym c.seek.ensures.store)) c.or_past_if-self.result c.take_key-self.result c.take_key-self.ensures.found c.or_past_if-self.ensures there
    ∙ ap (λ s. before_key sought (shown s) + 1) (sym c.settle-self.ensures.store))

pub invariant_of-self-2-clause-ends : goal.invariant_of-self-2-clause-ends
invariant_of-self-2-clause-ends g c =
    λ there.
    (let self = c.args.self.now in
    let store = self.places.store.now in
    let points = shown c.seek.new.self.store.now in
    let place = place_under c.seek.new.self.head in
    let sought = c.take_key-self.new.sought.items in
    let at : place ≡ before (key_under self.sought.items ++ 0 ∷ []) points + 1 = (c.seek.ensures.place
    ∙ ap (λ n. count_below n (shown store) + 1) (record-name-in (key_under self.sought.items ++ 0 ∷ []) c.put_zero.new.sought.items c.as_slice.result.now (c.put_zero.ensures.items ∙ zero-named self.sought.items self.named) c.as_slice.ensures.value)
    ∙ ap (λ s. count_below (record_name (key_under self.sought.items ++ 0 ∷ [])) (shown s) + 1) (sym c.seek.ensures.store)) in
    ap (λ v. place_under v) c.settle-self.ensures.head
    ∙ past-ends points place sought c.take_key-self.ensures.items (placed c.seek.new.self.store.now c.seek.new.self.head c.seek.new.self.head_over) (omega arith) c.or_past_if-self.result c.take_key-self.result c.take_key-self.ensures.found c.or_past_if-self.ensures there
    ∙ ap (λ s. length (shown s) + 1) (sym c.settle-self.ensures.store))

pub invariant_of-self-2-clause-over : goal.invariant_of-self-2-clause-over
invariant_of-self-2-clause-over g c =
    (let self = c.args.self.now in
    let store = self.places.store.now in
    let points = shown c.seek.new.self.store.now in
    let place = place_under c.seek.new.self.head in
    let sought = c.take_key-self.new.sought.items in
    c.stack_if-self.ensures.value
    ∙ ap (λ l. cond c.take_key-self.result (stack_at (fragments_in c.settle-self.new.self.store.now) (key_under l)) []) c.as_slice-3.ensures.value
    ∙ past-over c.or_past_if-self.result c.take_key-self.result sought (fragments_in c.settle-self.new.self.store.now) c.or_past_if-self.ensures)

pub put_zero-requires : goal.put_zero-requires
put_zero-requires g c =
    (let self = c.args.self.now in
    let short = self.short in
    let long = sought-length self.sought.items self.named in
    let room = self.room in
    omega arith)

pub returns-clause-key : goal.returns-clause-key
returns-clause-key g c =
    (let self = c.args.self.now in
    let store = self.places.store.now in
    let points = shown c.seek.new.self.store.now in
    let place = place_under c.seek.new.self.head in
    let sought = c.take_key-self.new.sought.items in
    comes-to (seen self) c.settle-self.new.self.store.now (place_in c.or_past_if-self.result sought) (next_place (place_in self.stand self.sought.items) (shown store)) (c.settle-self.ensures.store ∙ c.seek.ensures.store)
    (there-past points place sought c.take_key-self.ensures.items c.or_past_if-self.result c.take_key-self.result c.take_key-self.ensures.found c.or_past_if-self.ensures
    ∙ ap or_past (from-found (key_under self.sought.items ++ 0 ∷ []) points (shown-rising c.seek.new.self.store.now) place (c.seek.ensures.place
    ∙ ap (λ n. count_below n (shown store) + 1) (record-name-in (key_under self.sought.items ++ 0 ∷ []) c.put_zero.new.sought.items c.as_slice.result.now (c.put_zero.ensures.items ∙ zero-named self.sought.items self.named) c.as_slice.ensures.value)
    ∙ ap (λ s. count_below (record_name (key_under self.sought.items ++ 0 ∷ [])) (shown s) + 1) (sym c.seek.ensures.store)) ∙ above-found (key_under self.sought.items) points)
    ∙ ap (λ s. or_past (key_above (key_under self.sought.items) (shown s))) c.seek.ensures.store
    ∙ next-there self.stand self.sought.items (shown store) (sym c.is_past.ensures ∙ c.if-is_past.false) self.empty
    (short-keys (history_in store) (shown store) (fragments_in store) self.well_formed (shown-set store))))

pub returns-clause-some : goal.returns-clause-some
returns-clause-some g c =
    λ is.
    (let self = c.args.self.now in
    let some = c.seek.ensures.some (some-points (place_in self.stand self.sought.items) (shown self.places.store.now) is) in
    omega arith)
