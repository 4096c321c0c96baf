-- The stored key before.
use Rattle.std.proofs.Common.{◌+◌, ◌-◌, ◌<◌, [], cond, length, sym, ap, subst, ◌∙◌, arith}
use Rattle.std.specs.Prelude.{◌&&◌}
use Rattle.mvcc_key.specs.Encoded.{name_in}
use Rattle.mvcc_key.specs.Fragments.{stack_at}
use Rattle.mvcc_key.specs.Points.{point_at, count_below}
use Rattle.lsm_store.specs.Shown.{shown, fragments_in}
use Rattle.mvcc_cursor.specs.WellFormed.{IsWellFormed, history_in}
use Rattle.mvcc_cursor.specs.KeyPoints.{key_in}
use Rattle.mvcc_cursor.specs.Standing.{AtKey, or_before, previous_place}
use Rattle.mvcc_cursor.specs.views.Under.{key_under, place_under, place_in, is_stored, has_record, before_key, IsRecordName}
use Rattle.mvcc_cursor.specs.views.Seen.{seen}
use Rattle.mvcc_cursor.proofs.BytesLaws.{record-IsName, name-is}
use Rattle.mvcc_cursor.proofs.HistoryLaws.{short-keys}
use Rattle.mvcc_cursor.proofs.MoveLaws.{comes-to, there-named, there-short, there-before, before-found, before-empty, before-has, before-over, before-never, previous-there}
use Rattle.mvcc_cursor.proofs.SeenLaws.{some-points}
use Rattle.mvcc_cursor.proofs.StoreLaws.{shown-rising, shown-set}
use Rattle.mvcc_cursor.proofs.cursor.MvccCursor.prev_key.Goals as goal

pub take_key-self-requires-clause-short : goal.take_key-self-requires-clause-short
take_key-self-requires-clause-short g c =
    short-keys (history_in c.back.new.self.store.now) (shown c.back.new.self.store.now) (fragments_in c.back.new.self.store.now) (subst (λ s. IsWellFormed (history_in s) s) (sym c.back.ensures.store) c.args.self.now.well_formed) (shown-set c.back.new.self.store.now)

pub seek-requires : goal.seek-requires
seek-requires g c = record-IsName c.take_key-self.new.sought.items c.as_slice.result.now (there-named (shown c.back.new.self.store.now) (place_under c.back.new.self.head) c.take_key-self.new.sought.items c.take_key-self.ensures.items) c.as_slice.ensures.value

pub settle-self-requires-clause-named : goal.settle-self-requires-clause-named
settle-self-requires-clause-named g c =
    (let named = there-named (shown c.back.new.self.store.now) (place_under c.back.new.self.head) c.take_key-self.new.sought.items c.take_key-self.ensures.items in
    subst IsRecordName (sym c.as_slice-2.ensures.value) named)

pub settle-self-requires-clause-stands : goal.settle-self-requires-clause-stands
settle-self-requires-clause-stands g c = λ here. (c.seek.ensures.place
    ∙ ap (λ n. count_below n (shown c.back.new.self.store.now) + 1) (ap name_in c.as_slice.ensures.value ∙ name-is c.take_key-self.new.sought.items (there-named (shown c.back.new.self.store.now) (place_under c.back.new.self.head) c.take_key-self.new.sought.items c.take_key-self.ensures.items))
    ∙ ap (λ s. before_key c.take_key-self.new.sought.items (shown s) + 1) (sym c.seek.ensures.store)) ∙ ap (λ l. before_key l (shown c.seek.new.self.store.now) + 1) (sym c.as_slice-2.ensures.value)

pub stack_if-self-requires : goal.stack_if-self-requires
stack_if-self-requires g c =
    record-IsName c.take_key-self.new.sought.items c.as_slice-3.result.now
    (there-named (shown c.back.new.self.store.now) (place_under c.back.new.self.head) c.take_key-self.new.sought.items c.take_key-self.ensures.items) c.as_slice-3.ensures.value

pub invariant_of-self-2-clause-named : goal.invariant_of-self-2-clause-named
invariant_of-self-2-clause-named g c = there-named (shown c.back.new.self.store.now) (place_under c.back.new.self.head) c.take_key-self.new.sought.items c.take_key-self.ensures.items

pub invariant_of-self-2-clause-short : goal.invariant_of-self-2-clause-short
invariant_of-self-2-clause-short g c =
    there-short (shown c.back.new.self.store.now) (place_under c.back.new.self.head) c.take_key-self.new.sought.items c.take_key-self.ensures.items
    (short-keys (history_in c.back.new.self.store.now) (shown c.back.new.self.store.now) (fragments_in c.back.new.self.store.now) (subst (λ s. IsWellFormed (history_in s) s) (sym c.back.ensures.store) c.args.self.now.well_formed) (shown-set c.back.new.self.store.now))

pub invariant_of-self-2-clause-empty : goal.invariant_of-self-2-clause-empty
invariant_of-self-2-clause-empty g c =
    (let self = c.args.self.now in
    let store = self.places.store.now in
    let points = shown c.back.new.self.store.now in
    let place = place_under c.back.new.self.head in
    let sought = c.take_key-self.new.sought.items in
    before-empty points place sought c.take_key-self.ensures.items c.or_before_if-self.result c.take_key-self.result c.take_key-self.ensures.found c.or_before_if-self.ensures)

pub invariant_of-self-2-clause-found : goal.invariant_of-self-2-clause-found
invariant_of-self-2-clause-found g c =
    (let self = c.args.self.now in
    let store = self.places.store.now in
    let points = shown c.back.new.self.store.now in
    let place = place_under c.back.new.self.head in
    let sought = c.take_key-self.new.sought.items in
    before-found points place sought c.take_key-self.ensures.items c.or_before_if-self.result c.take_key-self.result c.take_key-self.ensures.found c.or_before_if-self.ensures
    ∙ ap (λ s. is_stored (place_in c.or_before_if-self.result sought) (shown s)) (sym (c.settle-self.ensures.store ∙ c.seek.ensures.store)))

pub invariant_of-self-2-clause-has : goal.invariant_of-self-2-clause-has
invariant_of-self-2-clause-has g c =
    (let self = c.args.self.now in
    let store = self.places.store.now in
    let points = shown c.back.new.self.store.now in
    let place = place_under c.back.new.self.head in
    let sought = c.take_key-self.new.sought.items in
    c.settle-self.ensures.intent
    ∙ ap (λ l. c.take_key-self.result && has_record (AtKey (key_under l)) (shown c.seek.new.self.store.now)) c.as_slice-2.ensures.value
    ∙ before-has c.or_before_if-self.result c.take_key-self.result sought (shown c.seek.new.self.store.now) c.or_before_if-self.ensures
    ∙ ap (λ s. has_record (place_in c.or_before_if-self.result sought) (shown s)) (sym c.settle-self.ensures.store))

pub invariant_of-self-2-clause-stands : goal.invariant_of-self-2-clause-stands
invariant_of-self-2-clause-stands g c =
    λ there.
    (let self = c.args.self.now in
    let store = self.places.store.now in
    let points = shown c.back.new.self.store.now in
    let place = place_under c.back.new.self.head in
    let sought = c.take_key-self.new.sought.items in
    ap (λ v. place_under v) c.settle-self.ensures.head
    ∙ (c.seek.ensures.place
    ∙ ap (λ n. count_below n (shown c.back.new.self.store.now) + 1) (ap name_in c.as_slice.ensures.value ∙ name-is c.take_key-self.new.sought.items (there-named (shown c.back.new.self.store.now) (place_under c.back.new.self.head) c.take_key-self.new.sought.items c.take_key-self.ensures.items))
    ∙ ap (λ s. before_key c.take_key-self.new.sought.items (shown s) + 1) (sym c.seek.ensures.store))
    ∙ ap (λ s. before_key sought (shown s) + 1) (sym c.settle-self.ensures.store))

pub invariant_of-self-2-clause-ends : goal.invariant_of-self-2-clause-ends
invariant_of-self-2-clause-ends g c = λ there. absurd (before-never c.or_before_if-self.result c.take_key-self.result c.or_before_if-self.ensures there)

pub invariant_of-self-2-clause-over : goal.invariant_of-self-2-clause-over
invariant_of-self-2-clause-over g c =
    (let self = c.args.self.now in
    let store = self.places.store.now in
    let points = shown c.back.new.self.store.now in
    let place = place_under c.back.new.self.head in
    let sought = c.take_key-self.new.sought.items in
    c.stack_if-self.ensures.value
    ∙ ap (λ l. cond c.take_key-self.result (stack_at (fragments_in c.settle-self.new.self.store.now) (key_under l)) []) c.as_slice-3.ensures.value
    ∙ before-over c.or_before_if-self.result c.take_key-self.result sought (fragments_in c.settle-self.new.self.store.now) c.or_before_if-self.ensures)

pub returns-clause-key : goal.returns-clause-key
returns-clause-key g c =
    (let self = c.args.self.now in
    let store = self.places.store.now in
    let points = shown c.back.new.self.store.now in
    let place = place_under c.back.new.self.head in
    let sought = c.take_key-self.new.sought.items in
    comes-to (seen self) c.settle-self.new.self.store.now (place_in c.or_before_if-self.result sought) (previous_place (place_in self.stand self.sought.items) (shown store)) (c.settle-self.ensures.store ∙ c.seek.ensures.store ∙ c.back.ensures.store)
    (there-before points place sought c.take_key-self.ensures.items c.or_before_if-self.result c.take_key-self.result c.take_key-self.ensures.found c.or_before_if-self.ensures
    ∙ ap (λ n. or_before (key_in (point_at points n))) c.back.ensures.place
    ∙ ap (λ s. or_before (key_in (point_at (shown s) (place_under self.places.head - 1)))) c.back.ensures.store
    ∙ previous-there self.stand self.sought.items (shown store) (place_under self.places.head) (shown-rising store) (sym c.is_before.ensures ∙ c.if-is_before.false) self.stands self.ends))

pub returns-clause-some : goal.returns-clause-some
returns-clause-some g c =
    λ is.
    (let self = c.args.self.now in
    let some = some-points (place_in self.stand self.sought.items) (shown self.places.store.now) is in
    let there : 0 < length (shown c.back.new.self.store.now) = subst (λ s. 0 < length (shown s)) (sym c.back.ensures.store) some in
    let looks = c.seek.ensures.some there in
    omega arith)
