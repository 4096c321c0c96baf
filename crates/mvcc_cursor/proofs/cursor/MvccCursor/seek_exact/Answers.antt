-- A seek to a key.
use Rattle.std.proofs.Common.{◌≡◌, ◌+◌, ◌*◌, ◌≤◌, length, sym, ap, subst, ◌∙◌}
use Rattle.std.specs.Prelude.{is_some}
use Rattle.mvcc_key.specs.Encoded.{name_in}
use Rattle.mvcc_key.specs.Fragments.{stack_at}
use Rattle.mvcc_key.specs.Order.{Key}
use Rattle.mvcc_key.specs.Points.{point_at, count_below}
use Rattle.mvcc_key.specs.views.Looks.{bits}
use Rattle.mvcc_key.proofs.PointLaws.{point_at-next}
use Rattle.merge_cursor.specs.Merged.{entries_below}
use Rattle.lsm_store.specs.Shown.{points_in, shown, fragments_in}
use Rattle.mvcc_cursor.specs.KeyPoints.{record_name}
use Rattle.mvcc_cursor.specs.Standing.{AtKey, one_seek, entries_of, sought_key}
use Rattle.mvcc_cursor.specs.views.Under.{key_under, place_under, point_under, is_stored, has_record, before_key, IsRecordName}
use Rattle.mvcc_cursor.specs.views.Seen.{seen}
use Rattle.mvcc_cursor.proofs.BytesLaws.{record-IsName, record-name-in, still-named, key-under}
use Rattle.mvcc_cursor.proofs.KeyLaws.{before, first-here}
use Rattle.mvcc_cursor.proofs.MoveLaws.{comes-to}
use Rattle.mvcc_cursor.proofs.LookLaws.{exact-bound}
use Rattle.mvcc_cursor.proofs.StoreLaws.{shown-rising}
use Rattle.mvcc_cursor.proofs.cursor.MvccCursor.seek_exact.Goals as goal

pub seek-requires : goal.seek-requires
seek-requires g c = record-IsName c.name_record.new.sought.items c.as_slice.result.now (still-named c.cut_key-key.result.now c.name_record.new.sought.items c.name_record.ensures.items) c.as_slice.ensures.value

pub settle-self-requires-clause-named : goal.settle-self-requires-clause-named
settle-self-requires-clause-named g c = subst IsRecordName (sym c.as_slice-2.ensures.value) (still-named c.cut_key-key.result.now c.name_record.new.sought.items c.name_record.ensures.items)

pub settle-self-requires-clause-stands : goal.settle-self-requires-clause-stands
settle-self-requires-clause-stands g c =
    λ here. (c.seek.ensures.place
    ∙ ap (λ n. count_below n (shown c.args.self.now.places.store.now) + 1) (record-name-in c.cut_key-key.result.now c.name_record.new.sought.items c.as_slice.result.now c.name_record.ensures.items c.as_slice.ensures.value)
    ∙ ap (λ s. count_below (record_name c.cut_key-key.result.now) (shown s) + 1) (sym c.seek.ensures.store))
    ∙ ap (λ k. before k (shown c.seek.new.self.store.now) + 1) (sym (key-under c.cut_key-key.result.now c.name_record.new.sought.items c.name_record.ensures.items))
    ∙ ap (λ l. before_key l (shown c.seek.new.self.store.now) + 1) (sym c.as_slice-2.ensures.value)

pub stack_of-self-requires : goal.stack_of-self-requires
stack_of-self-requires g c = record-IsName c.name_record.new.sought.items c.as_slice-3.result.now (still-named c.cut_key-key.result.now c.name_record.new.sought.items c.name_record.ensures.items) c.as_slice-3.ensures.value

pub invariant_of-self-clause-named : goal.invariant_of-self-clause-named
invariant_of-self-clause-named g c = (still-named c.cut_key-key.result.now c.name_record.new.sought.items c.name_record.ensures.items)

pub invariant_of-self-clause-short : goal.invariant_of-self-clause-short
invariant_of-self-clause-short g c = subst (λ (k : Key). length k ≤ 4097) (sym (key-under c.cut_key-key.result.now c.name_record.new.sought.items c.name_record.ensures.items)) c.cut_key-key.ensures.short

pub invariant_of-self-clause-found : goal.invariant_of-self-clause-found
invariant_of-self-clause-found g c =
    c.is_at-self.ensures
    ∙ ap is_some (sym (first-here c.cut_key-key.result.now (shown c.seek.new.self.store.now) (shown-rising c.seek.new.self.store.now) (place_under c.seek.new.self.head) (c.seek.ensures.place
    ∙ ap (λ n. count_below n (shown c.args.self.now.places.store.now) + 1) (record-name-in c.cut_key-key.result.now c.name_record.new.sought.items c.as_slice.result.now c.name_record.ensures.items c.as_slice.ensures.value)
    ∙ ap (λ s. count_below (record_name c.cut_key-key.result.now) (shown s) + 1) (sym c.seek.ensures.store))))
    ∙ ap (λ k. is_stored (AtKey k) (shown c.seek.new.self.store.now)) (sym (key-under c.cut_key-key.result.now c.name_record.new.sought.items c.name_record.ensures.items))
    ∙ ap (λ s. is_stored (AtKey (key_under c.name_record.new.sought.items)) (shown s)) (sym c.settle-self.ensures.store)

pub invariant_of-self-clause-has : goal.invariant_of-self-clause-has
invariant_of-self-clause-has g c =
    c.settle-self.ensures.intent
    ∙ ap (λ l. has_record (AtKey (key_under l)) (shown c.seek.new.self.store.now)) c.as_slice-2.ensures.value
    ∙ ap (λ s. has_record (AtKey (key_under c.name_record.new.sought.items)) (shown s)) (sym c.settle-self.ensures.store)

pub invariant_of-self-clause-stands : goal.invariant_of-self-clause-stands
invariant_of-self-clause-stands g c =
    λ there.
    ap (λ v. place_under v) c.settle-self.ensures.head
    ∙ (c.seek.ensures.place
    ∙ ap (λ n. count_below n (shown c.args.self.now.places.store.now) + 1) (record-name-in c.cut_key-key.result.now c.name_record.new.sought.items c.as_slice.result.now c.name_record.ensures.items c.as_slice.ensures.value)
    ∙ ap (λ s. count_below (record_name c.cut_key-key.result.now) (shown s) + 1) (sym c.seek.ensures.store))
    ∙ ap (λ k. before k (shown c.seek.new.self.store.now) + 1) (sym (key-under c.cut_key-key.result.now c.name_record.new.sought.items c.name_record.ensures.items))
    ∙ ap (λ s. before_key c.name_record.new.sought.items (shown s) + 1) (sym c.settle-self.ensures.store)

pub invariant_of-self-clause-over : goal.invariant_of-self-clause-over
invariant_of-self-clause-over g c =
    c.stack_of-self.ensures.value ∙ ap (λ l. stack_at (fragments_in c.settle-self.new.self.store.now) (key_under l)) c.as_slice-3.ensures.value

pub returns-clause-key : goal.returns-clause-key
returns-clause-key g c =
    comes-to (seen c.args.self.now) c.settle-self.new.self.store.now (AtKey (key_under c.name_record.new.sought.items)) (AtKey (sought_key c.args.key.now)) (c.settle-self.ensures.store ∙ c.seek.ensures.store)
    (ap AtKey ((key-under c.cut_key-key.result.now c.name_record.new.sought.items c.name_record.ensures.items) ∙ c.cut_key-key.ensures.value))

pub returns-clause-passed : goal.returns-clause-passed
returns-clause-passed g c =
    ap (λ k. entries_below (record_name k) (points_in c.settle-self.new.self.store.now)) ((key-under c.cut_key-key.result.now c.name_record.new.sought.items c.name_record.ensures.items) ∙ c.cut_key-key.ensures.value)
    ∙ ap (λ s. entries_below (record_name (sought_key c.args.key.now)) (points_in s)) (c.settle-self.ensures.store ∙ c.seek.ensures.store)

pub returns-clause-looks : goal.returns-clause-looks
returns-clause-looks g c =
    (let store = c.args.self.now.places.store.now in
    let key = sought_key c.args.key.now in
    let place = place_under c.seek.new.self.head in
    let at : place ≡ before key (shown store) + 1 =
    c.seek.ensures.place
    ∙ ap (λ n. count_below n (shown store) + 1) (record-name-in c.cut_key-key.result.now c.name_record.new.sought.items c.as_slice.result.now c.name_record.ensures.items c.as_slice.ensures.value)
    ∙ ap (λ k. count_below (record_name k) (shown store) + 1) c.cut_key-key.ensures.value in
    let settled : c.settle-self.new.looks ≤ c.seek.new.looks + 2 * (one_seek store + entries_of key store) =
    subst (λ s. c.settle-self.new.looks ≤ c.seek.new.looks + 2 * (one_seek s + entries_of key s)) c.seek.ensures.store
    (subst (λ k. c.settle-self.new.looks ≤ c.seek.new.looks + 2 * (one_seek c.seek.new.self.store.now + entries_of k c.seek.new.self.store.now)) (ap key_under c.as_slice-2.ensures.value ∙ (key-under c.cut_key-key.result.now c.name_record.new.sought.items c.name_record.ensures.items) ∙ c.cut_key-key.ensures.value) c.settle-self.ensures.looks) in
    let stack : c.stack_of-self.new.looks ≤ c.settle-self.new.looks + bits (length (fragments_in store)) + 1 =
    subst (λ s. c.stack_of-self.new.looks ≤ c.settle-self.new.looks + bits (length (fragments_in s)) + 1) (c.settle-self.ensures.store ∙ c.seek.ensures.store) c.stack_of-self.ensures.looks in
    exact-bound store key (shown-rising store) (name_in c.as_slice.result.now) (point_under c.seek.new.self.head) c.args.looks.now c.seek.new.looks c.settle-self.new.looks c.stack_of-self.new.looks (bits (length (fragments_in store)))
    (record-name-in c.cut_key-key.result.now c.name_record.new.sought.items c.as_slice.result.now c.name_record.ensures.items c.as_slice.ensures.value ∙ ap record_name c.cut_key-key.ensures.value)
    (ap (λ l. point_at l place) (c.seek.new.self.head_over.0 ∙ ap shown c.seek.ensures.store) ∙ ap (point_at (shown store)) at ∙ point_at-next (shown store) (before key (shown store)))
    c.seek.ensures.looks settled stack)
