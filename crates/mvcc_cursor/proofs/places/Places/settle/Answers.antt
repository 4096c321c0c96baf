-- The places behind the record of a key.
use Rattle.std.proofs.Common.{◌≡◌, ◌+◌, ◌≤◌, true, length, refl, ap, sym, subst, ◌∙◌, arith}
use Rattle.std.specs.Prelude.{min}
use Rattle.mvcc_key.specs.Points.{count_below}
use Rattle.mvcc_key.specs.Encoded.{name_in}
use Rattle.merge_cursor.specs.Merged.{entries_below, entries_before}
use Rattle.lsm_store.specs.Shown.{points_in, shown}
use Rattle.mvcc_cursor.specs.WellFormed.{history_in}
use Rattle.mvcc_cursor.specs.Standing.{AtKey, one_seek}
use Rattle.mvcc_cursor.specs.views.Under.{before_key, has_record, key_under, place_under, point_under, points_under}
use Rattle.mvcc_cursor.proofs.BytesLaws.{record-IsName, name-is}
use Rattle.mvcc_cursor.proofs.PlaceLaws.{settled, both-true, settle-bound}
use Rattle.mvcc_cursor.proofs.StoreLaws.{shown-rising}
use Rattle.mvcc_cursor.proofs.places.Places.settle.Goals as goal

pub seek_provisional-requires : goal.seek_provisional-requires
seek_provisional-requires g c = record-IsName c.args.name.now c.args.name.now c.requires.named refl

pub seek_committed-requires : goal.seek_committed-requires
seek_committed-requires g c = record-IsName c.args.name.now c.args.name.now c.requires.named refl

pub returns-clause-provisional : goal.returns-clause-provisional
returns-clause-provisional g c = λ _.
    let store = c.args.self.now.store.now in
    let named = name-is c.args.name.now c.requires.named in
    settled (shown store) (points_under c.seek_committed.new.self.provisional) (place_under c.seek_committed.new.self.provisional) (before_key c.args.name.now (shown store) + 1)
    (c.seek_committed.new.self.provisional_over.0 ∙ ap shown (c.seek_committed.ensures.store ∙ c.seek_provisional.ensures.store))
    (ap (λ v. place_under v) c.seek_committed.ensures.provisional ∙ c.seek_provisional.ensures.place ∙ ap (λ n. min (count_below n (shown store) + 2) (length (shown store) + 1)) named ∙ ap (λ n. min n (length (shown store) + 1)) (omega arith))

pub returns-clause-committed : goal.returns-clause-committed
returns-clause-committed g c = λ _.
    let store = c.args.self.now.store.now in
    let named = name-is c.args.name.now c.requires.named in
    settled (shown store) (points_under c.seek_committed.new.self.committed) (place_under c.seek_committed.new.self.committed) (before_key c.args.name.now (shown store) + 2)
    (c.seek_committed.new.self.committed_over.0 ∙ ap shown (c.seek_committed.ensures.store ∙ c.seek_provisional.ensures.store))
    (c.seek_committed.ensures.place ∙ ap (λ s. min (count_below (name_in c.args.name.now) (shown s) + 3) (length (shown s) + 1)) c.seek_provisional.ensures.store
    ∙ ap (λ n. min (count_below n (shown store) + 3) (length (shown store) + 1)) named ∙ ap (λ n. min n (length (shown store) + 1)) (omega arith))

pub returns-clause-looks : goal.returns-clause-looks
returns-clause-looks g c =
    let self = c.args.self.now in
    let store = self.store.now in
    let key = key_under c.args.name.now in
    let named = name-is c.args.name.now c.requires.named in
    let has : has_record (AtKey key) (shown store) ≡ true = both-true c.args.is_there (has_record (AtKey key) (shown store)) (sym c.if-not-is_at_record.ensures) in
    settle-bound (history_in store) store c.requires.well_formed key (shown-rising store) has
    (point_under c.seek_provisional.new.self.provisional) (point_under c.seek_committed.new.self.committed) c.args.looks.now c.seek_provisional.new.looks c.seek_committed.new.looks
    (settled (shown store) (points_under c.seek_provisional.new.self.provisional) (place_under c.seek_provisional.new.self.provisional) (before_key c.args.name.now (shown store) + 1)
    (c.seek_provisional.new.self.provisional_over.0 ∙ ap shown c.seek_provisional.ensures.store)
    (c.seek_provisional.ensures.place ∙ ap (λ n. min (count_below n (shown store) + 2) (length (shown store) + 1)) named ∙ ap (λ n. min n (length (shown store) + 1)) (omega arith)))
    (returns-clause-committed g c refl)
    (subst (λ n. c.seek_provisional.new.looks + entries_below n (points_in store) ≤ c.args.looks.now + one_seek store + entries_before (point_under c.seek_provisional.new.self.provisional) (points_in store)) named c.seek_provisional.ensures.looks)
    (subst (λ n. c.seek_committed.new.looks + entries_below n (points_in store) ≤ c.seek_provisional.new.looks + one_seek store + entries_before (point_under c.seek_committed.new.self.committed) (points_in store)) named
    (subst (λ s. c.seek_committed.new.looks + entries_below (name_in c.args.name.now) (points_in s) ≤ c.seek_provisional.new.looks + one_seek s + entries_before (point_under c.seek_committed.new.self.committed) (points_in s)) c.seek_provisional.ensures.store c.seek_committed.ensures.looks))
