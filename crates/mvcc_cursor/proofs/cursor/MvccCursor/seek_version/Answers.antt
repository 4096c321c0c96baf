-- A seek to a version.
use Rattle.std.proofs.Common.{◌+◌, ◌≡◌, ◌≤◌, sym, ap, subst, ◌∙◌, arith}
use Rattle.std.specs.Prelude.{find}
use Rattle.mvcc_key.specs.Encoded.{name_in, known_name}
use Rattle.mvcc_key.specs.Order.{is_up_to}
use Rattle.mvcc_key.specs.Points.{point_at, count_below}
use Rattle.mvcc_key.specs.views.Seen.{time_of}
use Rattle.merge_cursor.specs.Merged.{entries_below, entries_before}
use Rattle.lsm_store.specs.Shown.{points_in, shown}
use Rattle.mvcc_cursor.specs.KeyPoints.{versions_in}
use Rattle.mvcc_cursor.specs.Standing.{points_at, one_seek}
use Rattle.mvcc_cursor.specs.views.Under.{place_under, place_in, is_stored, points_under, version_under}
use Rattle.mvcc_cursor.proofs.BytesLaws.{sought-length, version-IsName, reads, taken-back}
use Rattle.mvcc_cursor.proofs.SeenLaws.{found-version, some-points}
use Rattle.mvcc_cursor.proofs.StoreLaws.{shown-rising}
use Rattle.mvcc_cursor.proofs.cursor.MvccCursor.seek_version.Goals as goal

pub put_time-requires : goal.put_time-requires
put_time-requires g c =
    (let self = c.args.self.now in
    let short = self.short in
    let long = sought-length self.sought.items self.named in
    let room = self.room in
    omega arith)

pub seek_version-requires : goal.seek_version-requires
seek_version-requires g c =
    (let self = c.args.self.now in
    version-IsName self.sought.items c.as_slice.result.now self.named c.args.ts c.requires (c.as_slice.ensures.value ∙ c.put_time.ensures.items))

pub returns-then-self-clause-sought : goal.returns-then-self-clause-sought
returns-then-self-clause-sought g c =
    λ h.
    (let self = c.args.self.now in
    let ts = time_of c.args.ts in
    let back : c.truncate.new.self.items ≡ self.sought.items = taken-back self.sought.items c.put_time.new.sought.items c.truncate.new.self.items self.named c.args.ts c.requires c.put_time.ensures.items c.len-len.result (omega arith) c.truncate.ensures.items in
    c.seek_version.ensures.place
    ∙ ap (λ n. count_below n (shown self.places.store.now) + 1) (ap known_name (reads self.sought.items c.put_time.new.sought.items self.sought.items self.named c.args.ts c.requires c.put_time.ensures.items c.as_slice.result.now c.as_slice.ensures.value))
    ∙ ap (λ l. count_below (version_under l ts) (shown self.places.store.now) + 1) (sym back)
    ∙ ap (λ s. count_below (version_under c.truncate.new.self.items ts) (shown s) + 1) (sym c.seek_version.ensures.store))

pub returns-then-self-clause-version : goal.returns-then-self-clause-version
returns-then-self-clause-version g c =
    (let self = c.args.self.now in
    let ts = time_of c.args.ts in
    let store = c.seek_version.new.self.store.now in
    let back : c.truncate.new.self.items ≡ self.sought.items = taken-back self.sought.items c.put_time.new.sought.items c.truncate.new.self.items self.named c.args.ts c.requires c.put_time.ensures.items c.len-len.result (omega arith) c.truncate.ensures.items in
    found-version c.truncate.new.self.items (shown store) (shown-rising store) ts (place_under c.seek_version.new.self.versions) self.stand self.stored c.requires
    (self.found ∙ ap (λ l. is_stored (place_in self.stand l) (shown self.places.store.now)) (sym back) ∙ ap (λ s. is_stored (place_in self.stand c.truncate.new.self.items) (shown s)) (sym c.seek_version.ensures.store))
    (returns-then-self-clause-sought g c)
    ∙ ap (λ l. find (λ p. is_up_to p.name.ts ts) (versions_in (points_at (place_in self.stand l) (shown store)))) back
    ∙ ap (λ s. find (λ p. is_up_to p.name.ts ts) (versions_in (points_at (place_in self.stand self.sought.items) (shown s)))) c.seek_version.ensures.store)

pub returns-else-self-clause-version : goal.returns-else-self-clause-version
returns-else-self-clause-version g c =
    (let self = c.args.self.now in
    found-version self.sought.items (shown self.places.store.now) (shown-rising self.places.store.now) (time_of c.args.ts) (place_under self.places.versions) self.stand self.stored c.requires self.found (λ h. absurd (cc (h, c.if-self.false))))

pub returns-then-self-clause-some : goal.returns-then-self-clause-some
returns-then-self-clause-some g c =
    λ is.
    (let self = c.args.self.now in
    c.seek_version.ensures.some (some-points (place_in self.stand self.sought.items) (shown self.places.store.now) is))

pub returns-then-self-clause-gone : goal.returns-then-self-clause-gone
returns-then-self-clause-gone g c =
    λ h.
    (let self = c.args.self.now in
    let store = self.places.store.now in
    let name : name_in c.as_slice.result.now ≡ version_under self.sought.items (time_of c.args.ts) =
    ap known_name (reads self.sought.items c.put_time.new.sought.items self.sought.items self.named c.args.ts c.requires c.put_time.ensures.items c.as_slice.result.now c.as_slice.ensures.value) in
    let same : points_under c.seek_version.new.self.versions ≡ shown store = c.seek_version.new.self.versions_over.0 ∙ ap shown c.seek_version.ensures.store in
    subst (λ n. c.seek_version.new.looks + entries_below n (points_in store) ≤ c.args.looks.now + one_seek store + entries_before (point_at (shown store) (place_under c.seek_version.new.self.versions)) (points_in store)) name
    (subst (λ l. c.seek_version.new.looks + entries_below (name_in c.as_slice.result.now) (points_in store) ≤ c.args.looks.now + one_seek store + entries_before (point_at l (place_under c.seek_version.new.self.versions)) (points_in store)) same
    c.seek_version.ensures.looks))
