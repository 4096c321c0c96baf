-- Whether a version has to be sought.
use Rattle.std.proofs.Common.{◌≡◌, false, sym, ap, ◌∙◌}
use Rattle.std.specs.Prelude.{◌&&◌, not}
use Rattle.std.specs.Ordering.{is_lt}
use Rattle.mvcc_key.specs.Lists.{first}
use Rattle.mvcc_key.specs.Order.{is_no_time, is_before}
use Rattle.mvcc_key.specs.views.Seen.{time_of}
use Rattle.mvcc_cursor.specs.WellFormed.{history_in}
use Rattle.mvcc_cursor.specs.Standing.{committed_at}
use Rattle.mvcc_cursor.specs.views.Lent.{seen_version}
use Rattle.mvcc_cursor.specs.views.Under.{place_in}
use Rattle.mvcc_cursor.proofs.VersionLaws.{seeks-by, seeks-none}
use Rattle.mvcc_cursor.proofs.cursor.MvccCursor.seeks_below.Goals as goal

pub returns-in-None : goal.returns-in-None
returns-in-None c =
    (let self = c.args.self.now in
    seeks-none (time_of c.args.ts) (first (committed_at (place_in self.stand self.sought.items) (history_in self.places.store.now))) c.in-None.ensures)

pub returns-then-not-is_none : goal.returns-then-not-is_none
returns-then-not-is_none c =
    (let self = c.args.self.now in
    let ts = time_of c.args.ts in
    let newest = seen_version c.in-Some.newest in
    let some : is_no_time ts ≡ false = sym c.is_none.ensures ∙ c.if-not-is_none.true in
    c.is_lt.ensures
    ∙ ap is_lt c.compare.ensures
    ∙ sym (ap (λ b. not b && is_before ts newest.ts) some)
    ∙ seeks-by ts newest.ts newest.value (first (committed_at (place_in self.stand self.sought.items) (history_in self.places.store.now))) c.in-Some.ensures)
