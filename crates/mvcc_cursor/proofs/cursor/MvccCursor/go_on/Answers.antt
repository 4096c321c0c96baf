-- The next version.
use Rattle.std.proofs.Common.{◌≡◌, ◌+◌, ◌≤◌, sym, ap, subst, ◌∙◌, refl}
use Rattle.std.specs.Prelude.{find, is_some}
use Rattle.mvcc_key.specs.Lists.{first}
use Rattle.mvcc_key.specs.Order.{is_up_to, max_wall, max_logical}
use Rattle.mvcc_key.specs.Points.{AreEncodable, count_below}
use Rattle.mvcc_key.specs.views.Seen.{time_of}
use Rattle.lsm_store.specs.Shown.{shown}
use Rattle.mvcc_cursor.specs.KeyPoints.{versions_in}
use Rattle.mvcc_cursor.specs.Standing.{Standing, points_at, entries_up_to}
use Rattle.mvcc_cursor.specs.views.Under.{place_under, place_in, left_in, version_under, passed_in}
use Rattle.mvcc_cursor.specs.views.Seen.{seen}
use Rattle.mvcc_cursor.proofs.SeenLaws.{first-left, first-looks, begun-looks, some-version, behind-first, after-anew, first-any, within-first, passed-within}
use Rattle.mvcc_cursor.proofs.StoreLaws.{shown-rising}
use Rattle.mvcc_cursor.proofs.cursor.MvccCursor.go_on.Goals as goal

pub returns-else-self-clause-after : goal.returns-else-self-clause-after
returns-else-self-clause-after g c =
    (let old = c.args.self.now in
    let new = c.seek_version.new.self in
    let store = old.places.store.now in
    let same : new.places.store.now ≡ store = ap (λ (s : Standing). s.store) c.seek_version.ensures.anew in
    record {
      stands =
          after-anew (seen new) (seen old) (left_in new.stored (place_in new.stand new.sought.items) (shown new.places.store.now) (place_under new.places.versions)) c.seek_version.ensures.anew
          (ap (λ b. left_in b (place_in old.stand old.sought.items) (shown store) (place_under old.places.versions)) c.if-self.false)
          (first-left new.sought.items (shown new.places.store.now) (shown-rising new.places.store.now) (subst AreEncodable new.places.head_over.0 new.places.head.encodable) (place_under new.places.versions) new.stand new.stored new.found
          (λ h. c.seek_version.ensures.sought h ∙ ap (λ t. count_below (version_under c.seek_version.new.self.sought.items t) (shown c.seek_version.new.self.places.store.now) + 1) c.last_time.ensures));
      looks =
          first-looks old.sought.items new.sought.items store new.places.store.now (time_of c.last_time.result) (place_under old.places.versions) (place_under new.places.versions) c.args.looks.now c.seek_version.new.looks new.stored old.given
          c.seek_version.ensures.same_sought same c.if-self.false c.seek_version.ensures.idle c.seek_version.ensures.gone;
      begun = λ is.
          begun-looks new.stored new.places.store.now
          (c.seek_version.ensures.same_stored
          ∙ old.found
          ∙ some-version (place_in old.stand old.sought.items) (shown store) (sym (ap (λ b. is_some (first (left_in b (place_in old.stand old.sought.items) (shown store) (place_under old.places.versions)))) c.if-self.false) ∙ is));
      within = λ key is.
          subst (λ s. passed_in new.stored new.sought.items new.places.store.now (place_under new.places.versions) ≤ entries_up_to key s) same
          (passed-within new.stored new.stand new.sought.items new.places.store.now (place_under new.places.versions) (shown-rising new.places.store.now)
          (λ h. behind-first new.sought.items (shown new.places.store.now) (record { wall = max_wall; logical = max_logical }) (shown-rising new.places.store.now) refl (place_under new.places.versions) (c.seek_version.ensures.sought h ∙ ap (λ t. count_below (version_under c.seek_version.new.self.sought.items t) (shown c.seek_version.new.self.places.store.now) + 1) c.last_time.ensures))
          (λ h. within-first new.sought.items (shown new.places.store.now) (record { wall = max_wall; logical = max_logical }) (place_under new.places.versions) (c.seek_version.ensures.sought h ∙ ap (λ t. count_below (version_under c.seek_version.new.self.sought.items t) (shown c.seek_version.new.self.places.store.now) + 1) c.last_time.ensures))
          key (ap (λ (s : Standing). s.at) c.seek_version.ensures.anew ∙ is));
    })

pub returns-else-self-clause-version : goal.returns-else-self-clause-version
returns-else-self-clause-version g c =
    (let old = c.args.self.now in
    let store = old.places.store.now in
    let at = place_in old.stand old.sought.items in
    c.seek_version.ensures.version
    ∙ ap (λ t. find (λ p. is_up_to p.name.ts t) (versions_in (points_at at (shown store)))) c.last_time.ensures
    ∙ first-any at (shown store) (shown-rising store) (subst AreEncodable old.places.head_over.0 old.places.head.encodable)
    ∙ ap (λ b. first (left_in b at (shown store) (place_under old.places.versions))) (sym c.if-self.false))

pub returns-else-self-clause-some : goal.returns-else-self-clause-some
returns-else-self-clause-some g c =
    λ is.
    (let old = c.args.self.now in
    let store = old.places.store.now in
    let at = place_in old.stand old.sought.items in
    c.seek_version.ensures.some (some-version at (shown store) (sym (ap (λ b. is_some (first (left_in b at (shown store) (place_under old.places.versions)))) c.if-self.false) ∙ is)))

pub invariant_of-self-clause-behind : goal.invariant_of-self-clause-behind
invariant_of-self-clause-behind g c =
    λ h.
    (let new = c.seek_version.new.self in
    behind-first new.sought.items (shown new.places.store.now) (record { wall = max_wall; logical = max_logical }) (shown-rising new.places.store.now) refl (place_under new.places.versions) (c.seek_version.ensures.sought h ∙ ap (λ t. count_below (version_under c.seek_version.new.self.sought.items t) (shown c.seek_version.new.self.places.store.now) + 1) c.last_time.ensures))

pub invariant_of-self-clause-within : goal.invariant_of-self-clause-within
invariant_of-self-clause-within g c =
    λ h.
    (let new = c.seek_version.new.self in
    within-first new.sought.items (shown new.places.store.now) (record { wall = max_wall; logical = max_logical }) (place_under new.places.versions) (c.seek_version.ensures.sought h ∙ ap (λ t. count_below (version_under c.seek_version.new.self.sought.items t) (shown c.seek_version.new.self.places.store.now) + 1) c.last_time.ensures))
