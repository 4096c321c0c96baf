-- The next version, where one was given.
use Rattle.std.proofs.Common.{◌≡◌, ◌+◌, ◌≤◌, ◌<◌, [], List, drop, sym, ap, subst, ◌∙◌, true, false, arith}
use Rattle.std.specs.Prelude.{◌&&◌, cond, is_some, None}
use Rattle.mvcc_key.specs.Lists.{first}
use Rattle.mvcc_key.specs.Points.{Point, count_below, point_at}
use Rattle.merge_cursor.specs.Merged.{entries_before}
use Rattle.lsm_store.specs.Shown.{points_in, shown, fragments_in}
use Rattle.mvcc_cursor.specs.KeyPoints.{record_name, kept_if, is_of_key, is_version}
use Rattle.mvcc_cursor.specs.Standing.{stack_over, entries_up_to}
use Rattle.mvcc_cursor.specs.views.Under.{place_under, point_under, key_under, place_in, left_in, passed_in, begin_looks, behind_key}
use Rattle.mvcc_cursor.specs.views.Seen.{seen}
use Rattle.mvcc_cursor.proofs.BytesLaws.{record-IsName}
use Rattle.mvcc_cursor.proofs.SeenLaws.{given-left, given-version, next-looks, begun-looks, some-left, behind-next, none-left, none-now, within-next, passed-within, le-plus}
use Rattle.mvcc_cursor.proofs.StoreLaws.{placed, shown-rising}
use Rattle.mvcc_cursor.proofs.cursor.MvccCursor.go_past.Goals as goal

pub key_of-requires : goal.key_of-requires
key_of-requires g c = record-IsName c.args.self.now.sought.items c.as_slice.result.now c.args.self.now.named c.as_slice.ensures.value

pub invariant_of-self-clause-over : goal.invariant_of-self-clause-over
invariant_of-self-clause-over g c =
    (let self = c.args.self.now in
    let store = self.places.store.now in
    let place = place_under self.places.versions in
    let at = place_in self.stand self.sought.items in
    self.over ∙ ap (λ s. stack_over at (fragments_in s)) (sym c.next_version.ensures.store))

pub invariant_of-self-clause-behind : goal.invariant_of-self-clause-behind
invariant_of-self-clause-behind g c =
    λ given.
    (let self = c.args.self.now in
    let store = self.places.store.now in
    let place = place_under self.places.versions in
    let at = place_in self.stand self.sought.items in
    subst (λ s. count_below (record_name (key_under self.sought.items)) (shown s) < place_under c.next_version.new.self.versions) (sym c.next_version.ensures.store)
    (behind-next (record_name (key_under self.sought.items)) (shown store) place (place_under c.next_version.new.self.versions) (self.behind given) c.next_version.ensures.place))

pub invariant_of-self-clause-within : goal.invariant_of-self-clause-within
invariant_of-self-clause-within g c =
    λ given.
    (let self = c.args.self.now in
    let store = self.places.store.now in
    let place = place_under self.places.versions in
    let at = place_in self.stand self.sought.items in
    let test = c.is_given.ensures ∙ ap (λ k. is_some (kept_if (is_of_key k) (point_at (shown store) place))) (c.key_of.ensures ∙ ap key_under c.as_slice.ensures.value) in
    subst (λ s. place_under c.next_version.new.self.versions ≤ behind_key self.sought.items (shown s) + 1) (sym c.next_version.ensures.store)
    (within-next (key_under self.sought.items) (shown store) (shown-rising store) place (place_under c.next_version.new.self.versions) (sym test ∙ c.if-is_given.true) c.next_version.ensures.place))

pub returns-then-is_given-clause-after : goal.returns-then-is_given-clause-after
returns-then-is_given-clause-after g c =
    (let self = c.args.self.now in
    let store = self.places.store.now in
    let place = place_under self.places.versions in
    let at = place_in self.stand self.sought.items in
    let place' = place_under c.next_version.new.self.versions in
    let test = c.is_given.ensures ∙ ap (λ k. is_some (kept_if (is_of_key k) (point_at (shown store) place))) (c.key_of.ensures ∙ ap key_under c.as_slice.ensures.value) in
    let gone : left_in self.given at (shown store) place' ≡ drop 1 (left_in self.given at (shown store) place) =
    ap (λ b. left_in b at (shown store) place') c.requires
    ∙ given-left self.sought.items (shown store) (shown-rising store) place place' (self.behind c.requires) c.next_version.ensures.place (placed store self.places.versions self.places.versions_over) self.stand self.stored (self.giving c.requires) self.found
    ∙ ap (λ b. drop 1 (left_in b at (shown store) place)) (sym c.requires) in
    record {
      stands = λ i. record {
        store = c.next_version.ensures.store i;
        at = at;
        left = (ap (λ s. left_in self.given at (shown s) place') c.next_version.ensures.store ∙ gone) i;
      };
      looks =
          subst (λ s. c.next_version.new.looks + passed_in self.given self.sought.items store place ≤ c.args.looks.now + passed_in self.given self.sought.items s place' + begin_looks self.given store) (sym c.next_version.ensures.store)
          (next-looks self.sought.items store place place' c.args.looks.now c.next_version.new.looks
          (subst (λ l. c.next_version.new.looks + entries_before (point_at (shown store) place) (points_in store) ≤ c.args.looks.now + entries_before (point_at l place') (points_in store)) (c.next_version.new.self.versions_over.0 ∙ ap shown c.next_version.ensures.store)
          (subst (λ l. c.next_version.new.looks + entries_before (point_at l place) (points_in store) ≤ c.args.looks.now + entries_before (point_under c.next_version.new.self.versions) (points_in store)) self.places.versions_over.0
          (c.next_version.ensures.looks (self.ahead c.requires))))
          self.given c.requires);
      begun = λ _. begun-looks self.given c.next_version.new.self.store.now c.requires;
      within = λ key is.
          subst (λ s. passed_in self.given self.sought.items s place' ≤ entries_up_to key store) (sym c.next_version.ensures.store)
          (passed-within self.given self.stand self.sought.items store place' (shown-rising store)
          (λ given. behind-next (record_name (key_under self.sought.items)) (shown store) place place' (self.behind given) c.next_version.ensures.place)
          (λ given. within-next (key_under self.sought.items) (shown store) (shown-rising store) place place' (sym test ∙ c.if-is_given.true) c.next_version.ensures.place) key is);
    })

pub returns-then-is_given-clause-version : goal.returns-then-is_given-clause-version
returns-then-is_given-clause-version g c =
    (let self = c.args.self.now in
    let store = self.places.store.now in
    let place = place_under self.places.versions in
    let at = place_in self.stand self.sought.items in
    let place' = place_under c.next_version.new.self.versions in
    ap (λ s. cond self.stored (kept_if (λ p. is_of_key (key_under self.sought.items) p && is_version p) (point_at (shown s) place')) None) c.next_version.ensures.store
    ∙ given-version self.sought.items (shown store) (shown-rising store) place place' (self.behind c.requires) c.next_version.ensures.place (placed store self.places.versions self.places.versions_over) self.stand self.stored (self.giving c.requires) self.found
    ∙ ap (λ b. first (left_in b at (shown store) place)) (sym c.requires))

pub returns-then-is_given-clause-some : goal.returns-then-is_given-clause-some
returns-then-is_given-clause-some g c =
    λ is.
    (let self = c.args.self.now in
    let store = self.places.store.now in
    let place = place_under self.places.versions in
    let at = place_in self.stand self.sought.items in
    let inside = some-left at (shown store) place (sym (ap (λ b. is_some (first (left_in b at (shown store) place))) c.requires) ∙ is) in
    let behind = self.behind c.requires in
    c.next_version.ensures.some (omega arith) (omega arith))

pub returns-else-is_given-clause-after : goal.returns-else-is_given-clause-after
returns-else-is_given-clause-after g c =
    (let self = c.args.self.now in
    let store = self.places.store.now in
    let place = place_under self.places.versions in
    let at = place_in self.stand self.sought.items in
    let test = c.is_given.ensures ∙ ap (λ k. is_some (kept_if (is_of_key k) (point_at (shown store) place))) (c.key_of.ensures ∙ ap key_under c.as_slice.ensures.value) in
    let none : left_in self.given at (shown store) place ≡ [] =
    ap (λ b. left_in b at (shown store) place) c.requires ∙ none-left self.stand self.sought.items (shown store) (shown-rising store) place (self.behind c.requires) (sym test ∙ c.if-is_given.false) in
    record {
      stands = ap (λ (l : List Point). record (seen self) { left = l }) (none ∙ sym (ap (drop 1) none));
      looks = le-plus c.args.looks.now (passed_in self.given self.sought.items store place) (begin_looks self.given store);
      begun = λ _. begun-looks self.given store c.requires;
      within = passed-within self.given self.stand self.sought.items store place (shown-rising store) self.behind self.within;
    })

pub returns-else-is_given-clause-version : goal.returns-else-is_given-clause-version
returns-else-is_given-clause-version g c =
    (let self = c.args.self.now in
    let store = self.places.store.now in
    let place = place_under self.places.versions in
    let at = place_in self.stand self.sought.items in
    let test = c.is_given.ensures ∙ ap (λ k. is_some (kept_if (is_of_key k) (point_at (shown store) place))) (c.key_of.ensures ∙ ap key_under c.as_slice.ensures.value) in
    none-now (key_under self.sought.items) (point_at (shown store) place) self.stored (sym test ∙ c.if-is_given.false)
    ∙ sym (ap first (ap (λ b. left_in b at (shown store) place) c.requires ∙ none-left self.stand self.sought.items (shown store) (shown-rising store) place (self.behind c.requires) (sym test ∙ c.if-is_given.false))))

pub returns-else-is_given-clause-some : goal.returns-else-is_given-clause-some
returns-else-is_given-clause-some g c =
    λ is.
    (let self = c.args.self.now in
    let store = self.places.store.now in
    let place = place_under self.places.versions in
    let at = place_in self.stand self.sought.items in
    let test = c.is_given.ensures ∙ ap (λ k. is_some (kept_if (is_of_key k) (point_at (shown store) place))) (c.key_of.ensures ∙ ap key_under c.as_slice.ensures.value) in
    let none : left_in self.given at (shown store) place ≡ [] =
    ap (λ b. left_in b at (shown store) place) c.requires ∙ none-left self.stand self.sought.items (shown store) (shown-rising store) place (self.behind c.requires) (sym test ∙ c.if-is_given.false) in
    let e : false ≡ true = sym (ap (λ l. is_some (first l)) none) ∙ is in
    absurd cc)
