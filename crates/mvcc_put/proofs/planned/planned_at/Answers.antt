-- What the cursor tells at the key is what the store's history has of it, and each other that has the same of the key.
use Rattle.std.specs.Prelude.{◌≡◌, ◌≤◌, ◌+◌, option_map}
use Rattle.std.proofs.Common.{refl, sym, ap, ◌∙◌, subst, arith}
use Rattle.mvcc_key.specs.Lists.{first}
use Rattle.mvcc_key.specs.Limits.{max_bound_length}
use Rattle.stat_delta.specs.Shapes.{version_shape}
use Rattle.write_rule.specs.views.Seen.{request_of}
use Rattle.mvcc_cursor.specs.Standing.{committed, sought_key, one_seek, entries_of}
use Rattle.mvcc_cursor.specs.WellFormed.{history_in}
use Rattle.mvcc_cursor.specs.views.Seen.{seen}
use Rattle.key_top.specs.views.Seen.{seen_top}
use Rattle.mvcc_put.proofs.PlanLaws.{whole_take, stands-at, told-is, top-is, same-told, same-top, plans-put}
use Rattle.mvcc_put.proofs.planned.planned_at.Goals as goal

pub top_here-top-requires : goal.top_here-top-requires
top_here-top-requires g c =
    c.newest_here-newest.ensures.newest ∙ ap (λ t. option_map version_shape (first (committed t))) (sym c.newest_here-newest.ensures.stands)

pub planned_on-requires-clause-known : goal.planned_on-requires-clause-known
planned_on-requires-clause-known g c short =
    let old = seen c.args.cursor.now in
    let store = old.store in
    let key = c.args.key.now in
    let s = seen c.newest_here-newest.new.cursor in
    let stands = stands-at store (sought_key key) old (seen c.seek_exact.new.self) s refl c.seek_exact.ensures.key c.newest_here-newest.ensures.stands in
    let same : sought_key key ≡ key = whole_take max_bound_length key (omega (arith, short)) in
    record {
      history = history_in store;
      valid = c.requires.formed.valid;
      told_is = told-is store key (sought_key key) s stands same;
      top_is = top-is store key (sought_key key) s stands same c.requires.formed (seen_top c.top_here-top.result) c.top_here-top.ensures;
    }

pub returns-clause-outcome : goal.returns-clause-outcome
returns-clause-outcome g c h valid by agree tombstones =
    let old = seen c.args.cursor.now in
    let store = old.store in
    let key = c.args.key.now in
    let s = seen c.newest_here-newest.new.cursor in
    let stands = stands-at store (sought_key key) old (seen c.seek_exact.new.self) s refl c.seek_exact.ensures.key c.newest_here-newest.ensures.stands in
    plans-put c.planned_on.result h c.args.last key (request_of c.args.request.now) (c.planned_on.ensures.long).1
    (λ short.
    let same : sought_key key ≡ key = whole_take max_bound_length key (omega (arith, short)) in
    c.planned_on.ensures.outcome h valid by (same-told key h (history_in store) agree tombstones ∙ told-is store key (sought_key key) s stands same)
    (top-is store key (sought_key key) s stands same c.requires.formed (seen_top c.top_here-top.result) c.top_here-top.ensures ∙ sym (same-top key h (history_in store) agree tombstones)))

pub returns-clause-looks : goal.returns-clause-looks
returns-clause-looks g c =
    let sought = seen c.seek_exact.new.self in
    let key = sought_key c.args.key.now in
    let over : sought.store ≡ (seen c.args.cursor.now).store = ap (λ s. s.store) c.seek_exact.ensures.key in
    let first = c.seek_exact.ensures.looks in
    let second = subst (λ store. c.newest_here-newest.new.looks ≤ c.seek_exact.new.looks + one_seek store + entries_of key store) over (c.newest_here-newest.ensures.looks key (ap (λ s. s.at) c.seek_exact.ensures.key)) in
    omega (arith, first, second)
