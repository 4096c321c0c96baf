use Rattle.std.specs.Prelude.{option_map}
use Rattle.std.proofs.Common.{◌+◌, ◌≤◌, sym, ap, ◌∙◌, subst, arith}
use Rattle.mvcc_key.specs.Lists.{first}
use Rattle.mvcc_key.specs.History.{intent_of}
use Rattle.intent_meta.specs.Valid.{IsValid}
use Rattle.stat_delta.specs.Shapes.{version_shape}
use Rattle.mvcc_cursor.specs.Standing.{anew, committed, one_seek, entries_of}
use Rattle.mvcc_cursor.specs.WellFormed.{history_in}
use Rattle.intent_resolve.proofs.key_plan.look_here.Goals as goal

pub newest_here-newest-requires : goal.newest_here-newest-requires
newest_here-newest-requires g c = subst (λ s. IsValid (history_in s.store)) (sym c.local_here-local.ensures.stands) (c.requires.formed).valid

pub returns-clause-stands : goal.returns-clause-stands
returns-clause-stands g c = c.newest_here-newest.ensures.stands ∙ ap anew c.local_here-local.ensures.stands

pub returns-clause-looked : goal.returns-clause-looked
returns-clause-looked g c =
    let stands = c.newest_here-newest.ensures.stands ∙ ap anew c.local_here-local.ensures.stands in
    record {
      local = λ key i at was. c.local_here-local.ensures.local key i (ap (λ s. s.at) (sym stands) ∙ at) (ap (λ s. intent_of key (history_in s.store)) (sym stands) ∙ was);
      newest = c.newest_here-newest.ensures.newest
          ∙ ap (λ s. option_map version_shape (first (committed s))) c.local_here-local.ensures.stands
          ∙ ap (λ s. option_map version_shape (first (committed s))) (sym stands);
    }

pub returns-clause-looks : goal.returns-clause-looks
returns-clause-looks g c = λ key at passed_is.
    let stands = c.local_here-local.ensures.stands in
    let first = c.local_here-local.ensures.looks key at passed_is in
    let then = subst (λ s. c.newest_here-newest.new.looks ≤ c.local_here-local.new.looks + one_seek s.store + entries_of key s.store) stands
    (c.newest_here-newest.ensures.looks key (ap (λ s. s.at) stands ∙ at)) in
    omega (arith, first, then)
