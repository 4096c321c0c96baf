use Rattle.std.proofs.Common.{◌∙◌, sym, ap, true, false}
use Rattle.std.specs.Option.{option_copied}
use Rattle.mvcc_key.specs.Order.{is_at_or_below}
use Rattle.mvcc_key.proofs.PieceLaws.{canonical-pieces}
use Rattle.range_key.proofs.PlaceLaws.{find-none, find-some, get-at}
use Rattle.range_key.proofs.place.fragment_at.Goals as goal

pub returns-in_err-fragment-clause-found : goal.returns-in_err-fragment-clause-found
returns-in_err-fragment-clause-found g c =
    let place = c.first_ending_above-place in
    let at = sym (get-at c.args.fragments.now place.result c.get.result c.get.ensures.lookup) ∙ ap option_copied c.in_err-fragment.was in
    ap option_copied c.from_residual.ensures
    ∙ sym (find-none c.args.key.now c.args.fragments.now place.result (canonical-pieces _ c.requires) place.ensures.before place.ensures.from at)

pub returns-then-is_by-clause-found : goal.returns-then-is_by-clause-found
returns-then-is_by-clause-found g c =
    let place = c.first_ending_above-place in
    let at = sym (get-at c.args.fragments.now place.result c.get.result c.get.ensures.lookup) ∙ ap option_copied c.in_ok-fragment.was in
    sym (find-some c.args.key.now c.args.fragments.now place.result c.in_ok-fragment.fragment.now true (canonical-pieces _ c.requires) place.ensures.before place.ensures.from at
    (ap (λ start. is_at_or_below start c.args.key.now) (sym c.start_bytes.ensures) ∙ sym c.is_by.ensures.answer ∙ c.if-is_by.true))

pub returns-else-is_by-clause-found : goal.returns-else-is_by-clause-found
returns-else-is_by-clause-found g c =
    let place = c.first_ending_above-place in
    let at = sym (get-at c.args.fragments.now place.result c.get.result c.get.ensures.lookup) ∙ ap option_copied c.in_ok-fragment.was in
    sym (find-some c.args.key.now c.args.fragments.now place.result c.in_ok-fragment.fragment.now false (canonical-pieces _ c.requires) place.ensures.before place.ensures.from at
    (ap (λ start. is_at_or_below start c.args.key.now) (sym c.start_bytes.ensures) ∙ sym c.is_by.ensures.answer ∙ c.if-is_by.false))
