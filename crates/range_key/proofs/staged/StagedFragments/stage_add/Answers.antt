use Rattle.std.proofs.Common.{◌∙◌, ◌≡◌, OnOk, List, sym, ap, subst}
use Rattle.mvcc_key.specs.Canonical.{IsCanonical}
use Rattle.mvcc_key.specs.Fragments.{Fragment}
use Rattle.mvcc_key.specs.views.Seen.{time_of}
use Rattle.range_key.specs.RangeOps.{fragments_with, setting}
use Rattle.range_key.specs.views.Planned.{with_pieces}
use Rattle.range_key.specs.views.Stages.{Stage}
use Rattle.range_key.proofs.OperationLaws.{adds-setting, fragments_with-canonical}
use Rattle.range_key.proofs.staged.StagedFragments.stage_add.Goals as goal

pub keep-requires-clause-canonical : goal.keep-requires-clause-canonical
keep-requires-clause-canonical c =
    let op = setting c.args.start.now c.args.end.now (time_of c.args.ts) in
    let held = c.self.inside.held.items in
    let change = c.in_ok-change-in-None.change in
    let made = adds-setting c.args.start.now c.args.end.now (time_of c.args.ts) c.as_slice.result.now (with_pieces c.as_slice.result.now change)
    (subst IsCanonical (sym c.as_slice.ensures.value) c.self.invariant.canonical) c.in_ok-change-in-None.ensures.adds in
    subst (λ (fs : List Fragment). IsCanonical (with_pieces fs change)) (c.as_slice.ensures.value ∙ ap (λ (s : Stage). s.fragments) c.self.view_is)
    (subst IsCanonical (sym made) (fragments_with-canonical c.as_slice.result.now op))

pub returns-in_ok-change-in-None-clause-next : goal.returns-in_ok-change-in-None-clause-next
returns-in_ok-change-in-None-clause-next c =
    let op = setting c.args.start.now c.args.end.now (time_of c.args.ts) in
    let change = c.in_ok-change-in-None.change in
    let shown = c.as_slice.ensures.value ∙ ap (λ (s : Stage). s.fragments) c.self.view_is in
    let made = adds-setting c.args.start.now c.args.end.now (time_of c.args.ts) c.as_slice.result.now (with_pieces c.as_slice.result.now change)
    (subst IsCanonical (sym c.as_slice.ensures.value) c.self.invariant.canonical) c.in_ok-change-in-None.ensures.adds in
    let next = sym (rw c.in-None.is at c.in_ok-take_next.ensures.next) in
    let same = ap (λ (s : Stage). s.fragments) c.take_next.ensures.settled ∙ next in
    subst (λ (fs : List Fragment). OnOk c.keep.result (c.keep.new.self.next ≡ fs))
    (subst (λ (fs : List Fragment). with_pieces fs change ≡ fragments_with fs op) shown made ∙ ap (λ (fs : List Fragment). fragments_with fs op) same)
    c.keep.ensures.next
