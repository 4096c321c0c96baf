use Rattle.std.proofs.Common.{◌∙◌, ◌≡◌, ◌++◌, ◌∷◌, [], List, sym, ap, subst}
use Rattle.std.specs.List.{AllByRecursion}
use Rattle.std.proofs.lemmas.Result.{IfOk-weaker}
use Rattle.std.proofs.lemmas.List.{nil_from_length}
use Rattle.mvcc_key.specs.Canonical.{IsCanonical}
use Rattle.mvcc_key.specs.Fragments.{Fragment}
use Rattle.range_key.specs.RangeOps.{HasParts, operations_of}
use Rattle.range_key.proofs.KindLaws.{operations_of-parts}
use Rattle.lsm_store.specs.Shown.{fragments_in, fragments_over}
use Rattle.lsm_store.proofs.RangeLaws.{in-canonical}
use Rattle.lsm_store.proofs.StorableLaws.{is_short, is_timed, run-parts, all-storable, over-last}
use Rattle.lsm_store.proofs.ranges.closing_ops.Goals as goal

pub loop-run-preserved : goal.loop-run-preserved
loop-run-preserved c =
    let newer = c.in-Some.newer.now in
    let run' = c.in-Some.run'.now in
    let base = c.loop-run.fragments.next in
    let rest : c.loop-run.rest.now ≡ newer ++ run' ∷ [] = c.in-Some.ensures.cases.0 in
    record {
      next = c.loop-run.invariant.next ∙ ap (fragments_over base) rest ∙ over-last base newer run' ∙ ap (λ (fs : List Fragment). fragments_over fs newer) (sym c.in_ok-stage_run.ensures.ok);
      parts = subst (λ (fs : List Fragment). AllByRecursion (HasParts is_short is_timed) (operations_of fs)) (sym c.in_ok-stage_run.ensures.ok)
          (operations_of-parts is_short is_timed base run'.ranges c.loop-run.invariant.parts (run-parts run' c.stage_run.ensures.run));
    }

pub returns-clause-storable : goal.returns-clause-storable
returns-clause-storable c =
    let next = c.loop-run.fragments.next in
    let all : fragments_in c.args.runs.now ≡ next = c.loop-run.invariant.next ∙ ap (fragments_over next) (nil_from_length c.loop-run.rest.now c.in_default.ensures.cases) in
    let lent = c.lend.ensures ∙ ap (λ s. s.fragments) c.commit.ensures in
    IfOk-weaker c.to_ops.result _ _
    (λ ops are. all-storable ops.items next (subst IsCanonical all (in-canonical c.args.runs.now)) (are ∙ ap operations_of lent) c.loop-run.invariant.parts)
    c.to_ops.ensures
