-- What is written and gathered is what the lines so far say.
use Rattle.std.proofs.Common.{◌+◌, ◌∙◌, ap, refl, arith}
use Rattle.std.proofs.lemmas.Bool.Decides.{nat_tests}
use Rattle.std.proofs.lemmas.List.{nil_from_length}
use Rattle.std.proofs.lemmas.Result.{err_from_is_err_and}
use Rattle.script_run.proofs.GatherLaws.{begun, one_more, all_gathered, stopped_in, as_line}
use Rattle.script_run.proofs.BegunLaws.{carry_out-begins}
use Rattle.script_run.proofs.answers.gather_answers.Goals as goal

pub loop-rest-init : goal.loop-rest-init
loop-rest-init g c = record {
  under_way = begun c.args.options (g.K.Sink.held c.args.sink.now) c.args.text.now.items c.args.script.now c.new-session.result c.requires c.new-session.ensures;
  counted = omega arith;
  begun = omega (arith, ap (λ s. s.begun) c.new-session.ensures);
  sure = refl;
  later = omega arith;
}

pub loop-rest-preserved : goal.loop-rest-preserved
loop-rest-preserved g c =
    let i = c.loop-rest.invariant in record {
      under_way = one_more c.args.options _ _ _ c.loop-rest.text.items _ _ c.args.script.now c.loop-rest.rest.now c.first_line.result.1.now c.first_line.result.0.now c.loop-rest.session _ (c.loop-rest.number + 1)
          i.under_way c.first_line.ensures.lines c.in_ok-carry_out.ensures.state c.in_ok-carry_out.ensures.answer c.in_ok-write_if_large.ensures.ok;
      counted = omega (arith, i.counted, c.first_line.ensures.shorter);
      begun =
          let one = carry_out-begins c.loop-rest.session (c.loop-rest.number + 1) c.first_line.result.0.now in
          let after = ap (λ s. s.begun) c.in_ok-carry_out.ensures.state in
          omega (arith, i.begun, one, after);
      sure = c.in_ok-write_if_large.ensures.cause.sure ∙ i.sure;
      later = omega (arith, i.later, c.in_ok-write_if_large.ensures.cause.later);
    }

pub returns-in_err-write_if_large-clause-err : goal.returns-in_err-write_if_large-clause-err
returns-in_err-write_if_large-clause-err g c =
    let i = c.loop-rest.invariant in
    let p = err_from_is_err_and c.from_residual-in_err-write_if_large.result c.from_residual-in_err-write_if_large.ensures.1 in
    rw (p.1, p.2)
    (stopped_in _ _ _ c.loop-rest.text.items _ _ _ _
    (as_line c.args.options _ _ c.loop-rest.text.items c.args.script.now c.loop-rest.rest.now c.first_line.result.1.now c.first_line.result.0.now c.loop-rest.session (c.loop-rest.number + 1) i.under_way c.first_line.ensures.lines)
    c.in_ok-carry_out.ensures.answer c.in_err-write_if_large.ensures.err)

pub returns-clause-ok : goal.returns-clause-ok
returns-clause-ok g c =
    let i = c.loop-rest.invariant in
    all_gathered c.args.options _ _ c.loop-rest.text.items c.args.script.now c.loop-rest.rest.now c.loop-rest.session (c.loop-rest.number + 1) i.under_way
    (nil_from_length c.loop-rest.rest.now (grind (arith, nat_tests)))
