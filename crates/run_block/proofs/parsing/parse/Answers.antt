use Rattle.std.proofs.Common.{ℕ, List, arith, sym, ap, subst, ◌∙◌}
use Rattle.run_block.specs.RunFormat.{run_bytes}
use Rattle.run_block.specs.Runs.{IsRunOf}
use Rattle.run_block.specs.views.Places.{run_in}
use Rattle.run_block.proofs.FormLaws.{read_bytes_are_of_run}
use Rattle.run_block.proofs.parsing.parse.Goals as goal

pub new-requires-clause-run : goal.new-requires-clause-run
new-requires-clause-run c =
    let bytes = c.args.bytes.now in
    let index = c.in_ok-index.index in
    let is : IsRunOf bytes (run_in bytes index) = read_bytes_are_of_run bytes (run_in bytes index) (λ i. omega (arith, c.type_inv.bytes i)) c.in_ok-index.ensures.run in
    subst (λ (v : List ℕ). IsRunOf v (run_in v index)) (sym c.in-Ok.ensures.items) is

pub returns-clause-spelled : goal.returns-clause-spelled
returns-clause-spelled c =
    let bytes = c.args.bytes.now in
    let index = c.in_ok-index.index in
    let is : IsRunOf bytes (run_in bytes index) = read_bytes_are_of_run bytes (run_in bytes index) (λ i. omega (arith, c.type_inv.bytes i)) c.in_ok-index.ensures.run in
    ap run_bytes (c.new.ensures ∙ ap (λ (v : List ℕ). run_in v index) c.in-Ok.ensures.items) ∙ sym is.spelled
