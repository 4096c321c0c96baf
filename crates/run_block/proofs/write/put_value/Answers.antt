use Rattle.std.proofs.Common.{ℕ, List, sym, ap, ◌∙◌}
use Rattle.std.specs.Prelude.{Some}
use Rattle.std.specs.Option.{option_map}
use Rattle.std.proofs.lemmas.List.{append-nil}
use Rattle.run_block.specs.views.Places.{piece_in}
use Rattle.run_block.proofs.write.put_value.Goals as goal

pub returns-in_ok-piece-in-Some-clause-value : goal.returns-in_ok-piece-in-Some-clause-value
returns-in_ok-piece-in-Some-clause-value c =
    ap (λ (xs : List ℕ). Some xs)
    (ap (λ (bytes : List ℕ). piece_in bytes c.in_ok-piece-in-Some.piece) (sym (append-nil c.put_counted.new.out.items)) ∙ c.in_ok-piece-in-Some.ensures.piece _)
    ∙ sym (ap (option_map (λ v. v.now)) c.in-Some.is)
