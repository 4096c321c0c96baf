use Rattle.std.proofs.Common.{◌≡◌, ◌≤◌, ◌+◌, take, sum_by}
use Rattle.std.specs.Prelude.{All, IsTrue}
use Rattle.mvcc_key.specs.Encoded.{name_in}
use Rattle.merge_cursor.specs.views.Moves.{passed, passing_looks}
use Rattle.merge_cursor.specs.views.Standing.{standings}
use Rattle.merge_cursor.proofs.MoveLaws.{changed_to}
use Rattle.merge_cursor.proofs.pass.pass_key.Given as goal

abbrev pub invariant-loop-part : goal.invariant-loop-part
invariant-loop-part g l =
    let all = standings g.C.Cursor.points g.C.Cursor.place g.C.Cursor.is_part in record {
      parts : all l.parts ≡ changed_to (passed l.to (name_in l.key)) l.part-index (all l.initial.parts);
      later : l.initial.looks ≤ l.looks;
      looks : All (λ s. IsTrue s.is_part) (all l.initial.parts)
          → l.looks ≤ l.initial.looks + sum_by (passing_looks l.to (name_in l.key)) (take l.part-index (all l.initial.parts));
    }
