use Rattle.std.proofs.Common.{◌≡◌, ◌≤◌, ◌<◌, ◌+◌, take, sum_by, count_by}
use Rattle.std.specs.Prelude.{All, IsTrue}
use Rattle.merge_cursor.specs.views.Moves.{moved, takes_look, looks_of}
use Rattle.merge_cursor.specs.views.Standing.{standings}
use Rattle.merge_cursor.proofs.MoveLaws.{changed_to}
use Rattle.merge_cursor.proofs.moves.move_all.Given as goal

abbrev pub invariant-loop-part : goal.invariant-loop-part
invariant-loop-part g l =
    let all = standings g.C.Cursor.points g.C.Cursor.place g.C.Cursor.is_part in record {
      parts : all l.parts ≡ changed_to (moved l.to) l.part-index (all l.initial.parts);
      some : 0 < count_by (λ s. takes_look l.to s.points s.place) (take l.part-index (all l.initial.parts)) → l.initial.looks < l.looks;
      later : l.initial.looks ≤ l.looks;
      looks : All (λ s. IsTrue s.is_part) (all l.initial.parts)
          → l.looks ≤ l.initial.looks + sum_by (λ s. looks_of l.to s.points) (take l.part-index (all l.initial.parts));
    }
