-- How contracts see what is gathered of the plans of several keys.
use Rattle.std.specs.Prelude.{ℕ, List, [], ◌∷◌}
use Rattle.mvcc_key.specs.declared.batch.PointOp.{PointOp}

-- the later moment, and the last one where no point is put
abbrev pub moment_with : ℕ → ℕ → List PointOp → ℕ
moment_with last later [] = last
moment_with last later (op ∷ ops) = later
