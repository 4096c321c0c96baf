-- What a source or a sink tells of its bytes.
use Rattle.std.specs.Prelude.{ℕ, List, None}
use Rattle.std.specs.declared.option.Option.{Option}

-- nothing
abbrev pub untold : Option (List ℕ)
untold = None
