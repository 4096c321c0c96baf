-- How contracts see a list of fragments with what is to stand in its place.
use Rattle.std.specs.Prelude.{List}
use Rattle.mvcc_key.specs.Fragments.{Fragment}

-- the list as it is, and as it is to be
pub record Stage : Type 0 where
  pub fragments : List Fragment
  pub next : List Fragment

-- nothing is staged
abbrev pub settled : List Fragment → Stage
settled fs = record { fragments = fs; next = fs }
