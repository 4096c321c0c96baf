-- Which end a cursor stands at.
use Rattle.std.specs.Prelude.{Bool, true, false}
use Rattle.mvcc_cursor.specs.declared.stand.Stand.{Stand}
use Rattle.mvcc_cursor.specs.declared.stand.Stand.TheVariants.{Before, At, Past}

-- before the first key
abbrev pub is_before : Stand → Bool
is_before Before = true
is_before At = false
is_before Past = false

-- past the last key
abbrev pub is_past : Stand → Bool
is_past Before = false
is_past At = false
is_past Past = true
