-- How many looks a search by halves takes.
use Rattle.std.specs.Prelude.{ℕ, length}
use Rattle.std.specs.Int.Digits.{digits_of}

-- the number of binary digits of n, 0 for 0
unfoldable pub bits : ℕ → ℕ
bits n = length (digits_of 2 n)
