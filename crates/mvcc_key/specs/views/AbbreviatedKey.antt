-- The first bytes of a key as a number, by which keys are compared at once (Pebble's AbbreviatedKey).
use Rattle.std.specs.Prelude.{◌≡◌, ℕ, zero, suc, ◌+◌, ◌*◌, ◌^◌, List, [], ◌∷◌}
use Rattle.mvcc_key.specs.Encoded.{IsBytes}

-- the first n bytes, the highest first, with zeros behind fewer
abbrev pub abbreviated_to : ℕ → List ℕ → ℕ
abbreviated_to zero key = 0
abbreviated_to (suc n) [] = 0
abbreviated_to (suc n) (b ∷ key) = b * 256 ^ n + abbreviated_to n key

-- of the first eight bytes
unfoldable pub abbreviated_key : List ℕ → ℕ
abbreviated_key key = abbreviated_to 8 key

-- the number is the abbreviated key of the key, which is bytes
pub record IsAbbreviatedKey (key : List ℕ) (number : ℕ) : Type 0 where
  pub is : number ≡ abbreviated_key key
  pub bytes : IsBytes key
