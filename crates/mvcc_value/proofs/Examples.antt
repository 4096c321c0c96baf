-- Worked examples of the encoding.
use Rattle.std.specs.Prelude.{◌≡◌, ℕ, ◌*◌, [], ◌∷◌, Ok, Err, pos, negsuc, codes, refl, length}
use Rattle.mvcc_key.specs.Order.{Timestamp, no_time}
use Rattle.mvcc_key.specs.History.{Bytes, Int}
use Rattle.mvcc_value.specs.Encoding.{value_bytes, varint, value_of, plain_body}
use Rattle.mvcc_value.specs.declared.fault.ValueFault.TheVariants.{IntForm}

-- so many seconds
abbrev at : ℕ → Timestamp
at seconds = record { wall = seconds * 1000000000; logical = 0 }

-- three bytes behind a tag
pub bytes_abc : value_bytes (Bytes (codes "abc")) no_time (at 1) ≡ 0 ∷ 0 ∷ 0 ∷ 0 ∷ 3 ∷ 0x61 ∷ 0x62 ∷ 0x63 ∷ []
unfolding value_bytes
bytes_abc = refl

-- 200 in two groups
pub int_100 : value_bytes (Int (pos 100)) no_time (at 1) ≡ 0 ∷ 0 ∷ 0 ∷ 0 ∷ 1 ∷ 0xc8 ∷ 1 ∷ []
unfolding value_bytes varint
int_100 = refl

-- the greatest number has ten groups
pub int_greatest : length (value_bytes (Int (pos 9223372036854775807)) no_time (at 1)) ≡ 15
unfolding value_bytes varint
int_greatest = refl

-- two bytes behind a header
pub bytes_de : value_bytes (Bytes (codes "de")) (at 2) (at 4) ≡ 0 ∷ 0 ∷ 0 ∷ 0x0c ∷ 0x7f ∷ 0 ∷ 0 ∷ 0 ∷ 0 ∷ 0x77 ∷ 0x35 ∷ 0x94 ∷ 0 ∷ 0 ∷ 0 ∷ 0 ∷ 0 ∷ 0 ∷ 0 ∷ 0 ∷ 0 ∷ 3 ∷ 0x64 ∷ 0x65 ∷ []
unfolding value_bytes
bytes_de = refl

-- a number with a local timestamp is read again
pub read_back : value_of (at 4) (value_bytes (Int (negsuc 29)) (at 2) (at 4)) ≡ Ok (record { local = at 2; body = Int (negsuc 29) })
unfolding value_bytes value_of plain_body varint
read_back = refl

-- 5 in one group too many
pub longer_than_needed : value_of (at 4) (0 ∷ 0 ∷ 0 ∷ 0 ∷ 1 ∷ 0x8a ∷ 0 ∷ []) ≡ Err IntForm
unfolding value_bytes value_of plain_body varint
longer_than_needed = refl
