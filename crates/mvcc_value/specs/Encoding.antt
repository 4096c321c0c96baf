-- The bytes of a value, and the first fault of bytes that are none.
use Rattle.std.specs.Prelude.{ℕ, zero, suc, ◌+◌, ◌*◌, ◌/◌, ◌%◌, ◌^◌, ℤ, pos, negsuc, Bool, true, false, ◌&&◌, ◌||◌, not, List, [], ◌∷◌, ◌++◌, length, take, drop, slice_index, Result, Ok, Err, bytes_eq, nat_lt, nat_le, ◌==◌, if◌then◌else◌, ◌≡◌, FitsSigned, ⊤}
use Rattle.std.specs.Int.{w32, w64, to_be_bytes, from_be_bytes}
use Rattle.mvcc_key.specs.Order.{Timestamp, no_time, is_no_time, is_in_range, is_before}
use Rattle.mvcc_key.specs.History.{Body, Deletion, Bytes, Int, is_deletion, kept_local}
use Rattle.mvcc_value.specs.declared.fault.ValueFault.{ValueFault}
use Rattle.mvcc_value.specs.declared.fault.ValueFault.TheVariants.{Short, Header, LocalRange, Checksum, Tag, IntForm}

-- a signed number as an unsigned one: 0, -1, 1, -2, 2 and on
abbrev pub zigzag : ℤ → ℕ
zigzag (pos n) = 2 * n
zigzag (negsuc n) = 2 * n + 1

-- the signed number that an unsigned one stands for
abbrev pub from_zigzag : ℕ → ℤ
from_zigzag n = if n % 2 == 0 then pos (n / 2) else negsuc (n / 2)

-- a number in at most so many groups of 7 bits, the lowest first; every group but the last has its high bit set
abbrev pub groups : ℕ → ℕ → List ℕ
groups zero n = []
groups (suc k) n = if nat_lt n 128 then n ∷ [] else (128 + n % 128) ∷ groups k (n / 128)

-- the shortest form of a number of 64 bits
unfoldable pub varint : ℕ → List ℕ
varint n = groups 10 n

-- the number that groups of 7 bits stand for
abbrev pub number_of : List ℕ → ℕ
number_of [] = 0
number_of (b ∷ bs) = b % 128 + 128 * number_of bs

-- four checksum bytes, a tag, and the data; a deletion has no bytes
abbrev pub plain_bytes : Body → List ℕ
plain_bytes Deletion = []
plain_bytes (Bytes bytes) = 0 ∷ 0 ∷ 0 ∷ 0 ∷ 0x03 ∷ bytes
plain_bytes (Int number) = 0 ∷ 0 ∷ 0 ∷ 0 ∷ 0x01 ∷ varint (zigzag number)

-- the header of a value whose local timestamp is kept
abbrev pub header : Timestamp → List ℕ
header local = 0 ∷ 0 ∷ 0 ∷ 0x0c ∷ 0x7f ∷ to_be_bytes w64 local.wall ++ to_be_bytes w32 local.logical

-- the bytes of a header
abbrev pub header_length : ℕ
header_length = 17

-- the header of a local timestamp, or nothing
abbrev pub header_of : Timestamp → List ℕ
header_of local = if is_no_time local then [] else header local

-- a value at ts: the local timestamp where it is kept, and the plain value
unfoldable pub value_bytes : Body → Timestamp → Timestamp → List ℕ
value_bytes body local ts = header_of (kept_local local ts) ++ plain_bytes body

-- the bytes of a deletion: nothing, or a header alone
abbrev pub is_deletion_value : List ℕ → Bool
is_deletion_value bytes = (length bytes == 0) || ((length bytes == header_length) && (slice_index bytes 4 == 0x7f))

-- a length that the bytes of a value may have: those of a deletion, or at least those of a plain value
abbrev pub is_value_length : Bool → ℕ → Bool
is_value_length true n = (n == 0) || (n == header_length)
is_value_length false n = nat_le 5 n

-- the bytes are the shortest form of a number of 64 bits
abbrev pub is_varint : List ℕ → Bool
is_varint bytes = nat_lt (number_of bytes) (2 ^ 64) && bytes_eq (varint (number_of bytes)) bytes

-- the number whose shortest form these bytes are
abbrev pub int_body : List ℕ → Result Body ValueFault
int_body bytes = if is_varint bytes then Ok (Int (from_zigzag (number_of bytes))) else Err IntForm

-- the plain value that the bytes are, or their first fault
unfoldable pub plain_body : List ℕ → Result Body ValueFault
plain_body bytes =
    if nat_lt (length bytes) 5 then Err Short
    else if not (bytes_eq (take 4 bytes) (0 ∷ 0 ∷ 0 ∷ 0 ∷ [])) then Err Checksum
    else if slice_index bytes 4 == 0x03 then Ok (Bytes (drop 5 bytes))
    else if slice_index bytes 4 == 0x01 then int_body (drop 5 bytes)
    else Err Tag

-- nothing is a deletion, and other bytes a plain value
abbrev pub body_of : List ℕ → Result Body ValueFault
body_of bytes = if length bytes == 0 then Ok Deletion else plain_body bytes

-- a value and its local timestamp
pub record Value : Type 0 where
  pub local : Timestamp
  pub body : Body

-- a body beside its local timestamp
abbrev pub with_local : Timestamp → Result Body ValueFault → Result Value ValueFault
with_local local (Ok body) = Ok (record { local = local; body = body })
with_local local (Err fault) = Err fault

-- the local timestamp in a header
abbrev pub header_time : List ℕ → Timestamp
header_time bytes = record { wall = from_be_bytes w64 (take 8 (drop 5 bytes)); logical = from_be_bytes w32 (take 4 (drop 13 bytes)) }

-- a local timestamp that a header at ts may have
abbrev pub is_local : Timestamp → Timestamp → Bool
is_local ts local = not (is_no_time local) && is_in_range local && is_before local ts

-- a value that begins with a header
abbrev pub headed_value : Timestamp → List ℕ → Result Value ValueFault
headed_value ts bytes =
    if not (bytes_eq (take 4 bytes) (0 ∷ 0 ∷ 0 ∷ 0x0c ∷ [])) then Err Header
    else if nat_lt (length bytes) header_length then Err Short
    else if not (is_local ts (header_time bytes)) then Err LocalRange
    else with_local (header_time bytes) (body_of (drop header_length bytes))

-- the value at ts that the bytes are, or their first fault
unfoldable pub value_of : Timestamp → List ℕ → Result Value ValueFault
value_of ts bytes =
    if length bytes == 0 then Ok (record { local = no_time; body = Deletion })
    else if nat_lt (length bytes) 5 then Err Short
    else if slice_index bytes 4 == 0x7f then headed_value ts bytes
    else with_local no_time (plain_body bytes)

-- a body that has bytes: a number is one of 64 signed bits
abbrev pub IsEncodable : Body → Type 0
IsEncodable Deletion = ⊤
IsEncodable (Bytes bytes) = ⊤
IsEncodable (Int number) = FitsSigned w64 number

-- the bytes are those of the value at ts, whose local timestamp is kept
pub record IsValueOf (ts : Timestamp) (bytes : List ℕ) (v : Value) : Type 0 where
  pub bytes_are : bytes ≡ value_bytes v.body v.local ts
  pub kept : kept_local v.local ts ≡ v.local
  pub range : is_in_range v.local ≡ true
  pub encodable : IsEncodable v.body

-- the bytes of a value tell whether it is a deletion
abbrev pub BytesTellDeletion : Type 0
BytesTellDeletion = (body : Body) (local ts : Timestamp) → is_deletion_value (value_bytes body local ts) ≡ is_deletion body

-- their number is one that they may have
abbrev pub LengthIsOne : Type 0
LengthIsOne = (body : Body) (local ts : Timestamp) → is_value_length (is_deletion body) (length (value_bytes body local ts)) ≡ true
