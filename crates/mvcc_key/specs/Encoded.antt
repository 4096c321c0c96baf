-- The name that bytes encode, and what holds of encoding and reading.
use Rattle.std.specs.Prelude.{◌≡◌, ◌≢◌, ℕ, ◌-◌, ◌^◌, ◌<◌, if◌then◌else◌, List, [], slice_index, Result, Ok, Err, IsOk, true}
use Rattle.mvcc_key.specs.Order.{Timestamp, no_time, is_no_time, is_in_range, Name}
use Rattle.mvcc_key.specs.KeyFormat.{encoded_name, name_of, KeyFault}

-- each is below 256
abbrev pub IsBytes : List ℕ → Type 0
IsBytes bytes = (i : ℕ) → slice_index bytes i < 256

-- the name that was read; where there is none, that of the empty key's record
abbrev pub known_name : Result Name KeyFault → Name
known_name (Ok n) = n
known_name (Err fault) = record { key = []; ts = no_time }

-- the name that the bytes are known to encode
abbrev pub name_in : List ℕ → Name
name_in bytes = known_name (name_of bytes)

-- the bytes are read as a name, and are its encoding
pub record IsName (bytes : List ℕ) : Type 0 where
  pub read : IsOk (name_of bytes)
  pub spelled : encoded_name (name_in bytes) ≡ bytes

-- where a timestamp stands among the names of its key: the record above all versions
abbrev pub rank_of : Timestamp → ℕ
rank_of t = if is_no_time t then 2 ^ 64 - 1 else t.wall

-- a name whose timestamp is in range is read from its encoding
abbrev pub EncodingIsRead : Type 0
EncodingIsRead = (n : Name) → is_in_range n.ts ≡ true → name_of (encoded_name n) ≡ Ok n

-- bytes that are read are the encoding of what is read
abbrev pub ReadingWasEncoded : Type 0
ReadingWasEncoded = (bytes : List ℕ) (n : Name) → IsBytes bytes → name_of bytes ≡ Ok n → (bytes ≡ encoded_name n) × (is_in_range n.ts ≡ true)

-- bytes that are refused are the encoding of no name
abbrev pub RefusedIsNoEncoding : Type 0
RefusedIsNoEncoding = (bytes : List ℕ) (fault : KeyFault) (n : Name) → name_of bytes ≡ Err fault → is_in_range n.ts ≡ true → encoded_name n ≢ bytes
