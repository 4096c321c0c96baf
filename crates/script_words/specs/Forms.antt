-- The forms in which a line writes names, keys, values, times, numbers and ids.
use Rattle.std.specs.Prelude.{ℕ, ◌+◌, ◌-◌, ◌*◌, ◌^◌, ℤ, pos, neg_ℤ, Bool, true, not, ◌&&◌, ◌||◌, List, [], ◌∷◌, ◌++◌, length, map, fold, take, replicate, codes, bytes_eq, Option, Some, None, option_map, nat_le, ◌==◌, if◌then◌else◌}
use Rattle.std.specs.List.{list_all}
use Rattle.std.specs.Char.{is_ascii_alphanumeric, is_digit, digit_value}
use Rattle.mvcc_key.specs.Order.{Timestamp, max_wall, max_logical}
use Rattle.mvcc_key.specs.Cutting.{cut_at, pieces}
use Rattle.mvcc_key.specs.History.{SeqRange}
use Rattle.uuid.specs.Text.{parsed}

-- the second step, if the first has a reading
infixl 10 ◌>>=◌
abbrev pub ◌>>=◌ : {A B : Type 0} → Option A → (A → Option B) → Option B
None >>= f = None
Some x >>= f = f x

-- the value, where the test passes
abbrev pub where_it : {A : Type 0} → Bool → A → Option A
where_it test x = if test then Some x else None

-- a letter, a digit, an underscore or a dash
abbrev pub is_name_byte : ℕ → Bool
is_name_byte b = is_ascii_alphanumeric b || (b == 0x5f) || (b == 0x2d)

-- NAME: 1 to 64 of these
unfoldable pub name : List ℕ → Option (List ℕ)
name bytes = where_it (nat_le 1 (length bytes) && nat_le (length bytes) 64 && list_all is_name_byte bytes) bytes

-- a printed byte
abbrev pub is_printed : ℕ → Bool
is_printed b = nat_le 0x21 b && nat_le b 0x7e

-- a hexadecimal digit of either case
abbrev pub is_hex_digit : ℕ → Bool
is_hex_digit b = is_digit b 16

-- a byte of a TEXT: the backslash, with which an escape begins, or another one
pub data Symbol : Type 0 where
  Backslash : Symbol
  Other : (byte : ℕ) → Symbol

-- the symbol of a byte
abbrev pub symbol : ℕ → Symbol
symbol b = if b == 0x5c then Backslash else Other b

-- a byte in front of those behind it, where the test passes
abbrev pub byte_and : Bool → ℕ → Option (List ℕ) → Option (List ℕ)
byte_and test b rest = if test then option_map (λ bs. b ∷ bs) rest else None

-- the bytes that symbols write: a printed byte writes itself, \\ a backslash, and \xHH the byte of these hexadecimal digits
abbrev pub written : List Symbol → Option (List ℕ)
written [] = Some []
written (Other b ∷ rest) = byte_and (is_printed b) b (written rest)
written (Backslash ∷ Backslash ∷ rest) = byte_and true 0x5c (written rest)
written (Backslash ∷ Other x ∷ Other high ∷ Other low ∷ rest) =
    byte_and ((x == 0x78) && is_hex_digit high && is_hex_digit low) (digit_value high * 16 + digit_value low) (written rest)
written (Backslash ∷ rest) = None

-- TEXT: the bytes that its symbols write
unfoldable pub text : List ℕ → Option (List ℕ)
text bytes = written (map symbol bytes)

-- 0 to 9
abbrev pub is_decimal : ℕ → Bool
is_decimal b = nat_le 48 b && nat_le b 57

-- the number that decimal digits write, of whatever length
abbrev pub digits_value : List ℕ → ℕ
digits_value digits = fold (λ n d. 10 * n + (d - 48)) 0 digits

-- digits alone, at least one
abbrev pub is_number : List ℕ → Bool
is_number digits = nat_le 1 (length digits) && list_all is_decimal digits

-- the number, where it is at most the limit
unfoldable pub number_up_to : ℕ → List ℕ → Option ℕ
number_up_to limit digits = if is_number digits && nat_le (digits_value digits) limit then Some (digits_value digits) else None

-- 1 to this many digits with a value in a range
unfoldable pub number_in : ℕ → ℕ → ℕ → List ℕ → Option ℕ
number_in most least greatest bytes = do
  n ← number_up_to greatest bytes
  where_it (nat_le (length bytes) most && nat_le least n) n

-- the greatest NUM
abbrev pub max_number : ℕ
max_number = 2 ^ 63 - 1

-- NUM: 1 to 19 digits, below 2^63; and at least so much
abbrev pub number_from : ℕ → List ℕ → Option ℕ
number_from least = number_in 19 least max_number

-- NUM: at most so much
abbrev pub number_to : ℕ → List ℕ → Option ℕ
number_to = number_in 19 0

-- INT: a number of 64 signed bits, 1 to 19 digits, with a minus sign in front of them where it is negative
unfoldable pub integer : List ℕ → Option ℤ
integer [] = None
integer (b ∷ bs) =
    if b == 0x2d then option_map (λ n. neg_ℤ (pos n)) (number_to (2 ^ 63) bs)
    else option_map pos (number_to max_number (b ∷ bs))

-- the greatest number in a range of sequences
abbrev pub max_sequence : ℕ
max_sequence = 2 ^ 32 - 1

-- a range of sequences: two numbers, with a dash between them
unfoldable pub range : List ℕ → Option SeqRange
range bytes = do
  first ← number_to max_sequence (cut_at 0x2d bytes).before
  behind ← (cut_at 0x2d bytes).after
  last ← number_to max_sequence behind
  Some (record { first = first; last = last })

-- all of them, where each has a reading
abbrev pub each : {A B : Type 0} → (A → Option B) → List A → Option (List B)
each read [] = Some []
each read (x ∷ xs) = do
  y ← read x
  ys ← each read xs
  Some (y ∷ ys)

-- SEQS: ranges, with commas between them
unfoldable pub ranges : List ℕ → Option (List SeqRange)
ranges bytes = each range (pieces (λ b. b == 0x2c) bytes)

-- an id behind another beginning than urn:uuid: in lower case
abbrev pub is_other_urn : List ℕ → Bool
is_other_urn bytes = (length bytes == 45) && not (bytes_eq (take 9 bytes) (codes "urn:uuid:"))

-- UUID: 32 hexadecimal digits of either case; or these with hyphens between them, alone, in braces, or behind urn:uuid:
unfoldable pub id : List ℕ → Option (List ℕ)
id bytes = if is_other_urn bytes then None else parsed bytes

-- 1 to 9 digits behind a point, as nanoseconds
unfoldable pub nanos : List ℕ → Option ℕ
nanos digits =
    if nat_le 1 (length digits) && nat_le (length digits) 9 then number_up_to 999999999 (digits ++ replicate (9 - length digits) 48)
    else None

-- the nanoseconds, or none
abbrev pub fraction : Option (List ℕ) → Option ℕ
fraction None = Some 0
fraction (Some digits) = nanos digits

-- the last second that a wall time holds whole
abbrev pub max_seconds : ℕ
max_seconds = 9223372036

-- seconds, and a point with a fraction where it is not none: nanoseconds of wall time
unfoldable pub wall : List ℕ → Option ℕ
wall bytes = do
  seconds ← number_up_to max_seconds (cut_at 0x2e bytes).before
  rest ← fraction (cut_at 0x2e bytes).after
  where_it (nat_le (seconds * 1000000000 + rest) max_wall) (seconds * 1000000000 + rest)

-- the counter, or 0
abbrev pub counter : Option (List ℕ) → Option ℕ
counter None = Some 0
counter (Some digits) = number_up_to max_logical digits

-- TIME: a wall time, and a comma with a logical counter where it is not 0
unfoldable pub time : List ℕ → Option Timestamp
time bytes = do
  w ← wall (cut_at 0x2c bytes).before
  c ← counter (cut_at 0x2c bytes).after
  Some (record { wall = w; logical = c })
