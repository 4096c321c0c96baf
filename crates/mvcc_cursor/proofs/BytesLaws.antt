-- The encoded name that is sought.
use Rattle.std.proofs.Common.{◌≡◌, ℕ, ◌+◌, true, false, List, [], ◌∷◌, ◌++◌, length, take, refl, sym, ap, subst, ◌∙◌, append_assoc, length-append}
use Rattle.std.specs.Prelude.{Ok, IsOk}
use Rattle.mvcc_key.specs.Order.{Timestamp, is_no_time, is_in_range, Key, Name}
use Rattle.mvcc_key.specs.KeyFormat.{encoded_name, encoded_time, name_of}
use Rattle.mvcc_key.specs.Encoded.{name_in, known_name, IsName}
use Rattle.mvcc_key.specs.Points.{Point, count_below}
use Rattle.mvcc_key.specs.views.Seen.{time_of}
use Rattle.mvcc_key.specs.declared.timestamp.Timestamp.{Timestamp as Declared}
use Rattle.mvcc_key.proofs.KeyFormatLaws.{name_of-encoded_name}
use Rattle.mvcc_key.proofs.NamedLaws.{named-encoded}
use Rattle.mvcc_key.proofs.ClockLaws.{range_from}
use Rattle.mvcc_cursor.specs.KeyPoints.{record_name}
use Rattle.mvcc_cursor.specs.views.Under.{key_under, version_under, IsRecordName}

pub length-record : (key : Key) → length (encoded_name (record_name key)) ≡ length key + 1
unfolding encoded_name
length-record key = length-append key (0 ∷ [])

-- the bytes of a timestamp behind the name of the record make the name of a version
pub with-time : (key : Key) (ts : Timestamp) → is_no_time ts ≡ false → encoded_name (record_name key) ++ encoded_time ts ≡ encoded_name (record { key = key; ts = ts })
unfolding encoded_name
with-time key ts some = rw some (append_assoc key (0 ∷ []) (encoded_time ts))

-- one byte 0 more makes the name of the record of the next key
pub with-zero : (key : Key) → encoded_name (record_name key) ++ 0 ∷ [] ≡ encoded_name (record_name (key ++ 0 ∷ []))
unfolding encoded_name
with-zero key = refl

pub time-in-range : (t : Declared) → is_in_range (time_of t) ≡ true
time-in-range t = range_from t.wall t.logical t.wall_range t.logical_range

-- what is sought is read as the name that it is
module _ (sought : List ℕ) (named : sought ≡ encoded_name (record_name (key_under sought))) where
  pub read-record : name_of sought ≡ Ok (record_name (key_under sought))
  read-record = ap name_of named ∙ name_of-encoded_name (record_name (key_under sought)) refl

  pub is-name : IsOk (name_of sought)
  is-name = rw read-record refl

  pub name-is : name_in sought ≡ record_name (key_under sought)
  name-is = ap known_name read-record

  pub sought-length : length sought ≡ length (key_under sought) + 1
  sought-length = ap length named ∙ length-record (key_under sought)

  pub read-version : (ts : Declared) → is_no_time (time_of ts) ≡ false → name_of (sought ++ encoded_time (time_of ts)) ≡ Ok (version_under sought (time_of ts))
  read-version ts some =
      ap name_of (ap (λ l. l ++ encoded_time (time_of ts)) named ∙ with-time (key_under sought) (time_of ts) some)
      ∙ name_of-encoded_name (version_under sought (time_of ts)) (time-in-range ts)

  pub zero-named : sought ++ 0 ∷ [] ≡ encoded_name (record_name (key_under sought ++ 0 ∷ []))
  zero-named = ap (λ l. l ++ 0 ∷ []) named ∙ with-zero (key_under sought)

-- a name of a record is that of its key
pub record-read : (key : Key) → name_of (encoded_name (record_name key)) ≡ Ok (record_name key)
record-read key = name_of-encoded_name (record_name key) refl

pub key-under : (key : Key) (sought : List ℕ) → sought ≡ encoded_name (record_name key) → key_under sought ≡ key
key-under key sought is = ap (λ l. (name_in l).key) is ∙ ap (λ r. (known_name r).key) (record-read key)

pub still-named : (key : Key) (sought : List ℕ) → sought ≡ encoded_name (record_name key) → sought ≡ encoded_name (record_name (key_under sought))
still-named key sought is = is ∙ ap (λ k. encoded_name (record_name k)) (sym (key-under key sought is))

-- bytes that are read as a name have it
pub name-read : (bytes : List ℕ) (n : Name) → name_of bytes ≡ Ok n → name_in bytes ≡ n
name-read bytes n read = ap known_name read

pub is-read : (bytes : List ℕ) (n : Name) → name_of bytes ≡ Ok n → IsOk (name_of bytes)
is-read bytes n read = rw read refl

take-front : (xs ys : List ℕ) (n : ℕ) → n ≡ length xs → take n (xs ++ ys) ≡ xs
take-front xs ys n is = ap (λ m. take m (xs ++ ys)) is ∙ front xs
  where
    front : (xs : List ℕ) → take (length xs) (xs ++ ys) ≡ xs
    front [] = refl
    front (x ∷ xs) = ap (λ (l : List ℕ). x ∷ l) (front xs)

-- a timestamp put behind the name and taken away again
module _ (sought bytes back : List ℕ) (named : sought ≡ encoded_name (record_name (key_under sought))) (ts : Declared) (some : is_no_time (time_of ts) ≡ false) (longer : bytes ≡ sought ++ encoded_time (time_of ts)) where
  pub reads : (slice : List ℕ) → slice ≡ bytes → name_of slice ≡ Ok (version_under sought (time_of ts))
  reads slice is = ap name_of (is ∙ longer) ∙ read-version sought named ts some

  pub taken-back : (n : ℕ) → n ≡ length sought → back ≡ take n bytes → back ≡ sought
  taken-back n len is = is ∙ ap (take n) longer ∙ take-front sought (encoded_time (time_of ts)) n len

  -- the place that a seek finds
  pub sought-place : (slice : List ℕ) → slice ≡ bytes → (mine yours : List Point) (place : ℕ) → mine ≡ yours → place ≡ count_below (name_in slice) mine + 1 → back ≡ sought
      → place ≡ count_below (version_under back (time_of ts)) yours + 1
  sought-place slice is mine yours place same at again =
      at ∙ ap (λ n. count_below n mine + 1) (ap known_name (reads slice is) ∙ ap (λ l. version_under l (time_of ts)) (sym again)) ∙ ap (λ l. count_below (version_under back (time_of ts)) l + 1) same

-- what is sought is a name
pub record-IsName : (sought slice : List ℕ) → IsRecordName sought → slice ≡ sought → IsName slice
record-IsName sought slice named is = subst IsName (sym (is ∙ named)) (named-encoded (record_name (key_under sought)) refl)

-- and so is the one with a timestamp
pub version-IsName : (sought slice : List ℕ) → IsRecordName sought → (ts : Declared) → is_no_time (time_of ts) ≡ false → slice ≡ sought ++ encoded_time (time_of ts) → IsName slice
version-IsName sought slice named ts some is =
    subst IsName (sym (is ∙ ap (λ l. l ++ encoded_time (time_of ts)) named ∙ with-time (key_under sought) (time_of ts) some)) (named-encoded (version_under sought (time_of ts)) (time-in-range ts))

-- what is read of the name of a key's record
pub record-name-in : (key : Key) (sought slice : List ℕ) → sought ≡ encoded_name (record_name key) → slice ≡ sought → name_in slice ≡ record_name key
record-name-in key sought slice named is = ap name_in (is ∙ named) ∙ ap known_name (record-read key)
