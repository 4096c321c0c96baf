-- How contracts see the values of the code.
use Rattle.std.specs.Prelude.{ℤ, Option, Some, None}
use Rattle.mvcc_key.specs.History as history
use Rattle.mvcc_key.specs.views.Seen.{time_of}
use Rattle.mvcc_value.specs.Encoding.{Value}
use Rattle.mvcc_value.specs.Found as found
use Rattle.mvcc_value.specs.declared.value.PlainValue.{PlainValue}
use Rattle.mvcc_value.specs.declared.value.PlainValue.TheVariants as plain
use Rattle.mvcc_value.specs.declared.value.Body.{Body}
use Rattle.mvcc_value.specs.declared.value.Body.TheVariants as body
use Rattle.mvcc_value.specs.declared.value.ValueRef.{ValueRef}
use Rattle.mvcc_value.specs.declared.value.OwnedValue.{OwnedValue}
use Rattle.mvcc_value.specs.declared.value.OwnedValue.TheVariants as owned
use Rattle.mvcc_value.specs.declared.value.Found.{Found}

-- a value that was handed in
abbrev pub plain_body : PlainValue → history.Body
plain_body (plain.Bytes bytes) = history.Bytes bytes.now
plain_body (plain.Int number) = history.Int number

-- a value or a deletion
abbrev pub seen_body : Body → history.Body
seen_body body.Deletion = history.Deletion
seen_body (body.Bytes bytes) = history.Bytes bytes.now
seen_body (body.Int number) = history.Int number

-- a value with its local timestamp
abbrev pub seen_value : ValueRef → Value
seen_value v = record { local = time_of v.local; body = seen_body v.body }

-- a value that is kept
abbrev pub owned_body : OwnedValue → history.Body
owned_body (owned.Bytes bytes) = history.Bytes bytes
owned_body (owned.Int number) = history.Int number

-- a key with its value
abbrev pub found_of : Found → found.Found
found_of f = record { key = f.key; body = owned_body f.value; ts = time_of f.ts }

-- the number that a value is
abbrev pub int_of : history.Body → Option ℤ
int_of history.Deletion = None
int_of (history.Bytes bytes) = None
int_of (history.Int number) = Some number
