-- How contracts see the reading of an encoded key.
use Rattle.std.specs.Prelude.{Result, Ok, Err}
use Rattle.mvcc_key.specs.Order.{Name}
use Rattle.mvcc_key.specs.KeyFormat as format
use Rattle.mvcc_key.specs.views.Seen.{time_of}
use Rattle.mvcc_key.specs.declared.encoded.KeyRef.{KeyRef}
use Rattle.mvcc_key.specs.declared.encoded.KeyFault.{KeyFault}
use Rattle.mvcc_key.specs.declared.encoded.KeyFault.TheVariants as code

-- a key with a timestamp, as the name of a stored pair
abbrev pub seen_name : KeyRef → Name
seen_name k = record { key = k.key.now; ts = time_of k.ts }

-- why bytes are no name
abbrev pub seen_fault : KeyFault → format.KeyFault
seen_fault code.Empty = format.Empty
seen_fault code.BadSuffix = format.BadSuffix
seen_fault code.Short = format.Short
seen_fault code.NoSentinel = format.NoSentinel
seen_fault code.OutOfRange = format.OutOfRange
seen_fault code.ZeroLogical = format.ZeroLogical
seen_fault code.ZeroTime = format.ZeroTime

-- the name, or why there is none
abbrev pub reading_of : Result KeyRef KeyFault → Result Name format.KeyFault
reading_of (Ok k) = Ok (seen_name k)
reading_of (Err fault) = Err (seen_fault fault)
