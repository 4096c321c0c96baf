use Rattle.std.proofs.Common.{◌≡◌, ℕ, List, refl}
use Rattle.std.specs.Prelude.{Result, Ok, Err, OnOk}
use Rattle.mvcc_key.specs.KeyFormat.{name_of}
use Rattle.mvcc_key.specs.Encoded.{IsBytes, IsName}
use Rattle.mvcc_key.specs.views.SeenKey.{reading_of}
use Rattle.mvcc_key.specs.declared.encoded.KeyRef.{KeyRef}
use Rattle.mvcc_key.specs.declared.encoded.KeyFault.{KeyFault}
use Rattle.mvcc_key.proofs.NamedLaws.{named-read}
use Rattle.mvcc_key.proofs.encoded.decode_key.Goals as goal

-- bytes whose reading is a name are its encoding
named : (bytes : List ℕ) (r : Result KeyRef KeyFault) → IsBytes bytes → reading_of r ≡ name_of bytes → OnOk r (IsName bytes)
named bytes (Ok k) fits is = named-read bytes fits (rw (← is) refl)
named bytes (Err e) fits is = tt

pub returns-clause-name : goal.returns-clause-name
returns-clause-name c = named c.args.bytes.now c.decode.result (λ i. (c.type_inv.bytes i).fits) c.decode.ensures
