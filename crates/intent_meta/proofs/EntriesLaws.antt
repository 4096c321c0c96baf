-- How reading entries one after another goes on.
use Rattle.std.proofs.Common.{◌≡◌, ℕ, suc, ◌+◌, ◌-◌, ◌<◌, ◌≤◌, List, ◌∷◌, Option, Some, Result, Ok, Err, refl, ap, ◌∙◌, arith}
use Rattle.mvcc_key.specs.Steps.{◌>>=◌}
use Rattle.mvcc_key.specs.History.{Entry}
use Rattle.intent_meta.specs.declared.fault.IntentFault.{IntentFault}
use Rattle.intent_meta.specs.Record.{entry_from, entries_from}
use Rattle.intent_meta.specs.Entries.{rest_of}

-- what is read behind an entry leaves the same
leaves : (e : Entry (List ℕ)) (r : Result (List (Entry (List ℕ)) × List ℕ) IntentFault) → rest_of (r >>= λ es. Ok (e ∷ es.0, es.1)) ≡ rest_of r
leaves e (Ok x) = refl
leaves e (Err fault) = refl

-- an entry that is read leaves the others
next : (n : ℕ) (before : Option ℕ) (limit : ℕ) (bytes : List ℕ) (e : Entry (List ℕ)) (rest : List ℕ) → entry_from before limit bytes ≡ Ok (e, rest)
    → rest_of (entries_from (suc n) before limit bytes) ≡ rest_of (entries_from n (Some e.sequence) limit rest)
next n before limit bytes e rest read =
    ap (λ (r : Result (Entry (List ℕ) × List ℕ) IntentFault). rest_of (r >>= λ x. entries_from n (Some (x.0).sequence) limit x.1 >>= λ es. Ok (x.0 ∷ es.0, es.1))) read
    ∙ leaves e (entries_from n (Some e.sequence) limit rest)

-- so many entries that are still to be read, of those from a place on
pub rest-next : (count place : ℕ) (before : Option ℕ) (limit : ℕ) (bytes : List ℕ) (e : Entry (List ℕ)) (rest : List ℕ) → place < count → entry_from before limit bytes ≡ Ok (e, rest)
    → rest_of (entries_from (count - place) before limit bytes) ≡ rest_of (entries_from (count - (place + 1)) (Some e.sequence) limit rest)
rest-next count place before limit bytes e rest lt read =
    let left : count - place ≡ suc (count - (place + 1)) = omega arith in
    ap (λ (n : ℕ). rest_of (entries_from n before limit bytes)) left ∙ next (count - (place + 1)) before limit bytes e rest read

-- an entry that has a fault has the fault of all
pub rest-fault : (count place : ℕ) (before : Option ℕ) (limit : ℕ) (bytes : List ℕ) (fault : IntentFault) → place < count → entry_from before limit bytes ≡ Err fault
    → rest_of (entries_from (count - place) before limit bytes) ≡ Err fault
rest-fault count place before limit bytes fault lt read =
    let left : count - place ≡ suc (count - (place + 1)) = omega arith in
    ap (λ (n : ℕ). rest_of (entries_from n before limit bytes)) left
    ∙ ap (λ (r : Result (Entry (List ℕ) × List ℕ) IntentFault). rest_of (r >>= λ x. entries_from (count - (place + 1)) (Some (x.0).sequence) limit x.1 >>= λ es. Ok (x.0 ∷ es.0, es.1))) read

-- where none is to be read all bytes are left
pub rest-end : (count place : ℕ) (before : Option ℕ) (limit : ℕ) (bytes : List ℕ) → count ≤ place
    → rest_of (entries_from (count - place) before limit bytes) ≡ Ok bytes
rest-end count place before limit bytes le =
    let none : count - place ≡ 0 = omega arith in
    ap (λ (n : ℕ). rest_of (entries_from n before limit bytes)) none

-- at the front all are still to be read
pub rest-front : (count : ℕ) (before : Option ℕ) (limit : ℕ) (bytes : List ℕ) → rest_of (entries_from count before limit bytes) ≡ rest_of (entries_from (count - 0) before limit bytes)
rest-front count before limit bytes =
    let all : count ≡ count - 0 = omega arith in
    ap (λ (n : ℕ). rest_of (entries_from n before limit bytes)) all
