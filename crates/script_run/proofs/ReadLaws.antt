-- A script that grows by what its source gives.
use Rattle.std.specs.Prelude.{◌≡◌, ℕ, ◌+◌, ◌≤◌, List, [], ◌++◌, length, take, Option}
use Rattle.std.specs.Io.KnownBytes.{Consumes, Keeps, IsAtEnd}
use Rattle.std.proofs.KnownBytes.{Consumes-nil, Consumes-trans, Consumes-kept}
use Rattle.std.proofs.Common.{sym, ap, ◌∙◌, subst, arith, append-nil, length-append, length-take-le}
use Rattle.script_run.specs.Promise.{ReadsScript, TakesWithin, script_max, read_size}

-- nothing was given yet
pub nothing_given : (left : Option (List ℕ)) (script : List ℕ) → script ≡ [] → Consumes left left script
nothing_given left script is = rw is (Consumes-nil left)

-- a read that fails gives nothing
pub read_failed : (a b c : Option (List ℕ)) (script : List ℕ) → Consumes a b script → length script ≤ script_max + read_size → Keeps b c → TakesWithin a c
read_failed a b c script given within kept = record { given = script; consumed = Consumes-kept a b c script given kept; within = within }

-- a read that gives nothing is the end
pub read_ended : (a b c : Option (List ℕ)) (script into : List ℕ) (n : ℕ) → Consumes a b script → length script ≤ script_max + read_size → n ≡ 0
    → Consumes b c (take n into) → IsAtEnd c → ReadsScript a c script
read_ended a b c script into n given within none more end =
    let whole : Consumes a c (script ++ take n into) = Consumes-trans a b c script (take n into) given more in
    let same : script ++ take n into ≡ script = rw none (append-nil script) in
    record { consumed = subst (Consumes a c) same whole; ended = λ low. end; within = within }

-- one piece more
pub read_more : (a b c : Option (List ℕ)) (script script' into piece : List ℕ) (n : ℕ) → Consumes a b script → Consumes b c (take n into) → piece ≡ take n into → script' ≡ script ++ piece
    → Consumes a c script'
read_more a b c script script' into piece n given more is grown =
    subst (Consumes a c) (ap (λ l. script ++ l) (sym is) ∙ sym grown) (Consumes-trans a b c script (take n into) given more)

-- its length
pub length_more : (script script' into piece : List ℕ) (n : ℕ) → length script ≤ script_max → n ≤ length into → length into ≡ read_size → piece ≡ take n into → script' ≡ script ++ piece
    → length script' ≤ script_max + read_size
length_more script script' into piece n low within room is grown =
    let e : length script' ≡ length script + length piece = ap length grown ∙ length-append script piece in
    let f : length piece ≡ n = ap length is ∙ length-take-le n into within in
    omega (arith, e, f)

-- a piece that finds no memory was given all the same
pub read_lost : (a b c : Option (List ℕ)) (script into : List ℕ) (n : ℕ) → Consumes a b script → Consumes b c (take n into) → length script ≤ script_max → n ≤ length into → length into ≡ read_size
    → TakesWithin a c
read_lost a b c script into n given more low within room = record {
  given = script ++ take n into;
  consumed = Consumes-trans a b c script (take n into) given more;
  within = let e = length-append script (take n into) in let f = length-take-le n into within in omega (arith, e, f);
}
