-- A whole reading by its parts.
use Rattle.std.proofs.Common.{◌≡◌, ℕ, Bool, true, false, ltb, List, length, refl, ap, subst, ◌∙◌}
use Rattle.std.specs.Prelude.{Result, Ok, Err, None}
use Rattle.mvcc_key.specs.Steps.{◌>>=◌, unless_fault}
use Rattle.mvcc_key.specs.FileKind.{FileKind}
use Rattle.mvcc_key.specs.Points.{Point}
use Rattle.mvcc_key.proofs.ByteLaws.{step, unless_passes}
use Rattle.mvcc_key.specs.RangeOperations.{RangeOp}
use Rattle.run_block.specs.RunFormat.{RunFault, Placed, Rest, fault_at, points_at, ranges_at, head_at, PlacedRun, read_run, run_from, run_of}
use Rattle.run_block.specs.views.Reading.{rest_at, rest_of, ArePointsAt, AreRangesAt}
use Rattle.run_block.specs.views.Seen.{fault_of, IsFaultOf}
use Rattle.run_block.specs.declared.fault.ParseFault.{ParseFault}
use Rattle.run_block.specs.declared.fault.ParseFault.TheVariants as parsing
use Rattle.run_block.specs.declared.reader.Reader.{Reader}

-- all bytes
abbrev all_of : List ℕ → Rest
all_of bytes = record { place = 0; bytes = bytes }

-- a reader before the first byte has all bytes left
pub rest_of-first : (bytes : List ℕ) (r : Reader) → r.bytes.now ≡ bytes → r.place ≡ 0 → rest_of r ≡ record { place = 0; bytes = bytes }
rest_of-first bytes r same first = λ i. rest_at (same i) (first i)

fault_after : {A B : Type 0} (r : Result A RunFault) (f : A → Result B RunFault) (e : RunFault) → r ≡ Err e → (r >>= f) ≡ Err e
fault_after (Ok x) f e h = absurd cc
fault_after (Err d) f e h = cc

-- the last step: nothing is left
abbrev ended : List (Placed Point) → List (Placed RangeOp) × Rest → Result PlacedRun RunFault
ended ps rs = unless_fault (ltb 0 (length (rs.1).bytes)) (fault_at FileKind.Trailing (rs.1).place) (record { points = ps; ranges = rs.0 })

-- what comes behind the points, and behind the counts
abbrev behind_points : ℕ → List (Placed Point) × Rest → Result PlacedRun RunFault
behind_points ranges ps = ranges_at ranges ps.1 >>= λ rs. ended ps.0 rs

abbrev behind_head : (ℕ × ℕ) × Rest → Result PlacedRun RunFault
behind_head counts = points_at (counts.0).0 None counts.1 >>= λ ps. behind_points (counts.0).1 ps

read_run-is : (bytes : List ℕ) → read_run bytes ≡ (head_at (all_of bytes) >>= λ counts. behind_head counts)
unfolding read_run
read_run-is bytes = refl

run_from_head : (bytes : List ℕ) (counts : (ℕ × ℕ) × Rest) (read : Result PlacedRun RunFault) → head_at (all_of bytes) ≡ Ok counts → behind_head counts ≡ read → run_of bytes ≡ run_from read
run_from_head bytes counts read head behind = ap run_from (read_run-is bytes ∙ step (head_at (all_of bytes)) (λ (x : (ℕ × ℕ) × Rest). behind_head x) counts read head behind)

-- the head cannot be read
pub fault_of-head : (bytes : List ℕ) (first : Rest) (fault : RunFault) → first ≡ record { place = 0; bytes = bytes } → head_at first ≡ Err fault → run_of bytes ≡ Err fault
fault_of-head bytes first fault all head =
    ap run_from (read_run-is bytes ∙ fault_after (head_at (all_of bytes)) (λ (x : (ℕ × ℕ) × Rest). behind_head x) fault (subst (λ (r : Rest). head_at r ≡ Err fault) all head))

-- the head is read
pub record IsHead (bytes : List ℕ) (points ranges : ℕ) (rest : Rest) : Type 0 where
  head : head_at (all_of bytes) ≡ Ok ((points, ranges), rest)

-- the counts that are read
pub IsHead-read : (bytes : List ℕ) (first rest : Rest) (points ranges : ℕ) → first ≡ record { place = 0; bytes = bytes } → head_at first ≡ Ok ((points, ranges), rest) → IsHead bytes points ranges rest
IsHead-read bytes first rest points ranges all head = record { head = subst (λ (r : Rest). head_at r ≡ Ok ((points, ranges), rest)) all head }

-- a point cannot be read
pub fault_of-points : (bytes : List ℕ) (points ranges : ℕ) (rest : Rest) (fault : RunFault) → IsHead bytes points ranges rest → points_at points None rest ≡ Err fault → run_of bytes ≡ Err fault
fault_of-points bytes points ranges rest fault h e =
    run_from_head bytes ((points, ranges), rest) (Err fault) h.head (fault_after (points_at points None rest) (λ (ps : List (Placed Point) × Rest). behind_points ranges ps) fault e)

-- a range operation cannot be read
pub fault_of-ranges : (bytes : List ℕ) (points ranges : ℕ) (rest behind : Rest) (ps : List Point) (fault : RunFault)
    → IsHead bytes points ranges rest → ArePointsAt points rest behind ps → ranges_at ranges behind ≡ Err fault → run_of bytes ≡ Err fault
fault_of-ranges bytes points ranges rest behind ps fault h p e =
    run_from_head bytes ((points, ranges), rest) (Err fault) h.head
    (step (points_at points None rest) (λ (ps : List (Placed Point) × Rest). behind_points ranges ps) (p.placed, behind) (Err fault) p.reading
    (fault_after (ranges_at ranges behind) (λ (rs : List (Placed RangeOp) × Rest). ended p.placed rs) fault e))

-- bytes are left
pub fault_of-end : (bytes : List ℕ) (points ranges : ℕ) (rest behind last : Rest) (ps : List Point) (rs : List RangeOp)
    → IsHead bytes points ranges rest → ArePointsAt points rest behind ps → AreRangesAt ranges behind last rs → ltb 0 (length last.bytes) ≡ true
    → run_of bytes ≡ Err (fault_at FileKind.Trailing last.place)
fault_of-end bytes points ranges rest behind last ps rs h p r e =
    run_from_head bytes ((points, ranges), rest) (Err (fault_at FileKind.Trailing last.place)) h.head
    (step (points_at points None rest) (λ (ps : List (Placed Point) × Rest). behind_points ranges ps) (p.placed, behind) (Err (fault_at FileKind.Trailing last.place)) p.reading
    (step (ranges_at ranges behind) (λ (rs : List (Placed RangeOp) × Rest). ended p.placed rs) (r.placed, last) (Err (fault_at FileKind.Trailing last.place)) r.reading
    (ap (λ (b : Bool). unless_fault b (fault_at FileKind.Trailing last.place) (record { points = p.placed; ranges = r.placed })) e)))

-- all is read
pub run_of-whole : (bytes : List ℕ) (points ranges : ℕ) (rest behind last : Rest) (ps : List Point) (rs : List RangeOp)
    → IsHead bytes points ranges rest → ArePointsAt points rest behind ps → AreRangesAt ranges behind last rs → ltb 0 (length last.bytes) ≡ false
    → run_of bytes ≡ Ok (record { points = ps; ranges = rs })
run_of-whole bytes points ranges rest behind last ps rs h p r e =
    run_from_head bytes ((points, ranges), rest) (Ok (record { points = p.placed; ranges = r.placed })) h.head
    (step (points_at points None rest) (λ (ps : List (Placed Point) × Rest). behind_points ranges ps) (p.placed, behind) (Ok (record { points = p.placed; ranges = r.placed })) p.reading
    (step (ranges_at ranges behind) (λ (rs : List (Placed RangeOp) × Rest). ended p.placed rs) (r.placed, last) (Ok (record { points = p.placed; ranges = r.placed })) r.reading
    (unless_passes (ltb 0 (length last.bytes)) (fault_at FileKind.Trailing last.place) (record { points = p.placed; ranges = r.placed }) e)))
    ∙ (λ i. Ok (record { points = p.items i; ranges = r.items i }))

-- the fault of a part is that of the whole
pub IsFaultOf-whole : {A B : Type 0} (e : ParseFault) (part : Result A RunFault) (whole : Result B RunFault) → ((f : RunFault) → part ≡ Err f → whole ≡ Err f) → IsFaultOf e part → IsFaultOf e whole
IsFaultOf-whole parsing.OutOfMemory part whole f h = tt
IsFaultOf-whole (parsing.Fault fault) part whole f h = f (fault_of fault) h
