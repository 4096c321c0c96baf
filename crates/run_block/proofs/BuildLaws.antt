-- What may be built is a run, and its bytes are those of its parts.
use Rattle.std.proofs.Common.{◌≡◌, ℕ, ◌-◌, ◌^◌, ◌<◌, List, ◌++◌, length, sym, ap, ◌∙◌, arith}
use Rattle.std.specs.Prelude.{All, not}
use Rattle.std.specs.List.{flat_map}
use Rattle.std.specs.Int.{w64, to_be_bytes}
use Rattle.std.proofs.lemmas.Bool.{and_from, le-leb}
use Rattle.std.proofs.lemmas.List.{length-map}
use Rattle.std.proofs.lemmas.List.Elements.{All-map, All-weaker}
use Rattle.mvcc_key.specs.Points.{Point, IsRising}
use Rattle.mvcc_key.specs.declared.batch.RangeOp.{RangeOp as Operation}
use Rattle.mvcc_key.specs.Batches.{IsStorableRange, IsStoredPoint}
use Rattle.run_block.specs.RunFormat.{magic, point_bytes, range_bytes, run_bytes}
use Rattle.run_block.specs.Runs.{IsStoredRange, IsRun, IsRunOf}
use Rattle.mvcc_key.specs.views.SeenRange.{range_op_of, range_ops_of}
use Rattle.run_block.specs.views.Writing.{head_bytes}

stored_range : (op : Operation) → IsStorableRange op → IsStoredRange (range_op_of op)
stored_range op h =
    let wall = op.ts.wall_range in
    let logical = op.ts.logical_range in
    record {
      start = h.start;
      end = h.end;
      form = and_from _ _ (and_from _ _ h.below (ap not h.some)) (and_from _ _ (le-leb op.ts.wall (2 ^ 63 - 1) (omega arith)) (le-leb op.ts.logical (2 ^ 31 - 1) (omega arith)));
      value = h.value;
    }

-- points and range operations that may be stored are a run
run_of_parts : (ps : List Point) (ranges : List Operation) → All IsStoredPoint ps → IsRising ps → All IsStorableRange ranges → length ps < 2 ^ 64 → length ranges < 2 ^ 64
    → IsRun (record { points = ps; ranges = range_ops_of ranges })
run_of_parts ps ranges stored rising storable few_points few_ranges = record {
  points = stored;
  rising = rising;
  ranges = All-map IsStoredRange range_op_of ranges (All-weaker IsStorableRange (λ op. IsStoredRange (range_op_of op)) stored_range ranges storable);
  point_count = few_points;
  range_count = (let same = length-map ranges range_op_of in omega arith);
}

-- the head, the points and the range operations are the bytes of the run
run_bytes-parts : (ps : List Point) (ranges : List Operation) (count : ℕ) → count ≡ length ps
    → ((head_bytes count (length ranges) ++ flat_map point_bytes ps) ++ flat_map range_bytes (range_ops_of ranges)) ≡ run_bytes (record { points = ps; ranges = range_ops_of ranges })
unfolding run_bytes
run_bytes-parts ps ranges count counts =
    let operations = sym (length-map ranges range_op_of) in
    λ i. ((magic ++ to_be_bytes w64 (counts i) ++ to_be_bytes w64 (operations i)) ++ flat_map point_bytes ps) ++ flat_map range_bytes (range_ops_of ranges)

-- range operations put behind a head and points make the bytes of the run
pub run_of-with : (bytes out : List ℕ) (ps : List Point) (ranges : List Operation) (count : ℕ) → bytes ≡ head_bytes count (length ranges) ++ flat_map point_bytes ps → count ≡ length ps
    → out ≡ bytes ++ flat_map range_bytes (range_ops_of ranges) → All IsStoredPoint ps → IsRising ps → All IsStorableRange ranges → count < 2 ^ 64 → length ranges < 2 ^ 64
    → IsRunOf out (record { points = ps; ranges = range_ops_of ranges })
run_of-with bytes out ps ranges count items counts is stored rising storable few_points few_ranges =
    let few : length ps < 2 ^ 64 = omega arith in
    record {
      spelled = is ∙ ap (λ (v : List ℕ). v ++ flat_map range_bytes (range_ops_of ranges)) items ∙ run_bytes-parts ps ranges count counts;
      run = run_of_parts ps ranges stored rising storable few few_ranges;
    }
