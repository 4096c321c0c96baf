use Rattle.std.proofs.Common.{◌≡◌, ℕ, ◌≤◌, Bool, List, [], ◌∷◌, ◌++◌, length, map, take, ap, refl, ◌∙◌, arith}
use Rattle.std.specs.Prelude.{not, filter, ◌==◌}
use Rattle.std.proofs.lemmas.List.{take_all}
use Rattle.std.proofs.lemmas.Bool.{ne_eqb}
use Rattle.mvcc_key.specs.Lists.{is_empty}
use Rattle.mvcc_key.specs.Points.{Point}
use Rattle.mvcc_key.specs.views.SeenRange.{range_ops_of}
use Rattle.mvcc_key.specs.declared.batch.RangeOp.{RangeOp}
use Rattle.mem_table.specs.Table.{Table}
use Rattle.run_block.specs.RunFormat.{Run}
use Rattle.lsm_store.specs.Parts as parts
use Rattle.lsm_store.specs.Parts.{layout}
use Rattle.lsm_store.specs.Shown.{parts_of}
use Rattle.lsm_store.specs.views.Seen.{seen_shape, run_of_table}
use Rattle.lsm_store.specs.declared.shape.PartShape.{PartShape}
use Rattle.lsm_store.proofs.LayoutLaws.{is_clear, run_shape, shapes-parts}
use Rattle.lsm_store.proofs.store.Store.layout.Goals as goal

-- the shape of the table is the first
first-shape : (pushed made : List PartShape) (shape : PartShape) (seen : parts.PartShape) → pushed ≡ made ++ shape ∷ [] → made ≡ [] → seen_shape shape ≡ seen
    → map seen_shape pushed ≡ seen ∷ []
first-shape pushed made shape seen is none shows =
    ap (map seen_shape) (is ∙ ap (λ (ss : List PartShape). ss ++ shape ∷ []) none) ∙ ap (λ (s : parts.PartShape). s ∷ []) shows

-- none is counted where there is none
none-counted : (ops : List RangeOp) → (length ops == 0) ≡ is_empty (range_ops_of ops)
none-counted [] = refl
none-counted (op ∷ ops) = ne_eqb (length (op ∷ ops)) 0 (λ (e : length (op ∷ ops) ≡ 0). omega (arith, e))

-- the shape of a table
table-shape : (table : Table) (lent : List RangeOp) (points : List Point) (shape : PartShape) (len : ℕ) (none : Bool)
    → seen_shape shape ≡ record { keys = len; clears = length (filter is_clear points); ranges = not none } → len ≡ length table.points → points ≡ table.points
    → none ≡ (length lent == 0) → lent ≡ table.ranges → seen_shape shape ≡ run_shape (run_of_table table)
table-shape table lent points shape len none shows counted same is lent_is =
    shows
    ∙ (λ i. record { keys = counted i; clears = length (filter is_clear (same i)); ranges = not ((is ∙ ap (λ (ops : List RangeOp). length ops == 0) lent_is ∙ none-counted table.ranges) i) })

-- all runs were taken
all-runs : (items runs : List Run) (n : ℕ) → items ≡ runs → length items ≤ n → map run_shape (take n items) ≡ map run_shape runs
all-runs items runs n same le = ap (map run_shape) (take_all n items le ∙ same)

pub returns : goal.returns
returns c =
    let table = run_of_table c.self.inside.table in
    let runs = c.self.inside.runs.items in
    let first = first-shape c.push.new.self.items c.in_ok-shapes.shapes.items c.shape_of.result (run_shape table) c.in_ok-push.ensures.items c.in_ok-shapes.ensures.items
    (table-shape c.self.inside.table c.range_ops.result.now _ c.shape_of.result c.len-2.result c.is_empty-ranges.result c.shape_of.ensures c.len-2.ensures c.cursor.ensures.points c.is_empty-ranges.ensures c.range_ops.ensures.ops) in
    let others = all-runs c.deref-run-items.result.now runs c.loop-run.run-index c.deref-run-items.ensures.value c.loop-run-test.false in
    c.loop-run.invariant ∙ (λ i. first i ++ others i) ∙ shapes-parts (table ∷ runs) ∙ ap (λ (parts : List Run). layout (parts_of parts)) c.self.view_is
