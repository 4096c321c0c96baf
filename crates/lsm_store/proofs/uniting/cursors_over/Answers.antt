use Rattle.std.proofs.Common.{rules, ◌≡◌, ℕ, ◌+◌, ◌<◌, List, [], ◌∷◌, ◌++◌, length, map, take, get_or, All, subst, ap, sym, ◌∙◌}
use Rattle.std.proofs.lemmas.List.{map-append, map_more}
use Rattle.std.proofs.lemmas.List.Elements.{All-more}
use Rattle.mvcc_key.specs.Batches.{IsStoredPoint}
use Rattle.run_block.specs.RunFormat.{Run}
use Rattle.lsm_store.specs.views.Cursors.{points_at}
use Rattle.lsm_store.specs.declared.part.PartCursor.{PartCursor}
use Rattle.lsm_store.proofs.uniting.cursors_over.Goals as goal

-- one run and its cursor more
points-more : (cursors new : List PartCursor) (cursor : PartCursor) (runs : List Run) (i : ℕ) (run : Run) → i < length runs → run ≡ get_or runs i run
    → new ≡ cursors ++ cursor ∷ [] → points_at cursor ≡ run.points → map points_at cursors ≡ map (λ r. r.points) (take i runs)
    → map points_at new ≡ map (λ r. r.points) (take (i + 1) runs)
points-more cursors new cursor runs i run lt at is_new shows so_far =
    ap (map points_at) is_new ∙ map-append points_at cursors (cursor ∷ [])
    ∙ (λ j. so_far j ++ (shows ∙ ap (λ (r : Run). r.points) at) j ∷ [])
    ∙ sym (map_more (λ (r : Run). r.points) runs i run lt)

pub loop-run-preserved : goal.loop-run-preserved
loop-run-preserved c = record {
  points = points-more c.loop-run.cursors.items c.push.new.self.items _ c.args.runs.now c.loop-run.run-index c.run-item.result c.loop-run-test.true
      c.run-item.is c.in_ok-push.ensures.items c.cursor.ensures.points c.loop-run.invariant.points;
  places = search rules;
  stored = All-more (λ (r : Run). All IsStoredPoint r.points) c.args.runs.now c.loop-run.run-index c.run-item.result c.loop-run-test.true
      c.loop-run.invariant.stored (subst (λ (r : Run). All IsStoredPoint r.points) c.run-item.is c.cursor.ensures.stored);
}
