-- The oldest runs are united into one.
use Rattle.std.proofs.Common.{◌≡◌, ℕ, ◌+◌, ◌-◌, ◌<◌, ◌≤◌, true, false, List, [], ◌∷◌, length, drop, ap, sym, refl, ◌∙◌, arith}
use Rattle.mvcc_key.specs.Fragments.{Fragment}
use Rattle.range_key.specs.RangeOps.{fragments_after}
use Rattle.range_key.specs.views.Stages.{Stage, settled}
use Rattle.run_block.specs.RunFormat.{Run}
use Rattle.lsm_store.specs.Parts.{compacted}
use Rattle.lsm_store.specs.Shown.{shown, fragments_in, parts_of}
use Rattle.lsm_store.specs.views.Seen.{run_of_table}
use Rattle.lsm_store.proofs.CompactLaws.{united_run, with_united, shown-with_united, fragments-with_united, parts-compacted, parts-few, runs-emptied, runs-replaced}
use Rattle.lsm_store.proofs.store.Store.compact.Goals as goal

-- the united run
united : (runs older given : List Run) (first : ℕ) (run : Run) → run ≡ united_run older → older ≡ drop first given → given ≡ runs → run ≡ united_run (drop first runs)
united runs older given first run is is_older is_given = is ∙ ap united_run (is_older ∙ ap (drop first) is_given)

-- a run that is not empty has an entry
is_some : (run : Run) → ((run.points ≡ []) × (run.ranges ≡ []) → false ≡ true) → (run.points ≡ []) × (run.ranges ≡ []) → ⊥
is_some run empty nothing = let no : false ≡ true = empty nothing in absurd cc

module _ (keep : ℕ) (table : Run) (runs new old : List Run) (is : new ≡ with_united (keep - 1) runs) (view : table ∷ runs ≡ old) where
  -- the store shows the same
  same-shown : shown (table ∷ new) ≡ shown old
  same-shown = ap (λ (rs : List Run). shown (table ∷ rs)) is ∙ shown-with_united (keep - 1) table runs ∙ ap shown view

  -- and gives the same fragments
  same-fragments : fragments_in (table ∷ new) ≡ fragments_in old
  same-fragments =
      ap (λ (rs : List Run). fragments_in (table ∷ rs)) is ∙ ap (λ (fs : List Fragment). fragments_after fs table.ranges) (fragments-with_united (keep - 1) runs)
      ∙ ap fragments_in view

  -- its parts are compacted
  same-parts : keep < length runs → parts_of (table ∷ new) ≡ compacted keep (parts_of old)
  same-parts more =
      ap (λ (rs : List Run). parts_of (table ∷ rs)) is ∙ parts-compacted keep table runs more ∙ ap (λ (parts : List Run). compacted keep (parts_of parts)) view

-- what is kept beside the parts
same-stage : (keep : ℕ) (table : Run) (runs new : List Run) (stage : Stage) → stage ≡ settled (fragments_in (table ∷ runs)) → new ≡ with_united (keep - 1) runs
    → stage ≡ settled (fragments_in (table ∷ new))
same-stage keep table runs new stage settles is = settles ∙ ap settled (sym (same-fragments keep table runs new (table ∷ runs) is refl))

pub returns-then-len-keep-clause-parts : goal.returns-then-len-keep-clause-parts
returns-then-len-keep-clause-parts c =
    let runs = c.self.inside.runs.items in
    let few : length runs ≤ c.args.keep = omega (arith, c.len.ensures, c.if-len-keep.true) in
    ap parts_of (sym c.self.view_is) ∙ parts-few c.args.keep (run_of_table c.self.inside.table) runs few
    ∙ ap (λ (parts : List Run). compacted c.args.keep (parts_of parts)) c.self.view_is

pub invariant_of-self : goal.invariant_of-self
invariant_of-self c =
    let runs = c.self.inside.runs.items in
    let run' = united runs c.split_at.result.1.now c.deref.result.now (c.args.keep - 1) c.in_ok-run.run' c.in_ok-run.ensures c.split_at.ensures.back c.deref.ensures.value in
    let nothing = c.if-is_empty.ensures.0 refl in
    let new = runs-emptied runs c.truncate.new.self.items (c.args.keep - 1) c.in_ok-run.run' c.truncate.ensures.items run' nothing.0 nothing.1 in
    same-stage c.args.keep (run_of_table c.self.inside.table) runs c.truncate.new.self.items c.self.inside.fragments c.self.invariant new

pub returns-then-is_empty-clause-shown : goal.returns-then-is_empty-clause-shown
returns-then-is_empty-clause-shown c =
    let runs = c.self.inside.runs.items in
    let run' = united runs c.split_at.result.1.now c.deref.result.now (c.args.keep - 1) c.in_ok-run.run' c.in_ok-run.ensures c.split_at.ensures.back c.deref.ensures.value in
    let nothing = c.if-is_empty.ensures.0 refl in
    let new = runs-emptied runs c.truncate.new.self.items (c.args.keep - 1) c.in_ok-run.run' c.truncate.ensures.items run' nothing.0 nothing.1 in
    same-shown c.args.keep (run_of_table c.self.inside.table) runs c.truncate.new.self.items c.args.self.now new c.self.view_is

pub returns-then-is_empty-clause-fragments : goal.returns-then-is_empty-clause-fragments
returns-then-is_empty-clause-fragments c =
    let runs = c.self.inside.runs.items in
    let run' = united runs c.split_at.result.1.now c.deref.result.now (c.args.keep - 1) c.in_ok-run.run' c.in_ok-run.ensures c.split_at.ensures.back c.deref.ensures.value in
    let nothing = c.if-is_empty.ensures.0 refl in
    let new = runs-emptied runs c.truncate.new.self.items (c.args.keep - 1) c.in_ok-run.run' c.truncate.ensures.items run' nothing.0 nothing.1 in
    same-fragments c.args.keep (run_of_table c.self.inside.table) runs c.truncate.new.self.items c.args.self.now new c.self.view_is

pub returns-then-is_empty-clause-parts : goal.returns-then-is_empty-clause-parts
returns-then-is_empty-clause-parts c =
    let runs = c.self.inside.runs.items in
    let run' = united runs c.split_at.result.1.now c.deref.result.now (c.args.keep - 1) c.in_ok-run.run' c.in_ok-run.ensures c.split_at.ensures.back c.deref.ensures.value in
    let nothing = c.if-is_empty.ensures.0 refl in
    let new = runs-emptied runs c.truncate.new.self.items (c.args.keep - 1) c.in_ok-run.run' c.truncate.ensures.items run' nothing.0 nothing.1 in
    let more : c.args.keep < length runs = omega (arith, c.len.ensures, c.if-len-keep.false) in
    same-parts c.args.keep (run_of_table c.self.inside.table) runs c.truncate.new.self.items c.args.self.now new c.self.view_is more

pub invariant_of-self-else-is_empty : goal.invariant_of-self-else-is_empty
invariant_of-self-else-is_empty c =
    let runs = c.self.inside.runs.items in
    let items = c.truncate-else-is_empty.new.self.items in
    let run' = united runs c.split_at.result.1.now c.deref.result.now (c.args.keep - 1) c.in_ok-run.run' c.in_ok-run.ensures c.split_at.ensures.back c.deref.ensures.value in
    let kept : c.args.keep ≡ c.args.keep - 1 + 1 = omega (arith, c.requires) in
    let within : c.args.keep - 1 < length runs = omega (arith, c.len.ensures, c.if-len-keep.false, c.requires) in
    let new = runs-replaced runs items (c.args.keep - 1) c.args.keep c.in_ok-run.run' c.truncate-else-is_empty.ensures.items kept within run'
    (is_some c.in_ok-run.run' c.if-is_empty.ensures.1) in
    same-stage c.args.keep (run_of_table c.self.inside.table) runs items c.self.inside.fragments c.self.invariant new

pub returns-else-is_empty-clause-shown : goal.returns-else-is_empty-clause-shown
returns-else-is_empty-clause-shown c =
    let runs = c.self.inside.runs.items in
    let items = c.truncate-else-is_empty.new.self.items in
    let run' = united runs c.split_at.result.1.now c.deref.result.now (c.args.keep - 1) c.in_ok-run.run' c.in_ok-run.ensures c.split_at.ensures.back c.deref.ensures.value in
    let kept : c.args.keep ≡ c.args.keep - 1 + 1 = omega (arith, c.requires) in
    let within : c.args.keep - 1 < length runs = omega (arith, c.len.ensures, c.if-len-keep.false, c.requires) in
    let new = runs-replaced runs items (c.args.keep - 1) c.args.keep c.in_ok-run.run' c.truncate-else-is_empty.ensures.items kept within run'
    (is_some c.in_ok-run.run' c.if-is_empty.ensures.1) in
    same-shown c.args.keep (run_of_table c.self.inside.table) runs items c.args.self.now new c.self.view_is

pub returns-else-is_empty-clause-fragments : goal.returns-else-is_empty-clause-fragments
returns-else-is_empty-clause-fragments c =
    let runs = c.self.inside.runs.items in
    let items = c.truncate-else-is_empty.new.self.items in
    let run' = united runs c.split_at.result.1.now c.deref.result.now (c.args.keep - 1) c.in_ok-run.run' c.in_ok-run.ensures c.split_at.ensures.back c.deref.ensures.value in
    let kept : c.args.keep ≡ c.args.keep - 1 + 1 = omega (arith, c.requires) in
    let within : c.args.keep - 1 < length runs = omega (arith, c.len.ensures, c.if-len-keep.false, c.requires) in
    let new = runs-replaced runs items (c.args.keep - 1) c.args.keep c.in_ok-run.run' c.truncate-else-is_empty.ensures.items kept within run'
    (is_some c.in_ok-run.run' c.if-is_empty.ensures.1) in
    same-fragments c.args.keep (run_of_table c.self.inside.table) runs items c.args.self.now new c.self.view_is

pub returns-else-is_empty-clause-parts : goal.returns-else-is_empty-clause-parts
returns-else-is_empty-clause-parts c =
    let runs = c.self.inside.runs.items in
    let items = c.truncate-else-is_empty.new.self.items in
    let run' = united runs c.split_at.result.1.now c.deref.result.now (c.args.keep - 1) c.in_ok-run.run' c.in_ok-run.ensures c.split_at.ensures.back c.deref.ensures.value in
    let kept : c.args.keep ≡ c.args.keep - 1 + 1 = omega (arith, c.requires) in
    let within : c.args.keep - 1 < length runs = omega (arith, c.len.ensures, c.if-len-keep.false, c.requires) in
    let new = runs-replaced runs items (c.args.keep - 1) c.args.keep c.in_ok-run.run' c.truncate-else-is_empty.ensures.items kept within run'
    (is_some c.in_ok-run.run' c.if-is_empty.ensures.1) in
    let more : c.args.keep < length runs = omega (arith, c.len.ensures, c.if-len-keep.false) in
    same-parts c.args.keep (run_of_table c.self.inside.table) runs items c.args.self.now new c.self.view_is more
