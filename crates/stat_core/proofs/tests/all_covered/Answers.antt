use Rattle.std.proofs.Common.{◌≡◌, ℕ, ℤ, pos, ◌+ℤ◌, ◌≤ℤ◌, arith, rules, FitsSigned, to_z, of_z}
use Rattle.std.specs.Int.{w128}
use Rattle.std.proofs.lemmas.Int.{ints}
use Rattle.stat_core.proofs.FieldLaws.{each-field}
use Rattle.stat_core.proofs.tests.all_covered.Goals as goal

covered_held : (k n : ℕ) (z : ℤ) → FitsSigned w128 z → pos 0 ≤ℤ (pos k +ℤ to_z w128 (of_z w128 z)) → k ≡ n → pos 0 ≤ℤ (pos n +ℤ z)
covered_held k n z fits h e = omega (arith, ints)

pub returns : goal.returns
returns g c = each-field _
    (covered_held c.key_count.result c.args.stats.now.sums.key_count c.args.group.now.key_count (search rules) c.covered.ensures c.key_count.ensures)
    (covered_held c.key_bytes.result c.args.stats.now.sums.key_bytes c.args.group.now.key_bytes (search rules) c.covered-2.ensures c.key_bytes.ensures)
    (covered_held c.val_count.result c.args.stats.now.sums.val_count c.args.group.now.val_count (search rules) c.covered-3.ensures c.val_count.ensures)
    (covered_held c.val_bytes.result c.args.stats.now.sums.val_bytes c.args.group.now.val_bytes (search rules) c.covered-4.ensures c.val_bytes.ensures)
    (covered_held c.live_count.result c.args.stats.now.sums.live_count c.args.group.now.live_count (search rules) c.covered-5.ensures c.live_count.ensures)
    (covered_held c.live_bytes.result c.args.stats.now.sums.live_bytes c.args.group.now.live_bytes (search rules) c.covered-6.ensures c.live_bytes.ensures)
    (covered_held c.intent_count.result c.args.stats.now.sums.intent_count c.args.group.now.intent_count (search rules) c.covered-7.ensures c.intent_count.ensures)
    (covered_held c.intent_bytes.result c.args.stats.now.sums.intent_bytes c.args.group.now.intent_bytes (search rules) c.covered-8.ensures c.intent_bytes.ensures)
    (covered_held c.intent_age.result c.args.stats.now.sums.intent_age c.args.group.now.intent_age (search rules) c.covered-9.ensures c.intent_age.ensures)
    (covered_held c.gc_bytes_age.result c.args.stats.now.sums.gc_bytes_age c.args.group.now.gc_bytes_age (search rules) c.covered-10.ensures c.gc_bytes_age.ensures)
    (covered_held c.range_key_count.result c.args.stats.now.sums.range_key_count c.args.group.now.range_key_count (search rules) c.covered-11.ensures c.range_key_count.ensures)
    (covered_held c.range_key_bytes.result c.args.stats.now.sums.range_key_bytes c.args.group.now.range_key_bytes (search rules) c.covered-12.ensures c.range_key_bytes.ensures)
    (covered_held c.range_val_count.result c.args.stats.now.sums.range_val_count c.args.group.now.range_val_count (search rules) c.covered-13.ensures c.range_val_count.ensures)
    (covered_held c.range_val_bytes.result c.args.stats.now.sums.range_val_bytes c.args.group.now.range_val_bytes (search rules) c.covered-14.ensures c.range_val_bytes.ensures)
