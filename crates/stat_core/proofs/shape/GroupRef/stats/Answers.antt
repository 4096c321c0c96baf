use Rattle.std.proofs.Common.{◌≡◌, ◌+◌, pos, refl, arith, ap, sym, ◌∙◌, length, map}
use Rattle.std.specs.Option.{option_map}
use Rattle.std.proofs.lemmas.List.{length-map}
use Rattle.mvcc_key.specs.views.Seen.{time_of}
use Rattle.stat_core.specs.ComputeStats.{KeyShape, live_key, newest_dead, key_sums}
use Rattle.stat_core.specs.views.Seen.{version_shape_of, lent_shape_of}
use Rattle.stat_core.proofs.FieldLaws.{each-field}
use Rattle.stat_core.proofs.GroupLaws.{KeyAdds, key_sums-adds, val_bytes-is, live_bytes-is, gc_bytes_age-is, lengths-shapes, live_key-within}
use Rattle.stat_core.proofs.NumberLaws.{signed-held}
use Rattle.stat_core.proofs.shape.GroupRef.stats.Goals as goal

pub of_versions-tally-requires-clause-lengths : goal.of_versions-tally-requires-clause-lengths
of_versions-tally-requires-clause-lengths c = lengths-shapes c.args.self.now.versions.now c.requires.value_lengths

pub returns-clause-sums : goal.returns-clause-sums
returns-clause-sums c =
    let k : KeyShape = lent_shape_of c.args.self.now in
    let adds : KeyAdds c.args.now k (key_sums c.args.now k) = key_sums-adds c.args.now k in
    let many : length (map version_shape_of c.args.self.now.versions.now) ≡ length c.args.self.now.versions.now = length-map c.args.self.now.versions.now version_shape_of in
    each-field _ (ap (λ n. pos n) (sym adds.key_count))
    (signed-held c.signed.result _ (key_sums c.args.now k).key_bytes c.signed.ensures (omega (arith, adds.key_bytes, many)) (omega (arith, many)))
    (signed-held c.signed-2.result _ (key_sums c.args.now k).val_count c.signed-2.ensures (omega (arith, adds.val_count, many)) (omega (arith, many)))
    (signed-held c.signed-3.result _ (key_sums c.args.now k).val_bytes c.signed-3.ensures
    (val_bytes-is c.args.now k c.of_versions-tally.result.val_bytes _ c.of_versions-tally.ensures.value.val_bytes (omega arith)) (omega (arith, many)))
    (signed-held c.live_keys.result _ (key_sums c.args.now k).live_count c.live_keys.ensures (ap live_key c.newest_dead-dead.ensures ∙ sym adds.live_count)
    (omega (arith, live_key-within (option_map time_of c.newest_dead-dead.result))))
    (signed-held c.signed-4.result _ (key_sums c.args.now k).live_bytes c.signed-4.ensures
    (live_bytes-is c.args.now k (option_map time_of c.newest_dead-dead.result) c.of_versions-tally.result.live_bytes _ c.newest_dead-dead.ensures
    c.of_versions-tally.ensures.value.live_bytes c.count.ensures.live_bytes) (omega (arith, many)))
    (signed-held c.signed-5.result _ (key_sums c.args.now k).intent_count c.signed-5.ensures (c.from-3.ensures ∙ c.intent_tally-intent.ensures.count ∙ sym adds.intent_count) (omega arith))
    (signed-held c.signed-6.result _ (key_sums c.args.now k).intent_bytes c.signed-6.ensures (c.from-4.ensures ∙ c.intent_tally-intent.ensures.bytes ∙ sym adds.intent_bytes) (omega arith))
    (signed-held c.signed-7.result _ (key_sums c.args.now k).intent_age c.signed-7.ensures (c.from-5.ensures ∙ c.intent_tally-intent.ensures.age ∙ sym adds.intent_age) (omega arith))
    (signed-held c.signed-8.result _ (key_sums c.args.now k).gc_bytes_age c.signed-8.ensures
    (gc_bytes_age-is c.args.now k (option_map time_of c.newest_dead-dead.result) c.of_versions-tally.result.gc_bytes_age _ c.newest_dead-dead.ensures
    c.of_versions-tally.ensures.value.gc_bytes_age c.count.ensures.gc_bytes_age) (omega (arith, many)))
    (ap (λ n. pos n) (sym adds.range_key_count)) (ap (λ n. pos n) (sym adds.range_key_bytes)) (ap (λ n. pos n) (sym adds.range_val_count)) (ap (λ n. pos n) (sym adds.range_val_bytes))

pub returns-clause-within : goal.returns-clause-within
returns-clause-within c =
    let k : KeyShape = lent_shape_of c.args.self.now in
    let adds : KeyAdds c.args.now k (key_sums c.args.now k) = key_sums-adds c.args.now k in
    let many : length (map version_shape_of c.args.self.now.versions.now) ≡ length c.args.self.now.versions.now = length-map c.args.self.now.versions.now version_shape_of in
    let values = val_bytes-is c.args.now k c.of_versions-tally.result.val_bytes (c.args.self.now.record_len + c.of_versions-tally.result.val_bytes)
    c.of_versions-tally.ensures.value.val_bytes refl in
    let live = live_bytes-is c.args.now k (option_map time_of c.newest_dead-dead.result) c.of_versions-tally.result.live_bytes c.count.new.self.live_bytes c.newest_dead-dead.ensures
    c.of_versions-tally.ensures.value.live_bytes c.count.ensures.live_bytes in
    let age = gc_bytes_age-is c.args.now k (option_map time_of c.newest_dead-dead.result) c.of_versions-tally.result.gc_bytes_age c.count.new.self.gc_bytes_age c.newest_dead-dead.ensures
    c.of_versions-tally.ensures.value.gc_bytes_age c.count.ensures.gc_bytes_age in
    each-field _ (omega (arith, adds.key_count)) (omega (arith, adds.key_bytes, many)) (omega (arith, adds.val_count, many)) (omega (arith, values))
    (omega (arith, adds.live_count, live_key-within (newest_dead k k.versions))) (omega (arith, live, many))
    (omega (arith, adds.intent_count, c.intent_tally-intent.ensures.count)) (omega (arith, adds.intent_bytes, c.intent_tally-intent.ensures.bytes)) (omega (arith, adds.intent_age, c.intent_tally-intent.ensures.age))
    (omega (arith, age, many)) (omega (arith, adds.range_key_count)) (omega (arith, adds.range_key_bytes)) (omega (arith, adds.range_val_count)) (omega (arith, adds.range_val_bytes))
