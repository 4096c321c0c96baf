-- The statistics so far are printed.
use Rattle.std.proofs.Common.{◌≡◌, ◌++◌, take, map, flat_map}
use Rattle.stat_core.specs.views.Seen.{field_of}
use Rattle.script_text.specs.Statistics.{field_text}
use Rattle.script_text.proofs.statistics.append_fields.Given as goal

abbrev pub invariant-loop-field : goal.invariant-loop-field
invariant-loop-field l =
    l.into.items ≡ l.initial.into.items ++ flat_map (field_text l.stats.sums) (map field_of (take l.field-index l.field-items))
