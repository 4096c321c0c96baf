-- The statistics line: fifteen numbers by their names.
use Rattle.std.specs.Prelude.{ℕ, List, ◌++◌, codes}
use Rattle.std.specs.List.{flat_map}
use Rattle.std.specs.Fmt.{decimal}
use Rattle.mvcc_key.specs.Field.{Field, all_fields}
use Rattle.stat_core.specs.ComputeStats as stat
use Rattle.stat_core.specs.ComputeStats.{Sums}
use Rattle.stat_core.specs.Names.{field_name}

-- a statistic with its name
unfoldable pub field_text : Sums → Field → List ℕ
field_text sums f = codes " " ++ field_name f ++ codes "=" ++ decimal (stat.field f sums)

-- the bounded statistics in their order, and the moment that they are of
unfoldable pub statistics_line : Sums → ℕ → List ℕ
statistics_line sums now = codes "stats:" ++ flat_map (field_text sums) all_fields ++ codes " last_update_nanos=" ++ decimal now ++ codes "\n"
