-- The steps of a condition and the two lists of a delta set, as they stand in their slices.
use Rattle.std.specs.Prelude.{List, None, Some, Option}
use Rattle.std.specs.Borrow.{Bor}
use Rattle.font.specs.declared.conditions.Step.{Step}
use Rattle.font.specs.declared.conditions.Condition.{Condition}
use Rattle.font.specs.declared.conditions.Condition.TheVariants.{Null, Steps}
use Rattle.font.specs.Replies.{DeltaSet, ConditionReply, missing, null, steps}
use Rattle.table_font.specs.declared.parts.SetLists.{SetLists}

abbrev pub lists_now : SetLists → DeltaSet
lists_now s = record { regions = s.regions.now; deltas = s.deltas.now }

abbrev pub condition_now : Option (Condition (Bor (List Step))) → ConditionReply
condition_now None = missing
condition_now (Some Null) = null
condition_now (Some (Steps ss)) = steps ss.now
