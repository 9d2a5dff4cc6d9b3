-- The largest records that a font may have.
use Rattle.std.specs.Prelude.{ℕ, ◌≤◌, List, length, Option}
use Rattle.font.specs.declared.heads.Head.{Head}
use Rattle.font.specs.declared.variations.RegionAxis.{RegionAxis}
use Rattle.font.specs.Replies.{GlyphReply, ConditionReply, DeltaSet, parts, values_at, steps_of, list_of, set_regions, set_deltas}

-- 64 axes; 65,535 components, each with 64 axis values; 255 steps; 64 axes in a list and in a region; 65,535 regions and 65,535 deltas in a set
pub record Bounded (head : Head) (glyph : ℕ → GlyphReply) (condition : ℕ → ConditionReply) (axes : ℕ → Option (List ℕ)) (region : ℕ → Option (List RegionAxis)) (set : ℕ → Option DeltaSet) : Type 0 where
  pub few_axes : head.axis_count ≤ 64
  pub few_parts : (g : ℕ) → length (parts (glyph g)) ≤ 65535
  pub few_values : (g i : ℕ) → length (list_of (values_at (glyph g) i)) ≤ 64
  pub few_steps : (c : ℕ) → length (steps_of (condition c)) ≤ 255
  pub few_listed : (l : ℕ) → length (list_of (axes l)) ≤ 64
  pub few_region_axes : (r : ℕ) → length (list_of (region r)) ≤ 64
  pub few_regions : (v : ℕ) → length (set_regions (set v)) ≤ 65535
  pub few_deltas : (v : ℕ) → length (set_deltas (set v)) ≤ 65535
