-- What each kind of record replies, and how code reads a reply piece by piece.
use Rattle.std.specs.Prelude.{◌≡◌, ℕ, ◌≤◌, List, [], length, take, ℤ, Some, None, Option}
use Rattle.std.specs.List.{slice_get}
use Rattle.font.specs.declared.components.Component.{Component}
use Rattle.font.specs.declared.components.ListEnd.{ListEnd}
use Rattle.font.specs.declared.components.GlyphList.{GlyphList}
use Rattle.font.specs.declared.conditions.Step.{Step}
use Rattle.font.specs.declared.conditions.Condition.{Condition}
use Rattle.font.specs.declared.conditions.Condition.TheVariants.{Null, Steps}
use Rattle.font.specs.declared.variations.DeltaSetSize.{DeltaSetSize}

-- ---- replies

-- a component with its axis values, which may be absent
pub record Part : Type 0 where
  pub fixed : Component
  pub values : Option (List ℤ)

-- a glyph is not covered, or has a list of components that ends well or in a flaw
pub data GlyphReply : Type 0 where
  not_covered : GlyphReply
  covered : List Part → ListEnd → GlyphReply

-- a condition is missing, null, or steps
pub data ConditionReply : Type 0 where
  missing : ConditionReply
  null : ConditionReply
  steps : List Step → ConditionReply

-- a delta set: the numbers of its regions, and its deltas
pub record DeltaSet : Type 0 where
  pub regions : List ℕ
  pub deltas : List ℤ

-- ---- their pieces

abbrev pub parts : GlyphReply → List Part
parts not_covered = []
parts (covered ps e) = ps

abbrev pub glyph_list_of : GlyphReply → Option GlyphList
glyph_list_of not_covered = None
glyph_list_of (covered ps e) = Some (record { count = length ps; end = e })

abbrev pub fixed_part : Option Part → Option Component
fixed_part None = None
fixed_part (Some p) = Some p.fixed

abbrev pub part_values : Option Part → Option (List ℤ)
part_values None = None
part_values (Some p) = p.values

-- the axis values of a glyph's component i
abbrev pub values_at : GlyphReply → ℕ → Option (List ℤ)
values_at g i = part_values (slice_get (parts g) i)

-- none where it is missing, else a null or how many steps
abbrev pub kind_of : ConditionReply → Option (Condition ℕ)
kind_of missing = None
kind_of null = Some Null
kind_of (steps ss) = Some (Steps (length ss))

abbrev pub steps_of : ConditionReply → List Step
steps_of missing = []
steps_of null = []
steps_of (steps ss) = ss

abbrev pub list_of : {X : Type 0} → Option (List X) → List X
list_of None = []
list_of (Some xs) = xs

abbrev pub list_size : {X : Type 0} → Option (List X) → Option ℕ
list_size None = None
list_size (Some xs) = Some (length xs)

abbrev pub set_size : Option DeltaSet → Option DeltaSetSize
set_size None = None
set_size (Some s) = Some (record { regions = length s.regions; deltas = length s.deltas })

abbrev pub set_regions : Option DeltaSet → List ℕ
set_regions None = []
set_regions (Some s) = s.regions

abbrev pub set_deltas : Option DeltaSet → List ℤ
set_deltas None = []
set_deltas (Some s) = s.deltas

-- A list was copied to the start of a table of 64, and its size told; or it is missing, and nothing is told.
abbrev pub Copied : {X : Type 0} → Option (List X) → List X → Option ℕ → Type 0
Copied reply table None = reply ≡ None
Copied reply table (Some n) = (n ≤ 64) × (reply ≡ Some (take n table))
