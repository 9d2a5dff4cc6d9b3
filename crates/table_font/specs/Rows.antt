-- What the slices of a table font mean.
use Rattle.std.specs.Prelude.{ℕ, min, List, [], map, take, drop, ℤ, Some, None, Option}
use Rattle.directory.specs.declared.items.Span.{Span}
use Rattle.directory.specs.Places.{row_of}
use Rattle.directory.specs.Parts.{part_of, of_span}
use Rattle.font.specs.declared.components.ListEnd.{ListEnd}
use Rattle.font.specs.declared.components.ListEnd.TheVariants.{Flaw}
use Rattle.font.specs.declared.conditions.Step.{Step}
use Rattle.font.specs.declared.conditions.Condition.{Condition}
use Rattle.font.specs.declared.conditions.Condition.TheVariants.{Null, Steps}
use Rattle.font.specs.declared.variations.RegionAxis.{RegionAxis}
use Rattle.font.specs.Replies.{Part, GlyphReply, not_covered, covered, ConditionReply, missing, null, steps, DeltaSet}
use Rattle.table_font.specs.declared.tables.GlyphRow.{GlyphRow}
use Rattle.table_font.specs.declared.tables.ComponentRow.{ComponentRow}
use Rattle.table_font.specs.declared.tables.DeltaSetRow.{DeltaSetRow}
use Rattle.table_font.specs.declared.tables.Tables.{Tables}

-- ---- glyphs

-- the components of a span, as many as there are, at most 65,535
abbrev pub clipped : List ComponentRow → Span → List ComponentRow
clipped rows span = take (min span.count 65535) (drop span.start rows)

-- the list ends in a flaw where its span is longer than that or goes past the slice
abbrev pub end_at : {X : Type 0} → Option X → ListEnd → ListEnd
end_at None e = Flaw
end_at (Some x) e = e

abbrev pub end_in : List ComponentRow → GlyphRow → ListEnd
end_in rows row = end_at (part_of rows row.components 65535) row.end

-- axis values: absent, or a list of at most 64 within its slice
abbrev pub values_in : List ℤ → Option Span → Option (List ℤ)
values_in vs o = of_span vs o 64

abbrev pub read_part : List ℤ → ComponentRow → Part
read_part vs row = record { fixed = row.component; values = values_in vs row.values }

abbrev pub glyph_row : Tables → ℕ → Option GlyphRow
glyph_row t g = row_of t.glyphs g

-- the component rows of a glyph
abbrev pub rows_of : List ComponentRow → Option GlyphRow → List ComponentRow
rows_of rows None = []
rows_of rows (Some row) = clipped rows row.components

abbrev pub rows_in : Tables → ℕ → List ComponentRow
rows_in t g = rows_of t.components.now (glyph_row t g)

abbrev pub of_glyph : List ComponentRow → List ℤ → Option GlyphRow → GlyphReply
of_glyph rows vs None = not_covered
of_glyph rows vs (Some row) = covered (map (read_part vs) (clipped rows row.components)) (end_in rows row)

abbrev pub glyph_in : Tables → ℕ → GlyphReply
glyph_in t g = of_glyph t.components.now t.values.now (glyph_row t g)

-- ---- conditions

abbrev pub some_steps : Option (List Step) → ConditionReply
some_steps None = missing
some_steps (Some ss) = steps ss

abbrev pub of_condition : List Step → Option (Condition Span) → ConditionReply
of_condition ss None = missing
of_condition ss (Some Null) = null
of_condition ss (Some (Steps span)) = some_steps (part_of ss span 255)

abbrev pub condition_row : Tables → ℕ → Option (Condition Span)
condition_row t c = row_of t.conditions c

abbrev pub condition_in : Tables → ℕ → ConditionReply
condition_in t c = of_condition t.steps.now (condition_row t c)

-- ---- axis lists and regions

-- at most 64 axes in each
abbrev pub list_in : Tables → ℕ → Option (List ℕ)
list_in t l = of_span t.list_axes.now (row_of t.lists l) 64

abbrev pub region_in : Tables → ℕ → Option (List RegionAxis)
region_in t r = of_span t.region_axes.now (row_of t.regions r) 64

-- ---- delta sets

abbrev pub both_lists : Option (List ℕ) → Option (List ℤ) → Option DeltaSet
both_lists None ds = None
both_lists (Some rs) None = None
both_lists (Some rs) (Some ds) = Some (record { regions = rs; deltas = ds })

abbrev pub of_set : List ℕ → List ℤ → Option DeltaSetRow → Option DeltaSet
of_set rs ds None = None
of_set rs ds (Some row) = both_lists (part_of rs row.regions 65535) (part_of ds row.deltas 65535)

abbrev pub set_row : Tables → ℕ → Option DeltaSetRow
set_row t v = row_of t.sets v

abbrev pub set_in : Tables → ℕ → Option DeltaSet
set_in t v = of_set t.set_regions.now t.deltas.now (set_row t v)
