-- A table font's records are within their maximums.
use Rattle.std.specs.Prelude.{◌≡◌, ℕ, zero, suc, ◌+◌, ◌≤◌, Bool, true, false, cond, ◌&&◌, List, [], ◌∷◌, map, length, take, drop, ℤ, Some, None, Option, nat_le, refl}
use Rattle.std.proofs.Common.{zero-le, arith, length-take, leb-true}
use Rattle.std.proofs.lemmas.List.{length-map}
use Rattle.std.specs.List.{slice_get}
use Rattle.directory.specs.declared.items.Span.{Span}
use Rattle.directory.specs.Places.{row_of}
use Rattle.directory.specs.Parts.{part_of, of_span}
use Rattle.font.specs.declared.conditions.Step.{Step}
use Rattle.font.specs.Replies.{part_values, parts, values_at, steps_of, list_of, set_regions, set_deltas}
use Rattle.font.specs.Maximums.{Bounded}
use Rattle.table_font.specs.declared.tables.GlyphRow.{GlyphRow}
use Rattle.table_font.specs.declared.tables.ComponentRow.{ComponentRow}
use Rattle.font.specs.declared.conditions.Condition.{Condition}
use Rattle.font.specs.declared.conditions.Condition.TheVariants.{Null, Steps}
use Rattle.table_font.specs.declared.tables.DeltaSetRow.{DeltaSetRow}
use Rattle.table_font.specs.declared.table.TableFont.{TableFont}
use Rattle.table_font.specs.Rows.{clipped, read_part, glyph_row, of_glyph, glyph_in, some_steps, of_condition, condition_row, condition_in, list_in, region_in, both_lists, of_set, set_row, set_in}

-- a part of a slice is at most as long as it may be
part_short : {X : Type 0} (xs : List X) (span : Span) (most : ℕ) → length (list_of (part_of xs span most)) ≤ most
part_short xs span most = by (nat_le span.count most) (nat_le (span.start + span.count) (length xs)) refl
  where
    by : (a b : Bool) → nat_le span.count most ≡ a → length (list_of (cond (a && b) (Some (take span.count (drop span.start xs))) None)) ≤ most
    by true true h = simp length-take (omega (arith, leb-true span.count most h))
    by true false h = zero-le
    by false b h = zero-le

glyph_short : (rows : List ComponentRow) (vs : List ℤ) (o : Option GlyphRow) → length (parts (of_glyph rows vs o)) ≤ 65535
glyph_short rows vs None = zero-le
glyph_short rows vs (Some row) = simp (length-map, length-take) (omega arith)

span_short : {X : Type 0} (xs : List X) (o : Option Span) (most : ℕ) → length (list_of (of_span xs o most)) ≤ most
span_short xs None most = zero-le
span_short xs (Some span) most = part_short xs span most

read_short : (vs : List ℤ) (rows : List ComponentRow) (i : ℕ) → length (list_of (part_values (slice_get (map (read_part vs) rows) i))) ≤ 64
read_short vs [] i = zero-le
read_short vs (row ∷ rows) zero = span_short vs row.values 64
read_short vs (row ∷ rows) (suc i) = read_short vs rows i

glyph_values_short : (rows : List ComponentRow) (vs : List ℤ) (o : Option GlyphRow) (i : ℕ) → length (list_of (values_at (of_glyph rows vs o) i)) ≤ 64
glyph_values_short rows vs None i = zero-le
glyph_values_short rows vs (Some row) i = read_short vs (clipped rows row.components) i

some_short : (o : Option (List Step)) → length (list_of o) ≤ 255 → length (steps_of (some_steps o)) ≤ 255
some_short None h = zero-le
some_short (Some ss) h = h

condition_short : (ss : List Step) (o : Option (Condition Span)) → length (steps_of (of_condition ss o)) ≤ 255
condition_short ss None = zero-le
condition_short ss (Some Null) = zero-le
condition_short ss (Some (Steps span)) = some_short (part_of ss span 255) (part_short ss span 255)

both_short : (rs : Option (List ℕ)) (ds : Option (List ℤ)) → length (list_of rs) ≤ 65535 → length (list_of ds) ≤ 65535
    → (length (set_regions (both_lists rs ds)) ≤ 65535) × (length (set_deltas (both_lists rs ds)) ≤ 65535)
both_short None ds h k = (zero-le, zero-le)
both_short (Some rs) None h k = (zero-le, zero-le)
both_short (Some rs) (Some ds) h k = (h, k)

set_short : (rs : List ℕ) (ds : List ℤ) (o : Option DeltaSetRow) → (length (set_regions (of_set rs ds o)) ≤ 65535) × (length (set_deltas (of_set rs ds o)) ≤ 65535)
set_short rs ds None = (zero-le, zero-le)
set_short rs ds (Some row) = both_short (part_of rs row.regions 65535) (part_of ds row.deltas 65535) (part_short rs row.regions 65535) (part_short ds row.deltas 65535)

pub bounded_in : (f : TableFont) → Bounded f.checked.head (glyph_in f.tables) (condition_in f.tables) (list_in f.tables) (region_in f.tables) (set_in f.tables)
bounded_in f = record {
  few_axes = f.checked.few;
  few_parts = λ g. glyph_short f.tables.components.now f.tables.values.now (glyph_row f.tables g);
  few_values = λ g i. glyph_values_short f.tables.components.now f.tables.values.now (glyph_row f.tables g) i;
  few_steps = λ c. condition_short f.tables.steps.now (condition_row f.tables c);
  few_listed = λ l. span_short f.tables.list_axes.now (row_of f.tables.lists l) 64;
  few_region_axes = λ r. span_short f.tables.region_axes.now (row_of f.tables.regions r) 64;
  few_regions = λ v. (set_short f.tables.set_regions.now f.tables.deltas.now (set_row f.tables v)).0;
  few_deltas = λ v. (set_short f.tables.set_regions.now f.tables.deltas.now (set_row f.tables v)).1;
}
