-- What an extract by a list shows: the listed records as below, and of the rest that it is not covered, missing, or of width 0.
use Rattle.std.specs.Prelude.{ℕ, zero, suc, cond, List, ℤ, pos, None, Option}
use Rattle.numbers.specs.declared.fixed.F2Dot14.{F2Dot14}
use Rattle.numbers.specs.Types.{glyph}
use Rattle.font.specs.declared.variations.RegionAxis.{RegionAxis}
use Rattle.font.specs.Replies.{GlyphReply, not_covered, ConditionReply, missing, DeltaSet}
use Rattle.store.specs.Replies.{OutlineReply, missing as no_outline}
use Rattle.trace.specs.declared.entries.Entry.{Entry}
use Rattle.trace.specs.declared.entries.Entry.TheVariants.{Glyph, Condition, AxisList, Region, DeltaSet as Deltas, Outline, Width}
use Rattle.trace.specs.Entries.{has}
use Rattle.trace.specs.Meanings.{FontMeaning, StoreMeaning, Meaning}

-- ---- what is left of each kind

abbrev pub left_glyphs : List Entry → (ℕ → GlyphReply) → ℕ → GlyphReply
left_glyphs es f g = cond (has es (Glyph (glyph g))) (f g) not_covered

abbrev pub left_conditions : List Entry → (ℕ → ConditionReply) → ℕ → ConditionReply
left_conditions es f n = cond (has es (Condition n)) (f n) missing

abbrev pub left_lists : List Entry → (ℕ → Option (List ℕ)) → ℕ → Option (List ℕ)
left_lists es f n = cond (has es (AxisList n)) (f n) None

abbrev pub left_regions : List Entry → (ℕ → Option (List RegionAxis)) → ℕ → Option (List RegionAxis)
left_regions es f n = cond (has es (Region n)) (f n) None

abbrev pub left_sets : List Entry → (ℕ → Option DeltaSet) → ℕ → Option DeltaSet
left_sets es f n = cond (has es (Deltas n)) (f n) None

abbrev pub left_outlines : List Entry → (ℕ → OutlineReply) → ℕ → OutlineReply
left_outlines es f g = cond (has es (Outline (glyph g))) (f g) no_outline

abbrev pub left_widths : List Entry → (ℕ → List F2Dot14 → ℤ) → ℕ → List F2Dot14 → ℤ
left_widths es f g = cond (has es (Width (glyph g))) (f g) (λ location. pos 0)

-- ---- extracts

-- of a font: the head stays
abbrev pub extract_font : List Entry → FontMeaning → FontMeaning
extract_font es f = record {
  head = f.head;
  glyph = left_glyphs es f.glyph;
  condition = left_conditions es f.condition;
  axes = left_lists es f.axes;
  region = left_regions es f.region;
  deltas = left_sets es f.deltas;
}

-- of a store
abbrev pub extract_store : List Entry → StoreMeaning → StoreMeaning
extract_store es s = record { outline = left_outlines es s.outline; width = left_widths es s.width }

-- extracts of extracts, n deep
abbrev pub font_pile : ℕ → List Entry → FontMeaning → FontMeaning
font_pile zero es f = f
font_pile (suc n) es f = extract_font es (font_pile n es f)

abbrev pub store_pile : ℕ → List Entry → StoreMeaning → StoreMeaning
store_pile zero es s = s
store_pile (suc n) es s = extract_store es (store_pile n es s)

-- n deep over the font, and k deep over the store
abbrev pub piled : ℕ → ℕ → List Entry → Meaning → Meaning
piled n k es m = record { font = font_pile n es m.font; store = store_pile k es m.store }
