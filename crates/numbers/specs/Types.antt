-- Values of the crate's own number types.
use Rattle.std.specs.Prelude.{ℕ, ℤ, Option, Float}
use Rattle.numbers.specs.declared.glyph_id.GlyphId.{GlyphId}
use Rattle.numbers.specs.declared.fixed.F2Dot14.{F2Dot14}
use Rattle.numbers.specs.declared.sizes.Size.{Size}

-- glyph number n
abbrev pub glyph : ℕ → GlyphId
glyph n = record { 0 = n }

-- a coordinate of n counts of 1/16,384
abbrev pub fixed : ℤ → F2Dot14
fixed n = record { 0 = n }

-- a size of so many pixels per em, or unscaled
abbrev pub size : Option Float → Size
size ppem = record { 0 = ppem }
