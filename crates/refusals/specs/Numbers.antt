-- The number of each refusal, and what it carries.
use Rattle.std.specs.Prelude.{ℕ, Some, None, Option}
use Rattle.numbers.specs.declared.glyph_id.GlyphId.{GlyphId}
use Rattle.refusals.specs.declared.errors.DrawError.{DrawError}
use Rattle.refusals.specs.declared.errors.DrawError.TheVariants.{Malformed, GlyphNotFound, RecursionLimitExceeded, OutlineFault, InsufficientMemory, WorkingMemory, ListFull, LimitsOutOfRange}

abbrev pub number : DrawError → ℕ
number Malformed = 1
number (GlyphNotFound g) = 2
number (RecursionLimitExceeded g) = 3
number (OutlineFault c) = 4
number InsufficientMemory = 5
number WorkingMemory = 6
number ListFull = 7
number LimitsOutOfRange = 8

-- 2 and 3 carry a glyph
abbrev pub glyph : DrawError → Option GlyphId
glyph Malformed = None
glyph (GlyphNotFound g) = Some g
glyph (RecursionLimitExceeded g) = Some g
glyph (OutlineFault c) = None
glyph InsufficientMemory = None
glyph WorkingMemory = None
glyph ListFull = None
glyph LimitsOutOfRange = None

-- 4 carries the store's code, whole
abbrev pub code : DrawError → Option ℕ
code Malformed = None
code (GlyphNotFound g) = None
code (RecursionLimitExceeded g) = None
code (OutlineFault c) = Some c
code InsufficientMemory = None
code WorkingMemory = None
code ListFull = None
code LimitsOutOfRange = None
