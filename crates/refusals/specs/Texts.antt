-- How a refusal is written.
use Rattle.std.specs.Prelude.{ℕ, List, [], ◌++◌, Some, None, Option, codes, decimal}
use Rattle.numbers.specs.declared.glyph_id.GlyphId.{GlyphId}
use Rattle.refusals.specs.declared.errors.DrawError.{DrawError}
use Rattle.refusals.specs.declared.errors.DrawError.TheVariants.{Malformed, GlyphNotFound, RecursionLimitExceeded, OutlineFault, InsufficientMemory, WorkingMemory, ListFull, LimitsOutOfRange}
use Rattle.refusals.specs.declared.places.Place.{Place}
use Rattle.refusals.specs.declared.places.Refusal.{Refusal}
use Rattle.refusals.specs.Numbers.{number, glyph, code}

-- why, in words
abbrev pub why : DrawError → List ℕ
why Malformed = codes "font data was absent or malformed"
why (GlyphNotFound g) = codes "glyph " ++ decimal g.0 ++ codes " was not found"
why (RecursionLimitExceeded g) = codes "a limit was exceeded at glyph " ++ decimal g.0
why (OutlineFault c) = codes "the outline ended in fault " ++ decimal c
why InsufficientMemory = codes "the base buffer is too small"
why WorkingMemory = codes "the working memory is too small"
why ListFull = codes "the reading list is full"
why LimitsOutOfRange = codes "limits are out of range"

-- the parts after the number, each only where there is one
abbrev pub glyph_text : Option GlyphId → List ℕ
glyph_text None = []
glyph_text (Some g) = codes " glyph " ++ decimal g.0

abbrev pub code_text : Option ℕ → List ℕ
code_text None = []
code_text (Some c) = codes " code " ++ decimal c

abbrev pub place_text : Option Place → List ℕ
place_text None = []
place_text (Some p) = codes " at " ++ decimal p.glyph.0 ++ codes " " ++ decimal p.component

-- as `refused 3 glyph 10 at 20 0`
abbrev pub refusal_text : Refusal → List ℕ
refusal_text r = codes "refused " ++ decimal (number r.error) ++ glyph_text (glyph r.error) ++ code_text (code r.error) ++ place_text r.place
