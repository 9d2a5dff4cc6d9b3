-- How many pixels one font unit takes.
use Rattle.std.specs.Prelude.{ℕ, cond, pos, Some, None, Option, ◌==◌, from_bits, Float}
use Rattle.std.specs.Float.{binary32}
use Rattle.std.specs.Float.Ieee.{of_int, div}

-- 1 as an f32
abbrev pub one : Float
one = from_bits binary32 0x3f800000

-- Pixels per em over units per em; 1 where there is no size, or no units per em.
abbrev pub scale : Option Float → ℕ → Float
scale None upem = one
scale (Some ppem) upem = cond (upem == 0) one (div binary32 ppem (of_int binary32 (pos upem)))
