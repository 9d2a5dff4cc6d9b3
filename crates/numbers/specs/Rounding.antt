-- Rounding to whole counts, and narrowing.
use Rattle.std.specs.Prelude.{ℤ, Float}
use Rattle.std.specs.Float.Ieee.{to_signed}
use Rattle.std.specs.Float.{float_round, round_to_format, binary32, binary64}

-- The whole number nearest to x, halves away from zero, held to the range from -2^15 to 2^15 - 1; 0 for a NaN.
abbrev pub nearest : Float → ℤ
nearest x = to_signed 15 (float_round binary64 x)

-- The f32 nearest to x, of two equally near the even one.
abbrev pub narrowed : Float → Float
narrowed x = round_to_format binary32 x
