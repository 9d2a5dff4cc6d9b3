-- Where a factor and a scalar lie: from 0 to 1.
use Rattle.std.specs.Prelude.{◌≡◌, false, from_bits, Float}
use Rattle.std.specs.Float.{binary32, ◌≤ᶠ◌}
use Rattle.std.specs.Float.Ieee.{eq}
use Rattle.variation.specs.Scalars.{nought, one}

-- 2.0, free to mark a scalar that is not known yet
abbrev pub two : Float
two = from_bits binary32 0x4000_0000

-- By f32's own comparisons, so x is neither a NaN nor an infinity. It is not 2.0 either.
pub record FromZeroToOne (x : Float) : Type 0 where
  pub at_least_zero : nought ≤ᶠ x
  pub at_most_one : x ≤ᶠ one
  pub not_two : eq x two ≡ false
