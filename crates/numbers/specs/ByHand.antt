-- Values of the definitions that a reader can check by hand. A float is written as its bits.
use Rattle.std.specs.Prelude.{◌≡◌, ℕ, false, pos, negsuc, Some, None, from_bits, Float}
use Rattle.std.specs.Float.{nan, inf, binary32, binary64}
use Rattle.std.specs.Float.Ieee.{of_int, neg}
use Rattle.numbers.specs.declared.turns.CosSin.{CosSin}
use Rattle.numbers.specs.Rounding.{nearest, narrowed}
use Rattle.numbers.specs.Scales.{scale}
use Rattle.numbers.specs.Turns.{cos_sin, tan, half}

-- the f32 with the bits b
abbrev pub f : ℕ → Float
f b = from_bits binary32 b

abbrev pub cos_and_sin : Float → Float → CosSin
cos_and_sin c s = record { cos = c; sin = s }

-- At 0, 1/2, 1 and 3/2 half-turns the cosine and sine are 0, 1 and -1 with their signs, and at 1/4 both are 0.70710677 (3F3504F3).
abbrev pub Quarters : Type 0
Quarters =
    (cos_sin (f 0) ≡ cos_and_sin (f 0x3f80_0000) (f 0))
    × (cos_sin (f 0x3f00_0000) ≡ cos_and_sin (f 0x8000_0000) (f 0x3f80_0000))
    × (cos_sin (f 0x3f80_0000) ≡ cos_and_sin (f 0xbf80_0000) (f 0x8000_0000))
    × (cos_sin (f 0x3fc0_0000) ≡ cos_and_sin (f 0) (f 0xbf80_0000))
    × (cos_sin (f 0x3e80_0000) ≡ cos_and_sin (f 0x3f35_04f3) (f 0x3f35_04f3))

-- A full turn back is a negative 0 on; an infinity and a NaN turn to NaN; the tangent of 1/4 is 1.
abbrev pub TurnedFar : Type 0
TurnedFar =
    (cos_sin (f 0xc000_0000) ≡ cos_and_sin (f 0x3f80_0000) (f 0x8000_0000))
    × (cos_sin (inf false) ≡ cos_and_sin nan nan)
    × (cos_sin nan ≡ cos_and_sin nan nan)
    × (tan (f 0x3e80_0000) ≡ f 0x3f80_0000)

-- Halves go away from zero, and what is out of range to its nearer end.
abbrev pub Rounded : Type 0
Rounded =
    (nearest (neg half) ≡ negsuc 0)
    × (nearest half ≡ pos 1)
    × (nearest (of_int binary64 (pos 40000)) ≡ pos 32767)
    × (nearest (of_int binary64 (negsuc 39999)) ≡ negsuc 32767)
    × (nearest nan ≡ pos 0)

-- 1 + 2^-24 lies halfway and goes to the even 1; 1 + 3 · 2^-24 to the even 1 + 2^-22.
abbrev pub Narrowed : Type 0
Narrowed =
    (narrowed (from_bits binary64 0x3ff0_0000_1000_0000) ≡ f 0x3f80_0000)
    × (narrowed (from_bits binary64 0x3ff0_0000_3000_0000) ≡ f 0x3f80_0002)

-- 16 pixels for 1,000 units is 0.016 (3C83126F) a unit, and 1 where there is no size or no unit.
abbrev pub Scaled : Type 0
Scaled =
    (scale (Some (f 0x4180_0000)) 1000 ≡ f 0x3c83_126f)
    × (scale (Some (f 0x4180_0000)) 0 ≡ f 0x3f80_0000)
    × (scale None 1000 ≡ f 0x3f80_0000)

abbrev pub ByHand : Type 0
ByHand = Quarters × TurnedFar × Rounded × Narrowed × Scaled
