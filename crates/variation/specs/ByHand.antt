-- Values of the definitions that a reader can check by hand. A float is written as its bits.
use Rattle.std.specs.Prelude.{◌≡◌, ℕ, [], ◌∷◌, ℤ, pos, negsuc, Some, None, from_bits, Float}
use Rattle.std.specs.Float.{binary32}
use Rattle.numbers.specs.Types.{fixed}
use Rattle.font.specs.declared.variations.RegionAxis.{RegionAxis}
use Rattle.variation.specs.Scalars.{factor, scalar}

-- the f32 with the bits b
abbrev pub f : ℕ → Float
f b = from_bits binary32 b

abbrev pub region_axis : ℕ → ℤ → ℤ → ℤ → RegionAxis
region_axis axis start peak end = record { axis = axis; start = fixed start; peak = fixed peak; end = fixed end }

-- it begins at 0, and applies whole at 16384, where it ends
abbrev pub rising : ℕ → RegionAxis
rising axis = region_axis axis (pos 0) (pos 16384) (pos 16384)

-- Halfway the factor is 0.5 (3F000000), at the peak 1 (3F800000), and below the start 0.
abbrev pub Factors : Type 0
Factors =
    (factor (rising 0) (fixed (pos 8192)) ≡ Some (f 0x3f00_0000))
    × (factor (rising 0) (fixed (pos 16384)) ≡ Some (f 0x3f80_0000))
    × (factor (rising 0) (fixed (negsuc 0)) ≡ Some (f 0))

-- Halfway from the peak to the end it is 0.5 too, past the end 0, and 1 everywhere where the peak is 0.
abbrev pub OtherFactors : Type 0
OtherFactors =
    (factor (region_axis 0 (pos 0) (pos 8192) (pos 16384)) (fixed (pos 12288)) ≡ Some (f 0x3f00_0000))
    × (factor (region_axis 0 (pos 0) (pos 8192) (pos 16384)) (fixed (pos 16385)) ≡ Some (f 0))
    × (factor (region_axis 0 (negsuc 16383) (pos 0) (pos 16384)) (fixed (pos 32767)) ≡ Some (f 0x3f80_0000))

-- Halfway on both axes the scalar is 0.25 (3E800000); where the location has only the first coordinate it is 0.
abbrev pub Scalars : Type 0
Scalars =
    (scalar (rising 0 ∷ rising 1 ∷ []) (fixed (pos 8192) ∷ fixed (pos 8192) ∷ []) ≡ Some (f 0x3e80_0000))
    × (scalar (rising 0 ∷ rising 1 ∷ []) (fixed (pos 8192) ∷ []) ≡ Some (f 0))

-- its start is above its peak
abbrev pub crossed : ℕ → RegionAxis
crossed axis = region_axis axis (pos 16384) (pos 8192) (pos 16384)

-- It has no factor, and its region no scalar, even where another axis has the factor 0. The same goes for a peak above the end, and for an axis from below 0 to above it whose peak is not 0.
abbrev pub Faults : Type 0
Faults =
    (factor (crossed 1) (fixed (pos 8192)) ≡ None)
    × (scalar (rising 0 ∷ crossed 1 ∷ []) (fixed (pos 0) ∷ fixed (pos 8192) ∷ []) ≡ None)
    × (factor (region_axis 0 (pos 0) (pos 16384) (pos 8192)) (fixed (pos 8192)) ≡ None)
    × (factor (region_axis 0 (negsuc 0) (pos 1) (pos 1)) (fixed (pos 1)) ≡ None)

abbrev pub ByHand : Type 0
ByHand = Factors × OtherFactors × Scalars × Faults
