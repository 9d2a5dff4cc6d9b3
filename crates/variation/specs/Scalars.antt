-- How much of a region applies at a location.
use Rattle.std.specs.Prelude.{ℕ, Bool, cond, not, ◌&&◌, ◌||◌, List, [], ◌∷◌, ℤ, pos, ◌-ℤ◌, Some, None, Option, from_bits, int_lt, Float}
use Rattle.std.specs.Float.{binary32}
use Rattle.std.specs.Float.Ieee.{of_int, div, mul}
use Rattle.std.specs.List.{slice_get}
use Rattle.std.specs.Option.{unwrap_or}
use Rattle.numbers.specs.declared.fixed.F2Dot14.{F2Dot14}
use Rattle.numbers.specs.Types.{fixed}
use Rattle.font.specs.declared.variations.RegionAxis.{RegionAxis}

abbrev pub nought : Float
nought = from_bits binary32 0

abbrev pub one : Float
one = from_bits binary32 0x3f80_0000

abbrev pub same : ℤ → ℤ → Bool
same a b = not (int_lt a b || int_lt b a)

-- start over peak, peak over end, or below and above zero with a peak that is not 0
abbrev pub at_fault : ℤ → ℤ → ℤ → Bool
at_fault start peak end = int_lt peak start || (int_lt end peak || (int_lt start (pos 0) && (int_lt (pos 0) end && not (same peak (pos 0)))))

-- two whole differences, then one division
abbrev pub ratio : ℤ → ℤ → Float
ratio a b = div binary32 (of_int binary32 a) (of_int binary32 b)

-- at its peak, and everywhere if that is 0
abbrev pub whole : ℤ → ℤ → Bool
whole c peak = same peak (pos 0) || same c peak

abbrev pub outside : ℤ → ℤ → ℤ → Bool
outside c start end = int_lt c start || int_lt end c

-- How far an axis applies at c: whole at its peak, and everywhere if that is 0; not at all outside its ends; below the peak by how far c is from the start, above it by how far from the end.
abbrev pub applies : ℤ → ℤ → ℤ → ℤ → Float
applies c start peak end =
    cond (whole c peak) one
    (cond (outside c start end) nought
    (cond (int_lt c peak) (ratio (c -ℤ start) (peak -ℤ start)) (ratio (end -ℤ c) (end -ℤ peak))))

-- the factor of an axis, or none where it is at fault
abbrev pub factor : RegionAxis → F2Dot14 → Option Float
factor a c = cond (at_fault a.start.0 a.peak.0 a.end.0) None (Some (applies c.0 a.start.0 a.peak.0 a.end.0))

-- a coordinate past the location's end is 0
abbrev pub coordinate : List F2Dot14 → ℕ → F2Dot14
coordinate location axis = unwrap_or (slice_get location axis) (fixed (pos 0))

abbrev pub times : Option Float → (Float → Option Float) → Option Float
times None k = None
times (Some x) k = k x

abbrev pub product : Float → List RegionAxis → List F2Dot14 → Option Float
product x [] location = Some x
product x (a ∷ rest) location = times (factor a (coordinate location a.axis)) (λ f. product (mul binary32 x f) rest location)

-- the product from 1, in the order of the axes; none where any axis is at fault
abbrev pub scalar : List RegionAxis → List F2Dot14 → Option Float
scalar axes location = product one axes location
