-- The product over a region's axes, one axis at a time.
use Rattle.std.proofs.Common.{◌≡◌, ℕ, ◌+◌, ◌<◌, ◌≤◌, List, length, get_or, drop, pos, Some, Option, sym, ap, ◌∙◌}
use lib.Ieee.{Float, binary32, mul}
use Rattle.std.proofs.lemmas.List.{at_drop_more, at_drop_all}
use Rattle.numbers.specs.declared.fixed.F2Dot14.{F2Dot14}
use Rattle.numbers.specs.Types.{fixed}
use Rattle.font.specs.declared.variations.RegionAxis.{RegionAxis}
use Rattle.variation.specs.Scalars.{factor, coordinate, times, product}

-- what stands past the end of a list
abbrev pub no_axis : RegionAxis
no_axis = record { axis = 0; start = fixed (pos 0); peak = fixed (pos 0); end = fixed (pos 0) }

module _ (x : Float) (axes : List RegionAxis) (location : List F2Dot14) (i : ℕ) (d : RegionAxis) (more : i < length axes) where
  abbrev next : Option Float → Option Float
  next f = times f (λ y. product (mul binary32 x y) (drop (i + 1) axes) location)

  pub product_more : (o : Option Float) → o ≡ factor (get_or axes i d) (coordinate location (get_or axes i d).axis) → product x (drop i axes) location ≡ next o
  product_more o h = at_drop_more (λ l. product x l location) axes i d more ∙ ap next (sym h)

pub product_end : (x : Float) (axes : List RegionAxis) (location : List F2Dot14) (i : ℕ) → length axes ≤ i → product x (drop i axes) location ≡ Some x
product_end x axes location i h = at_drop_all (λ l. product x l location) axes i h
