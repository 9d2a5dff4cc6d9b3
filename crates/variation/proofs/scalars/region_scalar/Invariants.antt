-- The axes that are left bring the product so far to the whole, and it lies from 0 to 1.
use Rattle.std.proofs.Common.{◌≡◌, drop}
use Rattle.variation.specs.Scalars.{product, scalar}
use Rattle.variation.specs.Within.{FromZeroToOne}
use Rattle.variation.proofs.scalars.region_scalar.Given as goal

abbrev pub invariant-loop-axis : goal.invariant-loop-axis
invariant-loop-axis l = record { value : product l.product (drop l.axis-index l.axes) l.location ≡ scalar l.axes l.location; within : FromZeroToOne l.product }
