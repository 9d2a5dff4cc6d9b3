-- Not found by the check alone.
use Rattle.std.proofs.Common.{refl}
use lib.Ieee.{round, of_bits, of_int, mul, div}
use Rattle.variation.proofs.by_hand.variation_stands.Goals as goal

pub returns : goal.returns
unfolding round of_bits of_int mul div
returns c = (
  (refl, refl, refl),
  (refl, refl, refl),
  (refl, refl),
  (refl, refl, refl, refl),
)
