-- Not found by the check alone.
use Rattle.std.proofs.Common.{refl}
use lib.Ieee.{round, of_bits, of_int, add, sub, mul, div, rem, neg, lt, eq}
use Rattle.std.specs.Float.{round_to_format, float_is_finite}
use Rattle.matrices.proofs.by_hand.matrices_stand.Goals as goal

pub returns : goal.returns
unfolding round of_bits of_int add sub mul div rem neg lt eq round_to_format float_is_finite
returns c = ((refl, refl, refl, refl), (refl, refl, refl, refl, refl))
