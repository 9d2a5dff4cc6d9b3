-- Not found by the check alone.
use Rattle.std.proofs.Common.{refl}
use lib.Ieee.{round, of_bits, of_int, to_bits, add, sub, mul, div, rem, neg, lt, eq}
use Rattle.std.specs.Float.{round_to_format, float_is_finite}
use Rattle.sample.proofs.sample_stands.Goals as goal

pub returns : goal.returns
unfolding round of_bits of_int to_bits add sub mul div rem neg lt eq round_to_format float_is_finite
returns c = (refl, refl)
