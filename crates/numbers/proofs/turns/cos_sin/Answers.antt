-- Not found by the check alone.
use Rattle.std.proofs.Common.{rules}
use lib.Ieee.{of_bits}
use Rattle.numbers.proofs.turns.cos_sin.Goals as goal

-- a NaN's bits are the NaN
pub returns-then-not-is_finite : goal.returns-then-not-is_finite
unfolding of_bits
returns-then-not-is_finite c = search rules
