-- What is left of the divisors brings the sum so far to the whole.
use Rattle.std.proofs.Common.{◌≡◌, drop}
use Rattle.numbers.specs.Turns.{series, one}
use Rattle.numbers.proofs.turns.series.Given as goal

abbrev pub invariant-loop-d : goal.invariant-loop-d
invariant-loop-d l = series l.w l.y (drop l.d-index l.divisors) ≡ series l.w one l.divisors
