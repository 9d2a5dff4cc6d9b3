-- Not found by the check alone.
use Rattle.numbers.proofs.Remainders.{rem_small, rem_large}
use Rattle.numbers.proofs.remainder.rem_of_size.Goals as goal

pub returns-then-size : goal.returns-then-size
returns-then-size c = rem_small c.args.size c.nearest_u64_to_f64.result c.saturating_f64_to_u64.result c.if-size.true c.saturating_f64_to_u64.ensures c.nearest_u64_to_f64.ensures

pub returns-else-size : goal.returns-else-size
returns-else-size c = rem_large c.args.size c.if-size.false c.well_formed.0.1
