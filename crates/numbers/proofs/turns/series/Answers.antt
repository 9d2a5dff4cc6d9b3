-- Not found by the check alone.
use Rattle.std.proofs.Common.{add-one, drop-cons}
use Rattle.std.proofs.lemmas.List.{drop_all}
use Rattle.numbers.proofs.turns.series.Goals as goal

pub loop-d-preserved : goal.loop-d-preserved
loop-d-preserved c = let h = c.loop-d-test.true in rw (add-one, ← c.loop-d.invariant, drop-cons c.args.divisors.now c.loop-d.d-index 0)

pub returns : goal.returns
returns c = let h = c.loop-d-test.false in rw (← c.loop-d.invariant, drop_all c.loop-d.d-index c.args.divisors.now)
