-- Not found by the check alone.
use Rattle.trace.proofs.Laws.{repeats}
use Rattle.trace.proofs.law.repeats_stand.Goals as goal

pub returns : goal.returns
returns g c = repeats
