-- Not found by the check alone.
use Rattle.trace.proofs.Laws.{lists_exactly}
use Rattle.trace.proofs.law.lists_stand.Goals as goal

pub returns : goal.returns
returns g c = lists_exactly
