-- Not found by the check alone.
use Rattle.trace.proofs.Laws.{extracts_match, redraws}
use Rattle.trace.proofs.law.extracts_stand.Goals as goal

pub returns : goal.returns
returns g c = record { matching = extracts_match; redraws = redraws }
