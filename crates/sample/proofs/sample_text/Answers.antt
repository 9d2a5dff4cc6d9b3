-- Not found by the check alone.
use Rattle.std.proofs.Common.{rules}
use Rattle.sample.specs.Sample.{drawing}
use Rattle.sample.proofs.Fronts.{written_front, sample_line}
use Rattle.sample.proofs.sample_text.Goals as goal

pub returns : goal.returns
returns c = let front = written_front drawing _ _ _ _ c.sample_tape-end.ensures in search (rules, front, sample_line)
