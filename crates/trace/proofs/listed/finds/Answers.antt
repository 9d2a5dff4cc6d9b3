-- Not found by the check alone.
use Rattle.std.proofs.Common.{rules, tests, ◌∙◌}
use Rattle.trace.proofs.Notes.{has_any}
use Rattle.trace.proofs.listed.finds.Goals as goal

pub returns : goal.returns
returns c = c.contains.ensures.value ∙ has_any _ c.args.sought (λ x. search (rules, tests)) c.args.entries.now
