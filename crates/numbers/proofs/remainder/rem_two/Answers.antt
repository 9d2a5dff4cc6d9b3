-- Not found by the check alone.
use Rattle.std.proofs.Common.{sym, ◌∙◌}
use Rattle.numbers.proofs.Remainders.{rem_signed, rem_of_none}
use Rattle.numbers.proofs.remainder.rem_two.Goals as goal

pub returns-then-not-is_finite : goal.returns-then-not-is_finite
returns-then-not-is_finite c = rem_of_none c.args.r (sym c.is_finite.ensures.value ∙ c.if-not-is_finite.true)

pub returns : goal.returns
returns c = c.copysign.ensures ∙ rem_signed c.args.r c.abs.result c.rem_of_size.result (sym c.is_finite.ensures.value ∙ c.if-not-is_finite.false) c.abs.ensures.value c.rem_of_size.ensures
