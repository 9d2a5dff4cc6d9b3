-- Not found by the check alone.
use Rattle.std.proofs.Common.{rules, SFits, w16, Float, sym, subst}
use Rattle.variation.specs.Within.{FromZeroToOne}
use Rattle.variation.proofs.Within.{applies_within}
use Rattle.variation.proofs.scalars.factor.Goals as goal

pub returns-clause-within : goal.returns-clause-within
returns-clause-within c =
    let coordinate : SFits w16 c.args.coordinate.0 = search rules in
    let start : SFits w16 c.args.axis.start.0 = search rules in
    let peak : SFits w16 c.args.axis.peak.0 = search rules in
    let end : SFits w16 c.args.axis.end.0 = search rules in
    subst (λ (x : Float). FromZeroToOne x) (sym c.applies.ensures) (applies_within c.args.coordinate.0 c.args.axis.start.0 c.args.axis.peak.0 c.args.axis.end.0 coordinate start peak end (cc))
