-- The strokes that are left bring the pen to where all of them bring it.
use Rattle.std.proofs.Common.{◌≡◌, drop}
use Rattle.outline.specs.Drawn.{drawn}
use Rattle.outline.proofs.pens.draw_strokes.Given as goal

abbrev pub invariant-loop-stroke : goal.invariant-loop-stroke
invariant-loop-stroke g l = drawn g.P.OutlinePen.step l.pen (drop l.stroke-index l.strokes) ≡ drawn g.P.OutlinePen.step l.initial.pen l.strokes
