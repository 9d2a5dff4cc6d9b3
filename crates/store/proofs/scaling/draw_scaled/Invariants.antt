-- The strokes that are left, scaled, bring the pen to where all of them bring it.
use Rattle.std.proofs.Common.{◌≡◌, map, drop}
use Rattle.outline.specs.Drawn.{drawn}
use Rattle.outline.specs.Scaled.{scaled}
use Rattle.store.proofs.scaling.draw_scaled.Given as goal

abbrev pub invariant-loop-stroke : goal.invariant-loop-stroke
invariant-loop-stroke g l = drawn g.P.OutlinePen.step l.pen (map (scaled l.s) (drop l.stroke-index l.strokes)) ≡ drawn g.P.OutlinePen.step l.initial.pen (map (scaled l.s) l.strokes)
