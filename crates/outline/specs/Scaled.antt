-- Strokes at a scale.
use Rattle.std.specs.Prelude.{Float}
use Rattle.std.specs.Float.{binary32}
use Rattle.std.specs.Float.Ieee.{mul}
use Rattle.outline.specs.declared.strokes.Stroke.{Stroke}
use Rattle.outline.specs.Points.{mapped}

-- coordinate times scale
abbrev pub by : Float → Float → Float
by s x = mul binary32 x s

-- a stroke with every coordinate times the scale
abbrev pub scaled : Float → Stroke → Stroke
scaled s = mapped (λ x y. (by s x, by s y))
