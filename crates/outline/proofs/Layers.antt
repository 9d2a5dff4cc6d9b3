-- The transforming pen after a list of strokes.
use Rattle.std.proofs.Common.{◌≡◌, List, [], ◌∷◌, map, refl}
use Rattle.outline.specs.declared.strokes.Stroke.{Stroke}
use Rattle.outline.specs.declared.transform_pen.TransformPen.{TransformPen}
use Rattle.outline.specs.Drawn.{drawn}
use Rattle.outline.specs.Through.{moved, through}

-- it is over the same pen
pub through_name : {P : Type 0} (step : P → Stroke → P) (t : TransformPen P) (ks : List Stroke) → (drawn (through step) t ks).pen.ghost_name ≡ t.pen.ghost_name
through_name step t [] = refl
through_name step t (k ∷ ks) = through_name step (through step t k) ks

-- which has drawn each stroke as the matrix moves it
pub through_now : {P : Type 0} (step : P → Stroke → P) (t : TransformPen P) (ks : List Stroke) → (drawn (through step) t ks).pen.now ≡ drawn step t.pen.now (map (moved t.matrix) ks)
through_now step t [] = refl
through_now step t (k ∷ ks) = through_now step (through step t k) ks
