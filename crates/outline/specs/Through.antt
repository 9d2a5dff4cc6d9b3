-- Strokes under a matrix, and the pen that transforms them.
use Rattle.matrices.specs.declared.affine.Matrix.{Matrix}
use Rattle.matrices.specs.Affine.{at_x, at_y}
use Rattle.outline.specs.declared.strokes.Stroke.{Stroke}
use Rattle.outline.specs.declared.transform_pen.TransformPen.{TransformPen}
use Rattle.outline.specs.Points.{mapped}

-- A stroke with each of its points taken where the matrix takes it.
abbrev pub moved : Matrix → Stroke → Stroke
moved m = mapped (λ x y. (at_x m x y, at_y m x y))

-- The inner pen takes the step of the transformed stroke. Where it lies, who lent it and the matrix stay.
abbrev pub through : {P : Type 0} → (P → Stroke → P) → TransformPen P → Stroke → TransformPen P
through step t k = record { pen = record { ref_ptr = t.pen.ref_ptr; ghost_name = t.pen.ghost_name; now = step t.pen.now (moved t.matrix k) }; matrix = t.matrix }
