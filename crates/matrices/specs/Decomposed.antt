-- The matrix of a decomposed transform.
use Rattle.std.specs.Float.{binary32}
use Rattle.std.specs.Float.Ieee.{add, neg}
use Rattle.matrices.specs.declared.affine.Matrix.{Matrix}
use Rattle.matrices.specs.declared.decomposed.DecomposedTransform.{DecomposedTransform}
use Rattle.matrices.specs.Affine.{times, moving, turning, scaling, skewing}

-- to the centre's new place
abbrev pub arriving : DecomposedTransform → Matrix
arriving t = moving (add binary32 t.translate_x t.center_x) (add binary32 t.translate_y t.center_y)

-- from the centre's old place
abbrev pub leaving : DecomposedTransform → Matrix
leaving t = moving (neg t.center_x) (neg t.center_y)

-- move(translate + centre) · turn · scale · skew · move(−centre), multiplied from the left
abbrev pub matrix_of : DecomposedTransform → Matrix
matrix_of t = times (times (times (times (arriving t) (turning t.rotation)) (scaling t.scale_x t.scale_y)) (skewing t.skew_x t.skew_y)) (leaving t)
