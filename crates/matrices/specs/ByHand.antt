-- Values of the definitions that a reader can check by hand.
use Rattle.std.specs.Prelude.{◌≡◌, ℕ, pos, Float}
use Rattle.std.specs.Float.{binary32}
use Rattle.std.specs.Float.Ieee.{of_int}
use Rattle.matrices.specs.declared.affine.Matrix.{Matrix}
use Rattle.matrices.specs.declared.decomposed.DecomposedTransform.{DecomposedTransform}
use Rattle.matrices.specs.Affine.{at_x, at_y, times, identity, moving}
use Rattle.matrices.specs.Decomposed.{matrix_of}

abbrev pub whole : ℕ → Float
whole n = of_int binary32 (pos n)

abbrev pub matrix : ℕ → ℕ → ℕ → ℕ → ℕ → ℕ → Matrix
matrix xx yx xy yy dx dy = record { xx = whole xx; yx = whole yx; xy = whole xy; yy = whole yy; dx = whole dx; dy = whole dy }

-- no turn, no skew and no centre: a move, and the same scale along both axes
abbrev pub placed : ℕ → ℕ → ℕ → DecomposedTransform
placed x y s = record {
  translate_x = whole x;
  translate_y = whole y;
  rotation = whole 0;
  scale_x = whole s;
  scale_y = whole s;
  skew_x = whole 0;
  skew_y = whole 0;
  center_x = whole 0;
  center_y = whole 0;
}

-- A product by rows and columns, and the same point through it and through its factors.
abbrev pub Products : Type 0
Products =
    (times (matrix 1 2 3 4 5 6) (matrix 7 8 9 10 11 12) ≡ matrix 31 46 39 58 52 76)
    × (at_x (matrix 31 46 39 58 52 76) (whole 1) (whole 2) ≡ whole 161)
    × (at_y (matrix 31 46 39 58 52 76) (whole 1) (whole 2) ≡ whole 238)
    × (at_x (matrix 1 2 3 4 5 6) (whole 36) (whole 40) ≡ whole 161)

-- Moved by 100 inside a scale by 2 and a move by 30: a point at 50 comes to 300, 30.
abbrev pub Sample : Type 0
Sample =
    (matrix_of (placed 100 0 1) ≡ moving (whole 100) (whole 0))
    × (matrix_of (placed 0 30 2) ≡ matrix 2 0 0 2 0 30)
    × (times (times identity (matrix_of (placed 0 30 2))) (matrix_of (placed 100 0 1)) ≡ matrix 2 0 0 2 200 30)
    × (at_x (matrix 2 0 0 2 200 30) (whole 50) (whole 0) ≡ whole 300)
    × (at_y (matrix 2 0 0 2 200 30) (whole 50) (whole 0) ≡ whole 30)

abbrev pub ByHand : Type 0
ByHand = Products × Sample
