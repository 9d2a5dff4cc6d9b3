-- Matrices of two rows and three columns, over f32. Every product and every sum rounds once, sums from the left.
use Rattle.std.specs.Prelude.{from_bits, Float}
use Rattle.std.specs.Float.{binary32}
use Rattle.std.specs.Float.Ieee.{add, mul, neg}
use Rattle.numbers.specs.Turns.{cos_sin, tan}
use Rattle.matrices.specs.declared.affine.Matrix.{Matrix}

abbrev pub nought : Float
nought = from_bits binary32 0

abbrev pub one : Float
one = from_bits binary32 0x3f800000

-- a × b + c × d
abbrev pub dot : Float → Float → Float → Float → Float
dot a b c d = add binary32 (mul binary32 a b) (mul binary32 c d)

-- where m takes the point (x, y)
abbrev pub at_x : Matrix → Float → Float → Float
at_x m x y = add binary32 (dot m.xx x m.xy y) m.dx

abbrev pub at_y : Matrix → Float → Float → Float
at_y m x y = add binary32 (dot m.yx x m.yy y) m.dy

-- the product p · c, which does c first
abbrev pub times : Matrix → Matrix → Matrix
times p c = record {
  xx = dot p.xx c.xx p.xy c.yx;
  yx = dot p.yx c.xx p.yy c.yx;
  xy = dot p.xx c.xy p.xy c.yy;
  yy = dot p.yx c.xy p.yy c.yy;
  dx = at_x p c.dx c.dy;
  dy = at_y p c.dx c.dy;
}

abbrev pub identity : Matrix
identity = record { xx = one; yx = nought; xy = nought; yy = one; dx = nought; dy = nought }

abbrev pub moving : Float → Float → Matrix
moving x y = record { xx = one; yx = nought; xy = nought; yy = one; dx = x; dy = y }

-- by r half-turns
abbrev pub turning : Float → Matrix
turning r = record { xx = (cos_sin r).cos; yx = (cos_sin r).sin; xy = neg (cos_sin r).sin; yy = (cos_sin r).cos; dx = nought; dy = nought }

abbrev pub scaling : Float → Float → Matrix
scaling x y = record { xx = x; yx = nought; xy = nought; yy = y; dx = nought; dy = nought }

-- by x and y half-turns; a positive x leans to the left
abbrev pub skewing : Float → Float → Matrix
skewing x y = record { xx = one; yx = tan y; xy = tan (neg x); yy = one; dx = nought; dy = nought }
