-- The worked sample: outline 5, placed by glyph 10 inside glyph 20, and its tape.
use Rattle.std.specs.Prelude.{◌≡◌, ℕ, List, [], ◌∷◌, map, codes, from_bits, Float}
use Rattle.std.specs.Float.{binary32}
use Rattle.matrices.specs.declared.affine.Matrix.{Matrix}
use Rattle.matrices.specs.declared.decomposed.DecomposedTransform.{DecomposedTransform}
use Rattle.matrices.specs.Affine.{times, identity}
use Rattle.matrices.specs.Decomposed.{matrix_of}
use Rattle.outline.specs.declared.strokes.Stroke.{Stroke}
use Rattle.outline.specs.declared.strokes.Stroke.TheVariants.{Move, Line, Close}
use Rattle.outline.specs.Through.{moved}
use Rattle.tape.specs.Taped.{tape}
use Rattle.tape_text.specs.Spelling.{text}

-- 0, 1, 2, 30, 50 and 100 as f32
abbrev pub n0 : Float
n0 = from_bits binary32 0

abbrev pub n1 : Float
n1 = from_bits binary32 0x3f80_0000

abbrev pub n2 : Float
n2 = from_bits binary32 0x4000_0000

abbrev pub n30 : Float
n30 = from_bits binary32 0x41f0_0000

abbrev pub n50 : Float
n50 = from_bits binary32 0x4248_0000

abbrev pub n100 : Float
n100 = from_bits binary32 0x42c8_0000

abbrev pub outline : List Stroke
outline = Move n0 n0 ∷ Line n50 n0 ∷ Close ∷ []

-- moved by (x, y) and scaled by s
abbrev pub placed : Float → Float → Float → DecomposedTransform
placed x y s = record {
  translate_x = x;
  translate_y = y;
  rotation = n0;
  scale_x = s;
  scale_y = s;
  skew_x = n0;
  skew_y = n0;
  center_x = n0;
  center_y = n0;
}

abbrev pub matrix : Matrix
matrix = times (times identity (matrix_of (placed n0 n30 n2))) (matrix_of (placed n100 n0 n1))

-- the outline as that matrix moves it
abbrev pub drawing : List Stroke
drawing = map (moved matrix) outline

-- the line that a program writes of its tape
abbrev pub line : List ℕ
line = codes "01 43480000 41F00000 02 43960000 41F00000 05"

-- A tape of 19 bytes is just long enough, and its text is that line.
abbrev pub Stands : Type 0
Stands =
    (tape 19 drawing ≡ (1 ∷ 0x43 ∷ 0x48 ∷ 0 ∷ 0 ∷ 0x41 ∷ 0xf0 ∷ 0 ∷ 0 ∷ 2 ∷ 0x43 ∷ 0x96 ∷ 0 ∷ 0 ∷ 0x41 ∷ 0xf0 ∷ 0 ∷ 0 ∷ 5 ∷ []))
    × (text (tape 19 drawing) ≡ line)
