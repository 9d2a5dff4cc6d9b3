-- The code of each stroke, and how many coordinates follow it.
use Rattle.std.specs.Prelude.{◌≡◌, ◌≢◌, ℕ, List, ◌++◌, codes, decimal, Result, MatchResult}
use Rattle.tape.specs.declared.codes.StrokeCode.{StrokeCode}
use Rattle.tape.specs.declared.codes.StrokeCode.TheVariants.{Move, Line, Quad, Curve, Close}
use Rattle.tape.specs.declared.codes.UnknownCode.{UnknownCode}

-- the byte that stands for a stroke
abbrev pub code_of : StrokeCode → ℕ
code_of Move = 1
code_of Line = 2
code_of Quad = 3
code_of Curve = 4
code_of Close = 5

-- the coordinates of its points, control points among them
abbrev pub coordinates : StrokeCode → ℕ
coordinates Move = 2
coordinates Line = 2
coordinates Quad = 4
coordinates Curve = 6
coordinates Close = 0

-- a byte is read as the stroke with this code, or is refused where no stroke has it
abbrev pub Decodes : ℕ → Result StrokeCode UnknownCode → Type 0
Decodes byte r = MatchResult r (λ stroke. code_of stroke ≡ byte) (λ unknown. (unknown.0 ≡ byte) × ((stroke : StrokeCode) → code_of stroke ≢ byte))

abbrev pub unknown_text : UnknownCode → List ℕ
unknown_text unknown = codes "no stroke has code " ++ decimal unknown.0
