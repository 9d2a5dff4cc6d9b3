-- A tape as text: a code is a group, each coordinate is a group, and one space stands between two groups.
use Rattle.std.specs.Prelude.{ℕ, ◌-◌, ◌%◌, cond, not, ◌&&◌, ◌||◌, List, [], ◌∷◌, ◌++◌, length, ◌==◌}
use Rattle.tape_text.specs.Hex.{pair}

-- how many bytes of coordinates follow a code: two coordinates after a move or a line, four after a quad, six after a curve
abbrev pub following : ℕ → ℕ
following code = cond (code == 1 || code == 2) 8 (cond (code == 3) 16 (cond (code == 4) 24 0))

-- with `left` bytes of coordinates still to come, a byte begins a group; a space goes before it unless it is the first of all
abbrev pub gap : List ℕ → ℕ → List ℕ
gap text left = cond (left % 4 == 0 && not (length text == 0)) (32 ∷ []) []

abbrev pub longer : List ℕ → ℕ → ℕ → List ℕ
longer text left b = (text ++ gap text left) ++ pair b

-- how many are to come after this byte
abbrev pub next : ℕ → ℕ → ℕ
next left b = cond (left == 0) (following b) (left - 1)

abbrev pub spelled : List ℕ → ℕ → List ℕ → List ℕ
spelled text left [] = text
spelled text left (b ∷ bs) = spelled (longer text left b) (next left b) bs

abbrev pub text : List ℕ → List ℕ
text tape = spelled [] 0 tape
