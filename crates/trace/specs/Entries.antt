-- The entries of a reading list, and lists of them.
use Rattle.std.specs.Prelude.{◌≡◌, ℕ, Bool, false, cond, ◌&&◌, ◌||◌, List, [], ◌∷◌, ◌==◌}
use Rattle.trace.specs.declared.entries.Entry.{Entry}
use Rattle.trace.specs.declared.entries.Entry.TheVariants.{Glyph, Condition, AxisList, Region, DeltaSet, Outline, Width}

-- G C L R D O W, as character codes
abbrev pub letter : Entry → ℕ
letter (Glyph g) = 71
letter (Condition n) = 67
letter (AxisList n) = 76
letter (Region n) = 82
letter (DeltaSet n) = 68
letter (Outline g) = 79
letter (Width g) = 87

abbrev pub number : Entry → ℕ
number (Glyph g) = g.0
number (Condition n) = n
number (AxisList n) = n
number (Region n) = n
number (DeltaSet n) = n
number (Outline g) = g.0
number (Width g) = g.0

-- Two entries are one where letter and number are the same.
abbrev pub same : Entry → Entry → Bool
same a b = letter a == letter b && number a == number b

-- whether an entry stands in a list
abbrev pub has : List Entry → Entry → Bool
has [] e = false
has (x ∷ l) e = same x e || has l e

-- no entry stands twice
abbrev pub Once : List Entry → Type 0
Once [] = Unit {0}
Once (e ∷ l) = (has l e ≡ false) × Once l

-- a list less every place where e stands
abbrev pub without : Entry → List Entry → List Entry
without e [] = []
without e (x ∷ l) = cond (same e x) (without e l) (x ∷ without e l)

-- each entry of a list only where it first stands
abbrev pub firsts : List Entry → List Entry
firsts [] = []
firsts (e ∷ l) = e ∷ without e (firsts l)
