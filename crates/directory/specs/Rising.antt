-- Numbers in rising order.
use Rattle.std.specs.Prelude.{ℕ, ◌<◌, cond, List, [], ◌∷◌, length, nat_lt, slice_index}

-- Each number is above all before it.
abbrev pub Rises : List ℕ → Type 0
Rises xs = (i j : ℕ) → i < j → j < length xs → slice_index xs i < slice_index xs j

-- the numbers above x, up to where they stop rising
abbrev pub rising_from : ℕ → List ℕ → List ℕ
rising_from x [] = []
rising_from x (y ∷ ys) = cond (nat_lt x y) (y ∷ rising_from y ys) []

-- Numbers up to where they stop rising.
abbrev pub rising : List ℕ → List ℕ
rising [] = []
rising (x ∷ xs) = x ∷ rising_from x xs
