-- Where a number stands.
use Rattle.std.specs.Prelude.{ℕ, suc, cond, List, [], ◌∷◌, Some, None, Option, ◌==◌}
use Rattle.std.specs.List.{slice_get}
use Rattle.std.specs.Option.{option_map}
use Rattle.directory.specs.declared.numbers.Rows.{Rows}

-- The first place of n, counted from 0, or none.
abbrev pub place_of : List ℕ → ℕ → Option ℕ
place_of [] n = None
place_of (x ∷ xs) n = cond (x == n) (Some 0) (option_map suc (place_of xs n))

-- The row at a place, or none where there is no place or no such row.
abbrev pub row_at : {X : Type 0} → List X → Option ℕ → Option X
row_at xs None = None
row_at xs (Some i) = slice_get xs i

-- The row beside a number.
abbrev pub row_of : {X : Type 0} → Rows X → ℕ → Option X
row_of t n = row_at t.rows.now (place_of t.numbers.numbers.now n)
