-- Bits of a component's flags.
use Rattle.std.specs.Prelude.{ℕ, ◌^◌, Bool, List, [], ◌∷◌, map, ◌==◌, bit_and}

-- all bits of the second are set in the first
abbrev pub contains : ℕ → ℕ → Bool
contains a b = bit_and a b == b

-- reset unspecified axes, have axes, translate x and y, rotation, scale x and y, centre x and y, skew x and y
abbrev pub flag_bits : List ℕ
flag_bits = map (λ k. 2 ^ k) (0 ∷ 1 ∷ 4 ∷ 5 ∷ 6 ∷ 8 ∷ 9 ∷ 10 ∷ 11 ∷ 13 ∷ 14 ∷ [])
