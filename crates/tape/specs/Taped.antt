-- A whole tape: which strokes it holds, and how many it does not.
use Rattle.std.specs.Prelude.{◌≡◌, ℕ, ◌+◌, ◌-◌, ◌%◌, ◌^◌, ◌≤◌, cond, List, [], ◌∷◌, ◌++◌, length, drop, nat_le}
use Rattle.std.specs.List.{flat_map}
use Rattle.outline.specs.declared.strokes.Stroke.{Stroke}
use Rattle.tape.specs.Tape.{code}

-- The first strokes of a list, up to the one that does not fit: there are size bytes, and a stroke starts at place i.
abbrev pub fitting : ℕ → ℕ → List Stroke → List Stroke
fitting size i [] = []
fitting size i (k ∷ ks) = cond (nat_le (i + length (code k)) size) (k ∷ fitting size (i + length (code k)) ks) []

-- The bytes that a tape of this size has of the strokes.
abbrev pub tape : ℕ → List Stroke → List ℕ
tape size ks = flat_map code (fitting size 0 ks)

-- Strokes taped into lent memory: their bytes stand at its start, the bytes past them are left alone, and the strokes from the first that does not fit on are counted, modulo 2 to the 64th.
pub record Taped (ks : List Stroke) (before after : List ℕ) (len missed : ℕ) : Type 0 where
  pub bytes : after ≡ tape (length before) ks ++ drop (length (tape (length before) ks)) before
  pub written : len ≡ length (tape (length before) ks)
  pub within : len ≤ length before
  pub counted : missed ≡ (length ks - length (fitting (length before) 0 ks)) % 2 ^ 64
