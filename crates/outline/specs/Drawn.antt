-- A pen after a list of strokes.
use Rattle.std.specs.Prelude.{List, [], ◌∷◌}
use Rattle.outline.specs.declared.strokes.Stroke.{Stroke}

-- Each stroke in turn by the pen's step.
abbrev pub drawn : {P : Type 0} → (P → Stroke → P) → P → List Stroke → P
drawn step p [] = p
drawn step p (k ∷ ks) = drawn step (step p k) ks
