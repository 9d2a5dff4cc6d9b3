-- What an outline store replies.
use Rattle.std.specs.Prelude.{ℕ, ◌≤◌, List, [], length, Some, None, Err, Option, Result}
use Rattle.numbers.specs.declared.fixed.F2Dot14.{F2Dot14}
use Rattle.numbers.specs.declared.sizes.Size.{Size}
use Rattle.outline.specs.declared.strokes.Stroke.{Stroke}
use Rattle.outline.specs.declared.strokes.PathStyle.{PathStyle}
use Rattle.store.specs.declared.faults.OutlineFault.{OutlineFault}

-- the strokes of an outline, and whether they end well or in a fault
pub record Outcome : Type 0 where
  pub strokes : List Stroke
  pub ends : Result (Unit {0}) OutlineFault

-- an outline is missing, or has a need in bytes and strokes at each location, size and style
pub data OutlineReply : Type 0 where
  missing : OutlineReply
  inked : ℕ → (List F2Dot14 → Size → PathStyle → Outcome) → OutlineReply

abbrev pub need_of : OutlineReply → Option ℕ
need_of missing = None
need_of (inked need draw) = Some need

-- of a missing outline nothing is drawn, and that ends in fault 0
abbrev pub outcome : OutlineReply → List F2Dot14 → Size → PathStyle → Outcome
outcome missing location size style = record { strokes = []; ends = Err (record { 0 = 0 }) }
outcome (inked need draw) location size style = draw location size style

-- no outline has more than 65,535 strokes
abbrev pub Short : (ℕ → OutlineReply) → Type 0
Short outlines = (g : ℕ) (location : List F2Dot14) (size : Size) (style : PathStyle) → length (outcome (outlines g) location size style).strokes ≤ 65535
