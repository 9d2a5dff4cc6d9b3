-- Which limits are in range.
use Rattle.std.specs.Prelude.{◌≡◌, ℕ, ◌≤◌, Ok, Err, Result}
use Rattle.refusals.specs.declared.errors.DrawError.{DrawError}
use Rattle.refusals.specs.declared.errors.DrawError.TheVariants.{LimitsOutOfRange}
use Rattle.trace.specs.declared.limits.Limits.{Limits}

-- a depth of 1 to 64, 1 to 4,096 edges, a list of at most 1,024 entries
pub record InRange (depth edges entries : ℕ) : Type 0 where
  pub deep : 1 ≤ depth
  pub shallow : depth ≤ 64
  pub some : 1 ≤ edges
  pub few : edges ≤ 4096
  pub short : entries ≤ 1024

-- Numbers in range are the limits; others are refused.
abbrev pub LimitsChecked : ℕ → ℕ → ℕ → Result Limits DrawError → Type 0
LimitsChecked depth edges entries (Ok l) = (l.depth ≡ depth) × (l.edges ≡ edges) × (l.entries ≡ entries)
LimitsChecked depth edges entries (Err e) = (InRange depth edges entries → ⊥) × (e ≡ LimitsOutOfRange)
