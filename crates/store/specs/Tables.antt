-- What a stroke store's slices mean. A stroke list past its maximum or its slice is missing.
use Rattle.std.specs.Prelude.{ℕ, List, map, ℤ, pos, Some, None, Ok, Err, Option, Result}
use Rattle.std.specs.Option.{unwrap_or}
use Rattle.directory.specs.Places.{row_of}
use Rattle.directory.specs.Parts.{part_of}
use Rattle.numbers.specs.declared.fixed.F2Dot14.{F2Dot14}
use Rattle.numbers.specs.Scales.{scale}
use Rattle.outline.specs.declared.strokes.Stroke.{Stroke}
use Rattle.store.specs.declared.faults.OutlineFault.{OutlineFault}
use Rattle.store.specs.declared.table.OutlineRow.{OutlineRow}
use Rattle.store.specs.declared.table.StrokeStore.{StrokeStore}
use Rattle.store.specs.Replies.{OutlineReply, missing, inked}
use Rattle.outline.specs.Scaled.{scaled}

-- how an outline ends
abbrev pub ending : Option OutlineFault → Result (Unit {0}) OutlineFault
ending None = Ok tt
ending (Some fault) = Err fault

-- the reply of a row: its strokes at every location and style alike, each coordinate times the scale
abbrev pub reply_in : ℕ → OutlineRow → Option (List Stroke) → OutlineReply
reply_in upem row None = missing
reply_in upem row (Some ks) = inked row.need (λ location size style. record { strokes = map (scaled (scale size.0 upem)) ks; ends = ending row.fault })

abbrev pub of_row : ℕ → List Stroke → Option OutlineRow → OutlineReply
of_row upem ks None = missing
of_row upem ks (Some row) = reply_in upem row (part_of ks row.strokes 65535)

abbrev pub outline_in : StrokeStore → ℕ → OutlineReply
outline_in s g = of_row s.units_per_em s.strokes.now (row_of s.outlines g)

-- a glyph without a width has width 0
abbrev pub width_in : StrokeStore → ℕ → List F2Dot14 → ℤ
width_in s g location = unwrap_or (row_of s.widths g) (pos 0)
