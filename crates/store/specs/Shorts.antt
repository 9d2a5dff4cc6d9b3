-- A stroke store's outlines are within their maximum.
use Rattle.std.specs.Prelude.{◌≡◌, ℕ, ◌+◌, ◌≤◌, Bool, true, false, cond, ◌&&◌, List, length, take, drop, Some, None, Option, nat_le, refl}
use Rattle.std.proofs.Common.{zero-le, arith, length-take, leb-true}
use Rattle.std.proofs.lemmas.List.{length-map}
use Rattle.numbers.specs.declared.fixed.F2Dot14.{F2Dot14}
use Rattle.numbers.specs.declared.sizes.Size.{Size}
use Rattle.outline.specs.declared.strokes.Stroke.{Stroke}
use Rattle.outline.specs.declared.strokes.PathStyle.{PathStyle}
use Rattle.directory.specs.declared.items.Span.{Span}
use Rattle.directory.specs.Places.{row_of}
use Rattle.store.specs.declared.table.OutlineRow.{OutlineRow}
use Rattle.store.specs.declared.table.StrokeStore.{StrokeStore}
use Rattle.store.specs.Replies.{outcome, Short}
use Rattle.store.specs.Tables.{reply_in, of_row, outline_in}

part_short : (upem : ℕ) (row : OutlineRow) (ks : List Stroke) (span : Span) (b c : Bool) → nat_le span.count 65535 ≡ b → (location : List F2Dot14) (size : Size) (style : PathStyle)
    → length (outcome (reply_in upem row (cond (b && c) (Some (take span.count (drop span.start ks))) None)) location size style).strokes ≤ 65535
part_short upem row ks span true true h location size style =
    simp (length-map, length-take) (omega (arith, leb-true span.count 65535 h))
part_short upem row ks span true false h location size style = zero-le
part_short upem row ks span false c h location size style = zero-le

row_short : (upem : ℕ) (ks : List Stroke) (row : Option OutlineRow) (location : List F2Dot14) (size : Size) (style : PathStyle) → length (outcome (of_row upem ks row) location size style).strokes ≤ 65535
row_short upem ks None location size style = zero-le
row_short upem ks (Some row) location size style =
    part_short upem row ks row.strokes (nat_le row.strokes.count 65535) (nat_le (row.strokes.start + row.strokes.count) (length ks)) refl location size style

pub short_in : (s : StrokeStore) → Short (outline_in s)
short_in s g location size style = row_short s.units_per_em s.strokes.now (row_of s.outlines g) location size style
