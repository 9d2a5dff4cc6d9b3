-- Which heads are in range.
use Rattle.std.specs.Prelude.{◌≡◌, ◌<◌, Ok, Err, Result}
use Rattle.refusals.specs.declared.errors.DrawError.{DrawError}
use Rattle.refusals.specs.declared.errors.DrawError.TheVariants.{LimitsOutOfRange}
use Rattle.font.specs.declared.heads.Head.{Head}
use Rattle.table_font.specs.declared.table.CheckedHead.{CheckedHead}

-- A head with at most 64 axes is that head; any other is refused.
abbrev pub HeadChecked : Head → Result CheckedHead DrawError → Type 0
HeadChecked h (Ok c) = c.head ≡ h
HeadChecked h (Err e) = (64 < h.axis_count) × (e ≡ LimitsOutOfRange)
