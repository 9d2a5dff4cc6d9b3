-- Not found by the check alone.
use Rattle.std.proofs.Common.{rules}
use Rattle.table_font.specs.Rows.{glyph_row}
use Rattle.table_font.proofs.RowsRead.{values_some}
use Rattle.table_font.proofs.tables.Tables.component_values.Goals as goal

pub returns : goal.returns
returns c = let t = c.args.self.now in values_some t.components.now t.values.now (glyph_row t c.args.id.0) c.args.i c.in_ok-component_row.field-0 _ (search rules) c.axis_values.ensures
