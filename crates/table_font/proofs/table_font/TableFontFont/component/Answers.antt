-- Not found by the check alone.
use Rattle.std.proofs.Common.{rules}
use Rattle.table_font.specs.Rows.{glyph_row}
use Rattle.table_font.proofs.RowsRead.{component_some}
use Rattle.table_font.proofs.table_font.TableFontFont.component.Goals as goal

pub returns : goal.returns
returns c = let t = c.args.self.now.tables in component_some t.components.now t.values.now (glyph_row t c.args.id.0) c.args.i c.in_ok-row.row (search rules)
