-- Components read from their rows.
use Rattle.std.proofs.Common.{◌≡◌, ℕ, zero, suc, List, [], ◌∷◌, map, ℤ, Some, None, Option, sym, refl, ap, ◌∙◌}
use Rattle.std.specs.List.{slice_get}
use Rattle.std.specs.Option.{option_map}
use Rattle.font.specs.Replies.{parts, fixed_part, part_values, values_at}
use Rattle.table_font.specs.declared.tables.GlyphRow.{GlyphRow}
use Rattle.table_font.specs.declared.tables.ComponentRow.{ComponentRow}
use Rattle.table_font.specs.Rows.{clipped, values_in, read_part, rows_of, of_glyph}

read_nth : (vs : List ℤ) (rows : List ComponentRow) (i : ℕ) → slice_get (map (read_part vs) rows) i ≡ option_map (read_part vs) (slice_get rows i)
read_nth vs [] i = refl
read_nth vs (row ∷ rows) zero = refl
read_nth vs (row ∷ rows) (suc i) = read_nth vs rows i

-- a component of the reply is one of the rows, read
glyph_nth : (rows : List ComponentRow) (vs : List ℤ) (o : Option GlyphRow) (i : ℕ) → slice_get (parts (of_glyph rows vs o)) i ≡ option_map (read_part vs) (slice_get (rows_of rows o) i)
glyph_nth rows vs None i = refl
glyph_nth rows vs (Some row) i = read_nth vs (clipped rows row.components) i

module _ (rows : List ComponentRow) (vs : List ℤ) (o : Option GlyphRow) (i : ℕ) where
  pub component_some : (row : ComponentRow) → Some row ≡ slice_get (rows_of rows o) i → Some row.component ≡ fixed_part (slice_get (parts (of_glyph rows vs o)) i)
  component_some row h = sym (ap fixed_part (glyph_nth rows vs o i ∙ ap (option_map (read_part vs)) (sym h)))

  pub values_some : (row : ComponentRow) (x : Option (List ℤ)) → Some row ≡ slice_get (rows_of rows o) i → x ≡ values_in vs row.values → x ≡ values_at (of_glyph rows vs o) i
  values_some row x h e = e ∙ sym (ap part_values (glyph_nth rows vs o i ∙ ap (option_map (read_part vs)) (sym h)))
