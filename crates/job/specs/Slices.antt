-- Which of a job's vectors stand behind which slice of its font and store.
use Rattle.std.specs.Prelude.{◌≡◌, vec_items}
use Rattle.std.specs.Option.{unwrap_or}
use Rattle.directory.specs.declared.numbers.Rows.{Rows}
use Rattle.directory.specs.Rising.{rising}
use Rattle.table_font.specs.declared.tables.Tables.{Tables}
use Rattle.store.specs.declared.table.StrokeStore.{StrokeStore}
use Rattle.job.specs.declared.jobs.Job.{Job}
use Rattle.job.specs.declared.tables.OwnRows.{OwnRows}
use Rattle.job.specs.declared.tables.JobTables.{JobTables}

-- the numbers, up to where they stop rising, and the rows beside them
pub record Lent {X : Type 0} (own : OwnRows X) (r : Rows X) : Type 0 where
  pub numbers : r.numbers.numbers.now ≡ rising (vec_items own.ids)
  pub rows : r.rows.now ≡ vec_items own.rows

pub record FontSlices (t : JobTables) (job : Job) (r : Tables) : Type 0 where
  pub glyphs : Lent t.glyphs r.glyphs
  pub components : r.components.now ≡ vec_items job.components
  pub values : r.values.now ≡ vec_items job.values
  pub conditions : Lent t.conditions r.conditions
  pub steps : r.steps.now ≡ vec_items job.steps
  pub lists : Lent t.lists r.lists
  pub list_axes : r.list_axes.now ≡ vec_items job.list_axes
  pub regions : Lent t.regions r.regions
  pub region_axes : r.region_axes.now ≡ vec_items job.region_axes
  pub sets : Lent t.sets r.sets
  pub set_regions : r.set_regions.now ≡ vec_items job.set_regions
  pub deltas : r.deltas.now ≡ vec_items job.deltas

pub record StoreSlices (t : JobTables) (job : Job) (r : StrokeStore) : Type 0 where
  pub upem : r.units_per_em ≡ unwrap_or job.upem 1000
  pub outlines : Lent t.outlines r.outlines
  pub strokes : r.strokes.now ≡ vec_items job.strokes
  pub widths : Lent t.widths r.widths
