-- The rows of a job's maps, in the order of their numbers.
use Rattle.std.specs.Prelude.{◌≡◌, ℕ, vec_items}
use Rattle.std.specs.BTreeMap.{keys, values}
use Rattle.std.specs.BTreeMap.{BTreeMap}
use Rattle.job.specs.declared.jobs.Job.{Job}
use Rattle.job.specs.declared.tables.OwnRows.{OwnRows}
use Rattle.job.specs.declared.tables.JobTables.{JobTables}

pub record RowsOf {X : Type 0} (m : BTreeMap ℕ X) (rows : OwnRows X) : Type 0 where
  pub ids : vec_items rows.ids ≡ keys m
  pub row : vec_items rows.rows ≡ values m

pub record JobRows (job : Job) (t : JobTables) : Type 0 where
  pub glyphs : RowsOf job.glyphs t.glyphs
  pub conditions : RowsOf job.conditions t.conditions
  pub lists : RowsOf job.lists t.lists
  pub regions : RowsOf job.regions t.regions
  pub sets : RowsOf job.sets t.sets
  pub outlines : RowsOf job.outlines t.outlines
  pub widths : RowsOf job.widths t.widths
