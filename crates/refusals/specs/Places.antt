-- A refusal at a place, or outside the walk.
use Rattle.std.specs.Prelude.{Option}
use Rattle.refusals.specs.declared.errors.DrawError.{DrawError}
use Rattle.refusals.specs.declared.places.Place.{Place}
use Rattle.refusals.specs.declared.places.Refusal.{Refusal}

abbrev pub refused : DrawError → Option Place → Refusal
refused e p = record { error = e; place = p }
