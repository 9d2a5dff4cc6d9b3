-- What an open tracer holds, and what consulting through it comes to.
use Rattle.std.specs.Prelude.{◌≡◌, ℕ, List, take, Ok, Err, Option, Result}
use Rattle.refusals.specs.declared.errors.DrawError.TheVariants.{ListFull}
use Rattle.refusals.specs.declared.places.Place.{Place}
use Rattle.refusals.specs.declared.places.Refusal.{Refusal}
use Rattle.refusals.specs.Places.{refused}
use Rattle.trace.specs.declared.entries.Entry.{Entry}
use Rattle.trace.specs.declared.tracer.Tracer.{Tracer}
use Rattle.trace.specs.Meanings.{Reply}
use Rattle.trace.specs.Asks.{Kept, no_room, keeps, run, listing, question}

-- the reading list
abbrev pub reading : Tracer → List Entry
reading t = take t.len t.entries.now

-- what no consulting changes
pub record Steady (s t : Tracer) : Type 0 where
  pub limits : t.limits ≡ s.limits
  pub size : t.size ≡ s.size

-- A note found room, or did not, and then it is refused with the place and the list is left.
abbrev pub NotedAs : Option Place → Kept → List Entry → List Entry → Result (Unit {0}) Refusal → Type 0
NotedAs p kept es es' (Ok u) = kept ≡ keeps es'
NotedAs p kept es es' (Err r) = (kept ≡ no_room) × (r ≡ refused ListFull p) × (es' ≡ es)

-- an answer, of which code reads a piece
abbrev pub piece_told : {X Y : Type 0} → (X → Y) → Result X Refusal → Result Y Refusal
piece_told piece (Ok x) = Ok (piece x)
piece_told piece (Err r) = Err r

-- Consulting one record is the listed run of its question: the list after it, and the answer, of which a piece is told.
pub record Consulted {X : Type 0} (n : ℕ) (reply : (e : Entry) → Reply e) (p : Option Place) (e : Entry) (piece : Reply e → X) (es es' : List Entry) (r : Result X Refusal) : Type 0 where
  pub list : es' ≡ (run (listing n) reply (question p e) es).kept
  pub answer : r ≡ piece_told piece (run (listing n) reply (question p e) es).answer
