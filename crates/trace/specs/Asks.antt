-- A drawing as the questions that it asks. What it does next depends on the replies alone.
use Rattle.std.specs.Prelude.{ℕ, cond, List, [], ◌∷◌, ◌++◌, length, Ok, Err, Option, Result, nat_lt}
use Rattle.outline.specs.declared.strokes.Stroke.{Stroke}
use Rattle.refusals.specs.declared.errors.DrawError.TheVariants.{ListFull}
use Rattle.refusals.specs.declared.places.Place.{Place}
use Rattle.refusals.specs.declared.places.Refusal.{Refusal}
use Rattle.refusals.specs.Places.{refused}
use Rattle.trace.specs.declared.entries.Entry.{Entry}
use Rattle.trace.specs.Entries.{has, firsts}
use Rattle.trace.specs.Meanings.{Reply}

-- It answers, is refused, asks for a record from some place of the walk and goes on with the reply, or hands a stroke to the pen and goes on.
pub data Asks (A : Type 0) : Type 0 where
  done : A → Asks A
  refuse : Refusal → Asks A
  ask : Option Place → (e : Entry) → (Reply e → Asks A) → Asks A
  ink : Stroke → Asks A → Asks A

-- the question for one record
abbrev pub question : Option Place → (e : Entry) → Asks (Reply e)
question p e = ask p e (λ r. done r)

-- ---- keeping the entries

-- What keeping an entry comes to: no room, or the entries kept then.
pub data Kept : Type 0 where
  no_room : Kept
  keeps : List Entry → Kept

-- In a list of at most n entries: sought, and appended if it is not there.
abbrev pub listing : ℕ → List Entry → Entry → Kept
listing n es e = cond (has es e) (keeps es) (cond (nat_lt (length es) n) (keeps (es ++ (e ∷ []))) no_room)

-- In a log with repeats: an entry that is not there has no room exactly when the log has n different ones.
abbrev pub logging : ℕ → List Entry → Entry → Kept
logging n es e = cond (has es e) (keeps (es ++ (e ∷ []))) (cond (nat_lt (length (firsts es)) n) (keeps (es ++ (e ∷ []))) no_room)

-- ---- one call

-- A call that was carried out: its answer or refusal, its strokes in order, and the entries kept by then.
pub record Ran (A : Type 0) : Type 0 where
  pub answer : Result A Refusal
  pub strokes : List Stroke
  pub kept : List Entry

abbrev pub ran : {A : Type 0} → Result A Refusal → List Entry → Ran A
ran r es = record { answer = r; strokes = []; kept = es }

abbrev pub inked : {A : Type 0} → Stroke → Ran A → Ran A
inked s r = record { answer = r.answer; strokes = s ∷ r.strokes; kept = r.kept }

-- A question whose entry has no room is refused with its place, and nothing is consulted.
abbrev pub asked : {A : Type 0} → Option Place → List Entry → (List Entry → Ran A) → Kept → Ran A
asked p es go no_room = ran (Err (refused ListFull p)) es
asked p es go (keeps es') = go es'

-- A drawing over replies, from the entries kept before.
abbrev pub run : {A : Type 0} → (List Entry → Entry → Kept) → ((e : Entry) → Reply e) → Asks A → List Entry → Ran A
run keep reply (done a) es = ran (Ok a) es
run keep reply (refuse r) es = ran (Err r) es
run keep reply (ask p e k) es = asked p es (λ es'. run keep reply (k (reply e)) es') (keep es e)
run keep reply (ink s t) es = inked s (run keep reply t es)

-- ---- calls in a row

-- what a caller sees of a call
pub record Shown (A : Type 0) : Type 0 where
  pub answer : Result A Refusal
  pub strokes : List Stroke

abbrev pub shown : {A : Type 0} → Ran A → Shown A
shown r = record { answer = r.answer; strokes = r.strokes }

-- what each call shows, and the entries kept at the end
pub record Runs (A : Type 0) : Type 0 where
  pub calls : List (Shown A)
  pub kept : List Entry

abbrev pub after : {A : Type 0} → Ran A → Runs A → Runs A
after r rest = record { calls = shown r ∷ rest.calls; kept = rest.kept }

-- A refused call leaves what it has, and the next goes on from there.
abbrev pub runs : {A : Type 0} → (List Entry → Entry → Kept) → ((e : Entry) → Reply e) → List (Asks A) → List Entry → Runs A
runs keep reply [] es = record { calls = []; kept = es }
runs keep reply (t ∷ ts) es = after (run keep reply t es) (runs keep reply ts (run keep reply t es).kept)
