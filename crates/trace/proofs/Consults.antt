-- A note, and the reply after it, are the listed run of one question.
use Rattle.std.proofs.Common.{◌≡◌, ℕ, List, length, IsErrAnd, IfOk, Some, None, Ok, Err, Option, Result, sym, ap, ◌∙◌, subst, arith}
use Rattle.std.proofs.lemmas.List.{length-take-le}
use Rattle.font.specs.Replies.{Copied, list_size}
use Rattle.refusals.specs.declared.places.Place.{Place}
use Rattle.refusals.specs.declared.places.Refusal.{Refusal}
use Rattle.trace.specs.declared.entries.Entry.{Entry}
use Rattle.trace.specs.Meanings.{Reply}
use Rattle.trace.specs.Asks.{ran, asked, listing}
use Rattle.trace.specs.Tracing.{piece_told, NotedAs, Consulted}

module _ {X : Type 0} (n : ℕ) (reply : (e : Entry) → Reply e) (p : Option Place) (e : Entry) (piece : Reply e → X) (es es' : List Entry) where
  -- there was room
  pub consulted_told : (x : X) → NotedAs p (listing n es e) es es' (Ok tt) → x ≡ piece (reply e) → Consulted n reply p e piece es es' (Ok x)
  consulted_told x noted told =
      let q = ap (asked p es (λ l. ran (Ok (reply e)) l)) noted in
      record { list = sym (ap (λ r. r.kept) q); answer = ap Ok told ∙ sym (ap (λ r. piece_told piece r.answer) q) }

  -- there was none
  pub consulted_refused : (r : Refusal) → NotedAs p (listing n es e) es es' (Err r) → Consulted n reply p e piece es es' (Err r)
  consulted_refused r noted =
      let q = ap (asked p es (λ l. ran (Ok (reply e)) l)) noted.0 in
      record { list = noted.2 ∙ sym (ap (λ t. t.kept) q); answer = ap Err noted.1 ∙ sym (ap (λ t. piece_told piece t.answer) q) }

  -- the same where a `?` handed the refusal on
  pub consulted_broken : (r : Result X Refusal) (x : Refusal) → IsErrAnd r (λ y. y ≡ x) → NotedAs p (listing n es e) es es' (Err x) → Consulted n reply p e piece es es' r
  consulted_broken (Ok a) x h noted = absurd h
  consulted_broken (Err y) x h noted = subst (λ z. Consulted n reply p e piece es es' (Err z)) (sym h) (consulted_refused x noted)

-- a list that was copied to a table has the size that was told
pub copied_size : {X : Type 0} (o : Option (List X)) (table : List X) (r : Option ℕ) → length table ≡ 64 → Copied o table r → r ≡ list_size o
copied_size o table None long h = sym (ap list_size h)
copied_size o table (Some n) long h = ap Some (sym (length-take-le n table (omega arith))) ∙ sym (ap list_size h.1)

-- a refusal tells of no copy
pub broken_made : {X : Type 0} (r : Result X Refusal) (x : Refusal) (P : X → Type 0) → IsErrAnd r (λ y. y ≡ x) → IfOk r P
broken_made (Ok a) x P h = absurd h
broken_made (Err y) x P h = tt
