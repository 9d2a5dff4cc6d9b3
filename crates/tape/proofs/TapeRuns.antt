-- The tape after a list of strokes.
use Rattle.std.proofs.Common.{◌≡◌, ℕ, ◌+◌, ◌-◌, ◌%◌, ◌^◌, ◌≤◌, Bool, true, false, cond, leb, List, [], ◌∷◌, ◌++◌, length, drop, sym, refl, ap, ◌∙◌, subst, zero-le, add-zero, add_assoc, zero-add, arith, length-append, length-drop, length-take, MutBor, leb-true, Some}
use native.Mathlib.Nat.{mod-add-mod}
use Rattle.std.specs.List.{flat_map}
use Rattle.std.specs.Option.{unwrap_or}
use Rattle.outline.specs.declared.strokes.Stroke.{Stroke}
use Rattle.tape.specs.declared.pen.TapePen.{TapePen}
use Rattle.outline.specs.Drawn.{drawn}
use Rattle.tape.specs.Tape.{code, written, open_tape, tape_step}
use Rattle.tape.specs.Taped.{fitting, Taped}
use Rattle.tape.proofs.Writes.{written_more, written_none}

abbrev full_tape : MutBor (List ℕ) → ℕ → ℕ → TapePen
full_tape b l n = record { bytes = b; len = l; missed = Some (n % 2 ^ 64) }

abbrev over : MutBor (List ℕ) → List ℕ → MutBor (List ℕ)
over b ds = record { ref_ptr = b.ref_ptr; ghost_name = b.ghost_name; now = ds }

-- one more is counted
one_more : (n : ℕ) → (n % 2 ^ 64 + 1) % 2 ^ 64 ≡ (n + 1) % 2 ^ 64
one_more n = mod-add-mod n (2 ^ 64) 1

-- a full tape only counts
full_run : (b : MutBor (List ℕ)) (l n : ℕ) (ks : List Stroke) → drawn tape_step (full_tape b l n) ks ≡ full_tape b l (n + length ks)
full_run b l n [] = ap (full_tape b l) (sym (add-zero n))
full_run b l n (k ∷ ks) =
    ap (λ m. drawn tape_step (record { bytes = b; len = l; missed = Some m }) ks) (one_more n)
    ∙ full_run b l (n + 1) ks ∙ ap (full_tape b l) (omega arith)

pub length-written : (ds : List ℕ) (i : ℕ) (bs : List ℕ) → i + length bs ≤ length ds → length (written ds i bs) ≡ length ds
length-written ds i bs h = simp (length-append, length-take, length-drop) (omega arith)

-- What a tape holds that had l bytes over b, and then took strokes of which those in f fit.
pub record Held (t : TapePen) (b : MutBor (List ℕ)) (l : ℕ) (ks f : List Stroke) : Type 0 where
  pub name : t.bytes.ghost_name ≡ b.ghost_name
  pub now : t.bytes.now ≡ written b.now l (flat_map code f)
  pub len : t.len ≡ l + length (flat_map code f)
  pub within : t.len ≤ length b.now
  pub missed : unwrap_or t.missed 0 ≡ (length ks - length f) % 2 ^ 64

-- the run of the strokes after the first, wherever they start
abbrev pub Later : ℕ → List Stroke → Type 0
Later size ks = (b : MutBor (List ℕ)) (l : ℕ) → length b.now ≡ size → l ≤ size → Held (drawn tape_step (open_tape b l) ks) b l ks (fitting size l ks)

-- by whether the first stroke fits
first_run : (size : ℕ) (b : MutBor (List ℕ)) (l : ℕ) (k : Stroke) (ks : List Stroke) (v : Bool) → length b.now ≡ size → l ≤ size → leb (l + length (code k)) size ≡ v → Later size ks
    → Held (drawn tape_step (cond v (open_tape (over b (written b.now l (code k))) (l + length (code k))) (full_tape b l 1)) ks) b l (k ∷ ks)
    (cond v (k ∷ fitting size (l + length (code k)) ks) [])
first_run size b l k ks false e h f later =
    let r = full_run b l 1 ks in
    record {
      name = ap (λ t. t.bytes.ghost_name) r;
      now = ap (λ t. t.bytes.now) r ∙ sym (written_none b.now l);
      len = ap (λ t. t.len) r ∙ sym (add-zero l);
      within = omega (arith, ap (λ (t : TapePen). t.len) r);
      missed = ap (λ t. unwrap_or t.missed 0) r ∙ ap (λ n. n % 2 ^ 64) (omega arith);
    }
first_run size b l k ks true e h f later =
    let bs = code k in
    let rest = flat_map code (fitting size (l + length bs) ks) in
    let room : l + length bs ≤ length b.now = omega (arith, e, leb-true (l + length bs) size f) in
    let within : l + length bs ≤ size = leb-true (l + length bs) size f in
    let r = later (over b (written b.now l bs)) (l + length bs) (length-written b.now l bs room ∙ e) within in
    record {
      name = r.name;
      now = r.now ∙ written_more b.now l bs rest room;
      within = omega (arith, r.within, length-written b.now l bs room);
      len = r.len ∙ add_assoc l (length bs) (length rest) ∙ ap (λ n. l + n) (sym (length-append bs rest));
      missed = r.missed ∙ ap (λ n. n % 2 ^ 64) (omega arith);
    }

-- the strokes that fit, one after the other, and the count of the rest
pub open_run : (size : ℕ) (ks : List Stroke) → Later size ks
open_run size [] b l e h = record { name = refl; now = sym (written_none b.now l); len = sym (add-zero l); within = omega arith; missed = refl }
open_run size (k ∷ ks) b l e h =
    let way = λ (n : ℕ). drawn tape_step (cond (leb (l + length (code k)) n) (open_tape (over b (written b.now l (code k))) (l + length (code k))) (full_tape b l 1)) ks in
    subst (λ t. Held t b l (k ∷ ks) (fitting size l (k ∷ ks))) (sym (ap way e))
    (first_run size b l k ks (leb (l + length (code k)) size) e h refl (open_run size ks))

-- from a fresh tape
pub taped : (b : MutBor (List ℕ)) (ks : List Stroke) → Taped ks b.now (drawn tape_step (open_tape b 0) ks).bytes.now (drawn tape_step (open_tape b 0) ks).len (unwrap_or (drawn tape_step (open_tape b 0) ks).missed 0)
taped b ks =
    let bs = flat_map code (fitting (length b.now) 0 ks) in
    let r = open_run (length b.now) ks b 0 refl (zero-le) in
    record {
      bytes = r.now ∙ ap (λ n. bs ++ drop n b.now) (zero-add (length bs));
      written = r.len ∙ zero-add (length bs);
      within = r.within;
      counted = r.missed;
    }

-- it stays over the same memory
pub tape_name : (b : MutBor (List ℕ)) (ks : List Stroke) → (drawn tape_step (open_tape b 0) ks).bytes.ghost_name ≡ b.ghost_name
tape_name b ks = (open_run (length b.now) ks b 0 refl zero-le).name
