-- Entries are one exactly where letter and number are.
use Rattle.std.proofs.Common.{◌≡◌, ℕ, Bool, true, false, cond, eqb, Some, None, Option, sym, refl, ap, ◌∙◌, arith}
use Rattle.std.proofs.lemmas.Bool.{eq-eqb, eqb-true, and_parts, and_from}
use Rattle.numbers.specs.Types.{glyph}
use Rattle.trace.specs.declared.entries.Entry.{Entry}
use Rattle.trace.specs.declared.entries.Entry.TheVariants.{Glyph, Condition, AxisList, Region, DeltaSet, Outline, Width}
use Rattle.trace.specs.Entries.{letter, number, same}

-- the entry of a letter and a number
abbrev entry_of : ℕ → ℕ → Option Entry
entry_of l n =
    cond (eqb l 71) (Some (Glyph (glyph n)))
    (cond (eqb l 67) (Some (Condition n))
    (cond (eqb l 76) (Some (AxisList n))
    (cond (eqb l 82) (Some (Region n))
    (cond (eqb l 68) (Some (DeltaSet n))
    (cond (eqb l 79) (Some (Outline (glyph n)))
    (cond (eqb l 87) (Some (Width (glyph n))) None))))))

back : (e : Entry) → entry_of (letter e) (number e) ≡ Some e
back (Glyph g) = refl
back (Condition n) = refl
back (AxisList n) = refl
back (Region n) = refl
back (DeltaSet n) = refl
back (Outline g) = refl
back (Width g) = refl

pub same_is : (a b : Entry) → same a b ≡ true → a ≡ b
same_is a b h =
    let both = and_parts (eqb (letter a) (letter b)) (eqb (number a) (number b)) h in
    let l : letter a ≡ letter b = eqb-true (letter a) (letter b) both.0 in
    let n : number a ≡ number b = eqb-true (number a) (number b) both.1 in
    let e : Some a ≡ Some b = sym (back a) ∙ ap (λ x. entry_of x (number a)) l ∙ ap (entry_of (letter b)) n ∙ back b in
    cc

pub same_self : (e : Entry) → same e e ≡ true
same_self e = and_from (eqb (letter e) (letter e)) (eqb (number e) (number e)) (eq-eqb (letter e) (letter e) refl) (eq-eqb (number e) (number e) refl)

-- nothing is both yes and no
pub clash : {X : Type 0} (b : Bool) → b ≡ true → b ≡ false → X
clash b h k = let z : ◌≡◌ {A = ℕ} 0 1 = cc in absurd (omega arith)

pub apart : (a b : Entry) → same a b ≡ false → same b a ≡ false
apart a b h = by (same b a) refl
  where
    by : (v : Bool) → same b a ≡ v → same b a ≡ false
    by false q = q
    by true q = clash (same a b) (ap (same a) (same_is b a q) ∙ same_self a) h
