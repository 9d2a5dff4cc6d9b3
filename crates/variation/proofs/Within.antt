-- The factor of an axis lies from 0 to 1, and so does a product of two such floats.
use Rattle.std.proofs.Common.{◌≡◌, ℕ, ◌*◌, ◌^◌, ◌<◌, ◌≤◌, Bool, true, false, cond, T, ltb, eqb, ◌&&◌, ◌||◌, ℤ, pos, negsuc, ◌-ℤ◌, ◌≤ℤ◌, ◌<ℤ◌, int_lt, SFits, w16, refl, ap, ◌∙◌, subst, arith, eqb-true, zero-mul, mul-zero, mul-le-mul, mul-pos, lit≤, lit<, true≢false}
use Rattle.std.proofs.lemmas.Int.{ints}
use Rattle.std.proofs.lemmas.Bool.Decides.{nat_tests}
use lib.Ieee.{Float, nan, inf, fin, binary32, up, down, round, lt, le, eq, mul, div, of_int, of_bits}
use lib.Ieee.Fits.{up_pos, down_pos}
use lib.Ieee.Exact.{HasValue}
use lib.Ieee.Back.{round_whole}
use lib.Ieee.Scale.{round_same}
use lib.Ieee.Order.{round_mono, transfer}
use lib.Ieee.Positive.{first_pos}
use Rattle.std.specs.Float.{◌≤ᶠ◌}
use Rattle.variation.specs.Scalars.{nought, one, at_fault, whole, outside, ratio, applies}
use Rattle.variation.specs.Within.{two, FromZeroToOne}

-- ---- the three literals

nought_is : nought ≡ fin false 0 (pos 0)
unfolding of_bits
nought_is = refl

one_is : one ≡ fin false 1 (pos 0)
unfolding of_bits
one_is = refl

two_is : two ≡ fin false 1 (pos 1)
unfolding of_bits
two_is = refl

-- 0 and 1 as rounded fractions
nought_rounded : round binary32 false 0 1 ≡ nought
unfolding round of_bits
nought_rounded = refl

one_rounded : round binary32 false 1 1 ≡ one
unfolding round of_bits
one_rounded = refl

-- ---- what the comparisons say of a fraction

-- m · 2^e from 0 to 1; with a negative sign only 0
abbrev Fraction : Float → Type 0
Fraction nan = ⊥
Fraction (inf s) = ⊥
Fraction (fin true m e) = m * up e ≡ 0
Fraction (fin false m e) = m * up e ≤ down e

-- x is one, where it compares so with 0 and 1
fraction : (x : Float) → fin false 0 (pos 0) ≤ᶠ x → x ≤ᶠ fin false 1 (pos 0) → Fraction x
unfolding le lt eq
fraction nan low high = low
fraction (inf true) low high = low
fraction (inf false) low high = high
fraction (fin true m e) low high = zero_only (m * up e) (down e) low
  where
    zero_only : (a d : ℕ) → T (eqb (0 * 1 * d) (a * 1) && eqb (0 * 1 * d) 0) → a ≡ 0
    zero_only a d h = grind (arith, nat_tests)
fraction (fin false m e) low high = let k = at_most (m * up e * 1) (1 * 1 * down e) high in omega arith
  where
    at_most : (a b : ℕ) → T (ltb a b || (eqb a b && true)) → a ≤ b
    at_most a b h = grind (arith, nat_tests)

-- the same with the literals by their bits
fraction_of : (x : Float) → nought ≤ᶠ x → x ≤ᶠ one → Fraction x
fraction_of x low high = fraction x (subst (λ (z : Float). z ≤ᶠ x) nought_is low) (subst (λ (z : Float). x ≤ᶠ z) one_is high)

-- one is never 2
not_two : (x : Float) → Fraction x → eq x (fin false 1 (pos 1)) ≡ false
unfolding eq
not_two nan h = absurd h
not_two (inf s) h = absurd h
not_two (fin true m e) h = negative (m * up e * 1) (2 * down e) (let d = down_pos e in omega arith)
  where
    negative : (a b : ℕ) → 0 < b → (eqb a b && eqb a 0) ≡ false
    negative a b h = grind (arith, nat_tests)
not_two (fin false m e) h = positive (m * up e * 1) (2 * down e) (let d = down_pos e in omega arith)
  where
    positive : (a b : ℕ) → a < b → (eqb a b && true) ≡ false
    positive a b h = grind (arith, nat_tests)

-- so the two comparisons are enough
from_zero_to_one : (x : Float) → nought ≤ᶠ x → x ≤ᶠ one → FromZeroToOne x
from_zero_to_one x low high = record { at_least_zero = low; at_most_one = high; not_two = ap (eq x) two_is ∙ not_two x (fraction_of x low high) }

-- ---- what is rounded

-- a fraction a / b up to 1
rounded : (a b : ℕ) → 0 < b → a ≤ b → FromZeroToOne (round binary32 false a b)
rounded a b h k = from_zero_to_one (round binary32 false a b)
    (subst (λ (z : Float). z ≤ᶠ round binary32 false a b) nought_rounded (round_mono binary32 0 1 a b (lit< tt) h (omega arith)))
    (subst (λ (z : Float). round binary32 false a b ≤ᶠ z) one_rounded (round_mono binary32 a b 1 1 h (lit< tt) (omega arith)))

nought_within : FromZeroToOne nought
nought_within = subst (λ (z : Float). FromZeroToOne z) nought_rounded (rounded 0 1 (lit< tt) (lit≤ tt))

pub one_within : FromZeroToOne one
one_within = subst (λ (z : Float). FromZeroToOne z) one_rounded (rounded 1 1 (lit< tt) (lit≤ tt))

-- 0 with a negative sign
negative_zero : FromZeroToOne (round binary32 true 0 1)
unfolding round le lt eq of_bits
negative_zero = from_zero_to_one (round binary32 true 0 1) tt tt

-- 0 with either sign
no_fraction : (s : Bool) (a b : ℕ) → 0 < b → a ≡ 0 → FromZeroToOne (round binary32 s a b)
no_fraction false a b h k = rounded a b h (omega arith)
no_fraction true a b h k = subst (λ (z : Float). FromZeroToOne z) (round_same binary32 true 0 1 a b (lit< tt) h (omega arith)) negative_zero

-- ---- the product

product_of : (x y : Float) → Fraction x → Fraction y → FromZeroToOne (mul binary32 x y)
unfolding mul
product_of nan y p q = absurd p
product_of (inf s) y p q = absurd p
product_of (fin true m e) nan p q = absurd q
product_of (fin true m e) (inf t) p q = absurd q
product_of (fin true m e) (fin t n d) p q = no_fraction _ (m * up e * (n * up d)) (down e * down d) (mul-pos (down_pos e) (down_pos d)) (ap (λ z. z * (n * up d)) p ∙ zero-mul (n * up d))
product_of (fin false m e) nan p q = absurd q
product_of (fin false m e) (inf t) p q = absurd q
product_of (fin false m e) (fin true n d) p q = no_fraction _ (m * up e * (n * up d)) (down e * down d) (mul-pos (down_pos e) (down_pos d)) (ap (λ z. m * up e * z) q ∙ mul-zero (m * up e))
product_of (fin false m e) (fin false n d) p q = rounded (m * up e * (n * up d)) (down e * down d) (mul-pos (down_pos e) (down_pos d)) (mul-le-mul p q)

-- two floats from 0 to 1 have such a product, rounded to f32
pub product_within : (x y : Float) → FromZeroToOne x → FromZeroToOne y → FromZeroToOne (mul binary32 x y)
product_within x y p q = product_of x y (fraction_of x p.at_least_zero p.at_most_one) (fraction_of y q.at_least_zero q.at_most_one)

-- ---- the quotient of two whole numbers

-- x and y are the whole numbers a and b, with a up to b
quotient_of : (x y : Float) (a b : ℕ) → 0 < b → a ≤ b → HasValue x false a 1 → HasValue y false b 1 → FromZeroToOne (div binary32 x y)
unfolding div
quotient_of nan y a b h k p q = absurd p
quotient_of (inf s) y a b h k p q = absurd p
quotient_of (fin true m e) y a b h k p q = absurd (true≢false p.0)
quotient_of (fin false m e) nan a b h k p q = absurd q
quotient_of (fin false m e) (inf t) a b h k p q = absurd q
quotient_of (fin false m e) (fin true n d) a b h k p q = absurd (true≢false q.0)
quotient_of (fin false m e) (fin false n d) a b h k p q = go (eqb n 0) refl
  where
    some : 0 < n
    some = first_pos n (up d) (let z : 0 < b * down d = mul-pos h (down_pos d) in omega (arith, q.1))

    go : (t : Bool) → eqb n 0 ≡ t → FromZeroToOne (cond t (cond (eqb m 0) nan (inf false)) (round binary32 false (m * up e * down d) (n * up d * down e)))
    go true is = absurd (omega (arith, eqb-true n 0 is, some))
    go false is = rounded (m * up e * down d) (n * up d * down e) (mul-pos (mul-pos some (up_pos d)) (down_pos e)) (transfer (m * up e) (n * up d) (down e) (down d) a b 1 1 (lit< tt) (lit< tt) p.1 q.1 (omega arith))

-- f32 has each whole number below 2 ^ 17
ratio_within : (a b : ℤ) → pos 0 ≤ℤ a → a ≤ℤ b → pos 0 <ℤ b → b <ℤ pos (2 ^ 17) → FromZeroToOne (ratio a b)
unfolding of_int
ratio_within (pos a) (pos b) h k l m = quotient_of (round binary32 false a 1) (round binary32 false b 1) a b (omega (arith, ints)) (omega (arith, ints)) (round_whole binary32 false a (omega (arith, ints))) (round_whole binary32 false b (omega (arith, ints)))
ratio_within (pos a) (negsuc b) h k l m = absurd l.lt
ratio_within (negsuc a) b h k l m = absurd h.le

-- ---- an axis

-- by the cases of a test
cases_within : (b : Bool) (x y : Float) → (b ≡ true → FromZeroToOne x) → (b ≡ false → FromZeroToOne y) → FromZeroToOne (cond b x y)
cases_within true x y h k = h refl
cases_within false x y h k = k refl

-- Numbers of 16 bits, of an axis that is not at fault. The two differences that are divided lie from 0 to below 2 ^ 17, and the first is at most the second.
pub applies_within : (c start peak end : ℤ) → SFits w16 c → SFits w16 start → SFits w16 peak → SFits w16 end → at_fault start peak end ≡ false → FromZeroToOne (applies c start peak end)
applies_within c start peak end f g h i sound =
    cases_within (whole c peak) _ _ (λ _. one_within)
    (λ apart. cases_within (outside c start end) _ _ (λ _. nought_within)
    (λ inside. cases_within (int_lt c peak) _ _
    (λ below. ratio_within (c -ℤ start) (peak -ℤ start) (grind (arith, ints)) (grind (arith, ints)) (grind (arith, ints)) (omega (arith, ints)))
    (λ above. ratio_within (end -ℤ c) (end -ℤ peak) (grind (arith, ints)) (grind (arith, ints)) (grind (arith, ints)) (omega (arith, ints)))))
