-- The remainder of a float by 2: a size less the even number next below it, with the sign put back.
use Rattle.std.proofs.Common.{◌≡◌, ℕ, zero, suc, ◌+◌, ◌-◌, ◌*◌, ◌/◌, ◌%◌, ◌^◌, ◌<◌, ◌≤◌, Bool, true, false, cond, T, ltb, ℤ, pos, negsuc, sym, refl, ap, ◌∙◌, subst, arith, ltb-true, ltb-false, le-ltb, lit<, eqb, leb, ◌&&◌}
use native.Mathlib.Nat.{mul_comm, mul-pos, div-div-eq-div-mul, div-add-mod', mul-mod_left, div-lt_iff_lt-mul, mul-one, mul_assoc, pow-suc}
use lib.Ieee.{Float, nan, inf, fin, Format, binary64, prec, low, emax, up, down, odd, units, round, sum, add, sub, neg, rem, lt, of_bits, of_int, to_unsigned, fits}
use lib.Pow.{pow_pos}
use lib.Dec.{ltb→lt}
use lib.Ieee.Fits.{down_pos, round_is, and_l, and_r}
use lib.Ieee.Exact.{HasValue}
use lib.Ieee.Back.{round_whole}
use lib.Ieee.Scale.{round_same}
use Rattle.std.specs.Float.{float_is_finite, is_sign_negative, float_with_sign}
use Rattle.numbers.specs.Turns.{two}

-- the literal 2.0
two_is : two ≡ fin false 1 (pos 1)
unfolding of_bits
two_is = refl

-- the remainder of a finite float by 2, as one fraction that is rounded
rem_by_two : (s : Bool) (m : ℕ) (e : ℤ) → rem binary64 (fin s m e) two ≡ round binary64 s (m * up e % (2 * down e)) (down e)
unfolding rem
rem_by_two s m e = ap (rem binary64 (fin s m e)) two_is ∙ simp mul-one

-- ---- below 2 ^ 53

-- a fraction a / d is the even number next below it and the rest
even_parts : (a d : ℕ) → a ≡ a / d / 2 * 2 * d + a % (2 * d)
even_parts a d =
    let e : a / d / 2 ≡ a / (2 * d) = div-div-eq-div-mul a d 2 ∙ ap (λ k. a / k) (mul_comm d 2) in
    omega (arith, div-add-mod' a (2 * d), ap (λ k. k * (2 * d)) e)

-- so a size less that even number is the remainder
less_even : (m : ℕ) (e : ℤ) (y : Float) → HasValue y false (m * up e / down e / 2 * 2) 1 → sub binary64 (fin false m e) y ≡ round binary64 false (m * up e % (2 * down e)) (down e)
unfolding sub add neg sum
less_even m e nan v = absurd v
less_even m e (inf t) v = absurd v
less_even m e (fin true n d) v = let w = v.0 in cc
less_even m e (fin false n d) v =
    let a = m * up e in
    let c = down e in
    let y = down d in
    let q = a / c / 2 in
    let r = a % (2 * c) in
    let b : n * up d * c ≡ q * 2 * c * y = omega (arith, ap (λ k. k * c) v.1) in
    let whole : a * y ≡ q * 2 * c * y + r * y = omega (arith, ap (λ k. k * y) (even_parts a c)) in
    let le : n * up d * c ≤ a * y = omega (arith, whole, b) in
    let left : a * y - n * up d * c ≡ r * y = omega (arith, whole, b) in
    rw (le-ltb (a * y) (n * up d * c) le) (round_same binary64 false (a * y - n * up d * c) (c * y) r c (mul-pos (down_pos e) (down_pos d)) (down_pos e) (omega (arith, ap (λ k. k * c) left)))

-- the literal 2 ^ 53, by its bits
abbrev all_even_from : Float
all_even_from = of_bits binary64 4845873199050653696

all_even_from_is : all_even_from ≡ fin false 1 (pos 53)
unfolding of_bits
all_even_from_is = refl

-- what a comparison with it asks of the fraction
lt-all_even_from : (m : ℕ) (e : ℤ) → lt (fin false m e) all_even_from ≡ ltb (m * up e * 1) (2 ^ 53 * down e)
unfolding lt
lt-all_even_from m e = ap (lt (fin false m e)) all_even_from_is

-- a whole number up to 2 ^ 53 keeps its value as a float
of_int_value : (n : ℕ) → n ≤ 2 ^ 53 → HasValue (of_int binary64 (pos n)) false n 1
unfolding of_int
of_int_value n h = round_whole binary64 false n h

-- the cast to a whole number of 64 bits only cuts off what stands behind the point
cut_is : (n : ℕ) (m : ℕ) (e : ℤ) → m * up e / down e < 2 ^ 53 → n ≡ to_unsigned 64 (fin false m e) → n ≡ m * up e / down e
unfolding to_unsigned
cut_is n m e h q = omega (arith, q)

-- what `rem_of_size` does below 2 ^ 53
pub rem_small : (x y : Float) (n : ℕ) → lt x all_even_from ≡ true → n ≡ to_unsigned 64 x → y ≡ of_int binary64 (pos (n / 2 * 2)) → (m : ℕ) (e : ℤ) → x ≡ fin false m e → sub binary64 x y ≡ rem binary64 x two
rem_small x y n below whole even m e is =
    let a = m * up e in
    let d = down e in
    let test : ltb (a * 1) (2 ^ 53 * d) ≡ true = sym (lt-all_even_from m e) ∙ ap (λ z. lt z all_even_from) (sym is) ∙ below in
    let under : a < 2 ^ 53 * d = omega (arith, ltb-true (a * 1) (2 ^ 53 * d) test) in
    let few : a / d < 2 ^ 53 = (div-lt_iff_lt-mul (down_pos e)).1 under in
    let n_is : n ≡ a / d = cut_is n m e few (whole ∙ ap (to_unsigned 64) is) in
    let value : HasValue y false (a / d / 2 * 2) 1 = subst (λ z. HasValue z false (a / d / 2 * 2) 1) (sym (even ∙ ap (λ k. of_int binary64 (pos (k / 2 * 2))) n_is)) (of_int_value (a / d / 2 * 2) (omega arith)) in
    ap (λ z. sub binary64 z y) is ∙ less_even m e y value ∙ sym (ap (λ z. rem binary64 z two) is ∙ rem_by_two false m e)

-- ---- from 2 ^ 53 on

-- a float of 64 bits has at most 53 digits
digits_below : (s : Bool) (m : ℕ) (e : ℤ) → fits binary64 (fin s m e) ≡ true → m < 2 ^ 53
unfolding fits
digits_below s zero e h = lit< tt
digits_below s (suc m) e h =
    let is_odd = eqb (suc m % 2) 1 in
    let few = ltb (suc m) (2 ^ 53) in
    let fine = leb (down e) (2 ^ low binary64) in
    let within = ltb (suc m * up e) (2 ^ 1024 * down e) in
    ltb→lt (suc m) (2 ^ 53) (and_r is_odd few (and_l (is_odd && few) fine (and_l (is_odd && few && fine) within (subst T (sym h) tt))))

-- so one from 2 ^ 53 on is a multiple of 2
even_large : (m : ℕ) (e : ℤ) → m < 2 ^ 53 → 2 ^ 53 * down e ≤ m * up e → m * up e % (2 * down e) ≡ 0
even_large m (pos zero) small large = absurd (omega arith)
even_large m (pos (suc k)) small large = ap (λ x. x % 2) (ap (λ x. m * x) (pow-suc 2 k) ∙ sym (mul_assoc m (2 ^ k) 2)) ∙ mul-mod_left (m * 2 ^ k) 2
even_large m (negsuc k) small large = absurd (omega (arith, pow_pos (suc k)))

-- and its remainder is the literal 0.0
nought_is : round binary64 false 0 1 ≡ of_bits binary64 0
unfolding round of_bits
nought_is = refl

round_nought : (d : ℕ) → 0 < d → round binary64 false 0 d ≡ of_bits binary64 0
round_nought d h = round_same binary64 false 0 d 0 1 h (omega arith) (omega arith) ∙ nought_is

-- what `rem_of_size` does from 2 ^ 53 on
pub rem_large : (x : Float) → lt x all_even_from ≡ false → fits binary64 x ≡ true → (m : ℕ) (e : ℤ) → x ≡ fin false m e → of_bits binary64 0 ≡ rem binary64 x two
rem_large x above fit m e is =
    let a = m * up e in
    let d = down e in
    let test : ltb (a * 1) (2 ^ 53 * d) ≡ false = sym (lt-all_even_from m e) ∙ ap (λ z. lt z all_even_from) (sym is) ∙ above in
    let over : 2 ^ 53 * d ≤ a = omega (arith, ltb-false (a * 1) (2 ^ 53 * d) test) in
    let few : m < 2 ^ 53 = digits_below false m e (ap (fits binary64) (sym is) ∙ fit) in
    sym (ap (λ z. rem binary64 z two) is ∙ rem_by_two false m e ∙ ap (λ k. round binary64 false k d) (even_large m e few over) ∙ round_nought d (down_pos e))

-- ---- the sign

-- a sign that is set after rounding is the sign that was rounded with
signed_odd : (s : Bool) (d q k l : ℕ) → float_with_sign s (odd d false q k l) ≡ odd d s q k l
unfolding float_with_sign odd
signed_odd s d zero k l = refl
signed_odd s d (suc q) k l = refl

signed_units : (f : Format) (s : Bool) (q k : ℕ) → float_with_sign s (units f false q k) ≡ units f s q k
unfolding units float_with_sign
signed_units f s q k = go (ltb (q * 2 ^ k) (2 ^ (low f + suc (emax f))))
  where
    go : (b : Bool) → float_with_sign s (cond b (odd (suc (prec f)) false q k (low f)) (inf false)) ≡ cond b (odd (suc (prec f)) s q k (low f)) (inf s)
    go true = signed_odd s (suc (prec f)) q k (low f)
    go false = refl

signed_round : (f : Format) (s : Bool) (a c : ℕ) → float_with_sign s (round f false a c) ≡ round f s a c
signed_round f s a c = ap (float_with_sign s) (round_is f false a c) ∙ signed_units f s _ _ ∙ sym (round_is f s a c)

-- the remainder of the size, with the sign put back
pub rem_signed : (r x y : Float) → float_is_finite r ≡ true → x ≡ float_with_sign false r → ((m : ℕ) (e : ℤ) → x ≡ fin false m e → y ≡ rem binary64 x two) → float_with_sign (is_sign_negative r) y ≡ rem binary64 r two
unfolding float_is_finite is_sign_negative float_with_sign
rem_signed nan x y h q f = cc
rem_signed (inf s) x y h q f = cc
rem_signed (fin s m e) x y h q f = ap (float_with_sign s) (f m e q ∙ ap (λ z. rem binary64 z two) q ∙ rem_by_two false m e) ∙ signed_round binary64 s (m * up e % (2 * down e)) (down e) ∙ sym (rem_by_two s m e)

-- what is not finite has a NaN for a remainder
pub rem_of_none : (r : Float) → float_is_finite r ≡ false → of_bits binary64 9221120237041090560 ≡ rem binary64 r two
unfolding float_is_finite rem of_bits
rem_of_none nan h = refl
rem_of_none (inf s) h = refl
rem_of_none (fin s m e) h = cc
