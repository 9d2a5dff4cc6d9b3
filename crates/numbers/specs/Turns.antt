-- Sine, cosine and tangent of an angle in half-turns, by a fixed polynomial. Every operation rounds once; the format that it rounds to is written at it.
use Rattle.std.specs.Prelude.{ℕ, zero, suc, ◌+◌, ◌-◌, ◌*◌, cond, List, [], ◌∷◌, map, pos, from_bits, Float}
use Rattle.std.specs.Float.Ieee.{of_int, add, sub, mul, div, rem, neg, lt, eq}
use Rattle.std.specs.Float.{float_is_finite, nan, binary32, binary64}
use Rattle.numbers.specs.Rounding.{narrowed}
use Rattle.numbers.specs.declared.turns.CosSin.{CosSin}
use Rattle.numbers.specs.declared.turns.Quarter.{Quarter}
use Rattle.numbers.specs.declared.turns.Quarter.TheVariants.{First, Second, Third, Fourth}

-- ---- constants, as f64

abbrev pub nought : Float
nought = from_bits binary64 0

abbrev pub half : Float
half = from_bits binary64 0x3fe0_0000_0000_0000

abbrev pub one : Float
one = from_bits binary64 0x3ff0_0000_0000_0000

abbrev pub three_halves : Float
three_halves = from_bits binary64 0x3ff8_0000_0000_0000

abbrev pub two : Float
two = from_bits binary64 0x4000_0000_0000_0000

abbrev pub π : Float
π = from_bits binary64 0x4009_21fb_5444_2d18

-- ---- reduction

-- t plus 2 where it is negative
abbrev pub lifted : Float → Float
lifted t = cond (lt t nought) (add binary64 t two) t

-- 0 for 2, which a tiny negative angle plus 2 rounds to
abbrev pub wrapped : Float → Float
wrapped t = cond (eq t two) nought t

-- r modulo 2, the same angle from 0 up to 2
abbrev pub modulo : Float → Float
modulo r = wrapped (lifted (rem binary64 r two))

-- which quarter of a full turn t lies in
abbrev pub quarter : Float → Quarter
quarter t = cond (lt t half) First (cond (lt t one) Second (cond (lt t three_halves) Third Fourth))

-- where a quarter begins, in half-turns
abbrev pub start : Quarter → Float
start First = nought
start Second = half
start Third = one
start Fourth = three_halves

-- ---- the two sums

-- From y, for each divisor d in turn, y becomes 1 − (w ÷ d) × y.
abbrev pub series : Float → Float → List ℕ → Float
series w y [] = y
series w y (d ∷ ds) = series w (sub binary64 one (mul binary64 (div binary64 w (of_int binary64 (pos d))) y)) ds

-- k, k − 1, .., 1
abbrev pub down_from : ℕ → List ℕ
down_from zero = []
down_from (suc k) = suc k ∷ down_from k

abbrev pub cosine_divisors : List ℕ
cosine_divisors = map (λ k. (2 * k - 1) * (2 * k)) (down_from 8)

abbrev pub sine_divisors : List ℕ
sine_divisors = map (λ k. 2 * k * (2 * k + 1)) (down_from 7)

-- of an angle v of at most a quarter turn, in radians
abbrev pub cosine : Float → Float
cosine v = series (mul binary64 v v) one cosine_divisors

abbrev pub sine : Float → Float
sine v = mul binary64 v (series (mul binary64 v v) one sine_divisors)

-- ---- the four cases

abbrev pub both : Float → Float → CosSin
both c s = record { cos = narrowed c; sin = narrowed s }

-- cosine c and sine s of what is left of the angle, turned on by the quarters before it
abbrev pub turned : Quarter → Float → Float → CosSin
turned First c s = both c s
turned Second c s = both (neg s) c
turned Third c s = both (neg c) (neg s)
turned Fourth c s = both s (neg c)

-- what is left of t past the start of its quarter, in radians
abbrev pub angle : Float → Float
angle t = mul binary64 (sub binary64 t (start (quarter t))) π

abbrev pub cos_sin_reduced : Float → CosSin
cos_sin_reduced t = turned (quarter t) (cosine (angle t)) (sine (angle t))

-- Cosine and sine of r half-turns; both a NaN where r is not finite.
abbrev pub cos_sin : Float → CosSin
cos_sin r = cond (float_is_finite r) (cos_sin_reduced (modulo r)) (record { cos = nan; sin = nan })

-- Tangent of r half-turns, as the quotient of the two f32 values.
abbrev pub tan : Float → Float
tan r = div binary32 (cos_sin r).sin (cos_sin r).cos
