-- The tape: what it holds of a stroke, and what it holds of many.
use Rattle.std.specs.Prelude.{ℕ, ◌+◌, ◌/◌, ◌%◌, ◌^◌, Bool, cond, ◌&&◌, List, [], ◌∷◌, ◌++◌, length, take, drop, nat_le, to_bits, Float, Some, None}
use Rattle.std.specs.Float.{binary32}
use Rattle.std.specs.Borrow.{MutBor}
use Rattle.std.specs.List.{flat_map}
use Rattle.std.specs.Option.{is_none, unwrap_or}
use Rattle.outline.specs.declared.strokes.Stroke.{Stroke}
use Rattle.outline.specs.declared.strokes.Stroke.TheVariants.{Move, Line, Quad, Curve, Close}
use Rattle.tape.specs.declared.pen.TapePen.{TapePen}
use Rattle.tape.specs.declared.pen.TapeEnd.{TapeEnd}

-- the 32 bits of a coordinate, largest byte first; those of a NaN are 7FC00000
abbrev pub word : Float → List ℕ
word x = (to_bits binary32 x / 16777216 % 256) ∷ (to_bits binary32 x / 65536 % 256) ∷ (to_bits binary32 x / 256 % 256) ∷ (to_bits binary32 x % 256) ∷ []

-- the bytes of a stroke: its code, then its coordinates
abbrev pub coded : ℕ → List Float → List ℕ
coded n xs = n ∷ flat_map word xs

abbrev pub code : Stroke → List ℕ
code (Move x y) = coded 1 (x ∷ y ∷ [])
code (Line x y) = coded 2 (x ∷ y ∷ [])
code (Quad a b x y) = coded 3 (a ∷ b ∷ x ∷ y ∷ [])
code (Curve a b c d x y) = coded 4 (a ∷ b ∷ c ∷ d ∷ x ∷ y ∷ [])
code Close = coded 5 []

-- bs written over ds from place i on, the rest left alone
abbrev pub written : List ℕ → ℕ → List ℕ → List ℕ
written ds i bs = take i ds ++ (bs ++ drop (i + length bs) ds)

-- n bytes fit where none was missed before them, and there is room for all of them.
abbrev pub fits : TapePen → ℕ → Bool
fits t n = is_none t.missed && nat_le (t.len + n) (length t.bytes.now)

-- The tape with bytes written after those that it has.
abbrev pub kept : TapePen → List ℕ → TapePen
kept t bs = record { bytes = record { ref_ptr = t.bytes.ref_ptr; ghost_name = t.bytes.ghost_name; now = written t.bytes.now t.len bs }; len = t.len + length bs; missed = t.missed }

-- The tape with one stroke more only counted, modulo 2 to the 64th.
abbrev pub counted : TapePen → TapePen
counted t = record { bytes = t.bytes; len = t.len; missed = Some ((unwrap_or t.missed 0 + 1) % 2 ^ 64) }

-- The tape after the bytes of one stroke.
abbrev pub taken : TapePen → List ℕ → TapePen
taken t bs = cond (fits t (length bs)) (kept t bs) (counted t)

-- A tape over this memory that has l bytes and has missed nothing.
abbrev pub open_tape : MutBor (List ℕ) → ℕ → TapePen
open_tape b l = record { bytes = b; len = l; missed = None }

-- what it holds, and how many strokes it missed: none while there is no count
abbrev pub tape_end : TapePen → TapeEnd
tape_end t = record { len = t.len; missed = unwrap_or t.missed 0 }

-- the tape's step
abbrev pub tape_step : TapePen → Stroke → TapePen
tape_step t k = taken t (code k)
