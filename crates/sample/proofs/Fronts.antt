-- What is written of a tape, and the text of the sample's.
use Rattle.std.proofs.Common.{◌≡◌, ℕ, List, length, take, drop, sym, refl}
use lib.Ieee.{round, of_bits, to_bits, add, sub, mul, div, rem, neg, lt, eq, of_int}
use Rattle.std.specs.Float.{round_to_format, float_is_finite}
use Rattle.std.proofs.lemmas.List.{take_at}
use Rattle.outline.specs.declared.strokes.Stroke.{Stroke}
use Rattle.tape.specs.Taped.{tape, Taped}
use Rattle.tape_text.specs.Spelling.{text}
use Rattle.sample.specs.Sample.{drawing, line}

pub written_front : (ks : List Stroke) (before after : List ℕ) (n m : ℕ) → Taped ks before after n m → take n after ≡ tape (length before) ks
written_front ks before after n m t = rw t.bytes (take_at (tape (length before) ks) (drop (length (tape (length before) ks)) before) n (sym t.written))

pub sample_line : text (tape 64 drawing) ≡ line
unfolding round of_bits of_int to_bits add sub mul div rem neg lt eq round_to_format float_is_finite
sample_line = refl
