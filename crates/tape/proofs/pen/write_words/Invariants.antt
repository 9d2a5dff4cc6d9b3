-- The coordinates that are left, written from here on, give what all of them give.
use Rattle.std.proofs.Common.{◌≡◌, ◌+◌, ◌*◌, drop}
use Rattle.std.specs.List.{flat_map}
use Rattle.tape.specs.Tape.{word, written}
use Rattle.tape.proofs.pen.write_words.Given as goal

abbrev pub invariant-loop-i : goal.invariant-loop-i
invariant-loop-i l = written l.out (l.at + 4 * l.i) (flat_map word (drop l.i l.coordinates)) ≡ written l.initial.out l.at (flat_map word l.coordinates)
