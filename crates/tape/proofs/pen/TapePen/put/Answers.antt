-- Not found by the check alone.
use Rattle.std.proofs.Common.{◌+◌, ◌≤◌, [], ◌∷◌, length, rules, arith}
use Rattle.std.specs.List.{flat_map}
use Rattle.tape.specs.Codes.{code_of}
use Rattle.tape.specs.Tape.{word}
use Rattle.tape.proofs.Writes.{written_more, length-words}
use Rattle.tape.proofs.pen.TapePen.put.Goals as goal

pub returns-then-fits : goal.returns-then-fits
returns-then-fits c =
    let t = c.args.self.now in
    let xs = c.args.coordinates.now in
    let room : t.len + 1 ≤ length t.bytes.now = search rules in
    search (rules, length-words xs, written_more t.bytes.now t.len (code_of c.args.code ∷ []) (flat_map word xs) room)

pub returns-else-fits : goal.returns-else-fits
returns-else-fits c = grind (arith, length-words)
