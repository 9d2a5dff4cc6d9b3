-- What is left of the tape brings the text so far to the whole.
use Rattle.std.proofs.Common.{◌≡◌, drop, string_bytes}
use Rattle.tape_text.specs.Spelling.{spelled, text}
use Rattle.tape_text.proofs.spelling.tape_text.Given as goal

abbrev pub invariant-loop-byte : goal.invariant-loop-byte
invariant-loop-byte l = spelled (string_bytes l.text) l.left (drop l.byte-index l.tape) ≡ text l.tape
