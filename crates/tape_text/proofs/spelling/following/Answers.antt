-- Not found by the check alone.
-- A byte that no stroke has for its code is none of 1 to 4.
use Rattle.std.proofs.Common.{arith}
use Rattle.std.proofs.lemmas.Bool.Decides.{nat_tests}
use Rattle.tape.specs.declared.codes.StrokeCode.TheVariants.{Move, Line, Quad, Curve}
use Rattle.tape_text.proofs.spelling.following.Goals as goal

pub returns-in-Err : goal.returns-in-Err
returns-in-Err c =
    let none = c.in-Err.ensures.1 in
    grind (arith, nat_tests, none Move, none Line, none Quad, none Curve)
