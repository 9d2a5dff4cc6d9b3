-- Not found by the check alone.
use Rattle.std.proofs.Common.{rules, SFits, w16, refl}
use Rattle.std.proofs.lemmas.Grind.{put_five}
use Rattle.font.proofs.Written.{back}
use Rattle.font.proofs.components.StoredTransformDisplay.fmt.Goals as goal

pub returns-clause-writes : goal.returns-clause-writes
returns-clause-writes g c plain ok =
    let t = c.args.self.now in
    let a : SFits w16 t.translate_x = search rules in
    let b : SFits w16 t.translate_y = search rules in
    let d : SFits w16 t.rotation = search rules in
    let e : SFits w16 t.scale_x = search rules in
    let f : SFits w16 t.scale_y = search rules in
    let h : SFits w16 t.skew_x = search rules in
    let i : SFits w16 t.skew_y = search rules in
    let j : SFits w16 t.center_x = search rules in
    let k : SFits w16 t.center_y = search rules in
    let one = rw (back t.translate_x t.translate_x a refl, back t.translate_y t.translate_y b refl) at (c.write.ensures.writes plain (search rules)) in
    let two = rw (back t.rotation t.rotation d refl, back t.scale_x t.scale_x e refl) at (c.write-2.ensures.writes one.plain (search rules)) in
    let three = rw (back t.scale_y t.scale_y f refl, back t.skew_x t.skew_x h refl) at (c.write-3.ensures.writes two.plain (search rules)) in
    let four = rw (back t.skew_y t.skew_y i refl, back t.center_x t.center_x j refl) at (c.write-4.ensures.writes three.plain (search rules)) in
    let five = rw (back t.center_y t.center_y k refl) at (c.write-5.ensures.writes four.plain ok) in
    put_five _ _ _ _ _ _ _ _ _ _ _ _ _ one two three four five refl
