-- How the parts of records are written.
use Rattle.std.specs.Prelude.{ℕ, ℤ, List, ◌++◌, codes, decimal}
use Rattle.std.specs.Fmt.{signed_decimal}
use Rattle.font.specs.declared.components.StoredTransform.{StoredTransform}
use Rattle.font.specs.declared.components.ListEnd.{ListEnd}
use Rattle.font.specs.declared.components.ListEnd.TheVariants.{Well, Flaw}
use Rattle.font.specs.declared.conditions.Step.{Step}
use Rattle.font.specs.declared.conditions.Step.TheVariants.{Range, Value, Both, Either, Not}
use Rattle.font.specs.declared.variations.RegionAxis.{RegionAxis}

-- as `range 1 -8192 8192` and `value -5 3`; coordinates as counts of 1/16,384
abbrev pub step_text : Step → List ℕ
step_text (Range a l m) = codes "range " ++ decimal a ++ codes " " ++ signed_decimal l.0 ++ codes " " ++ signed_decimal m.0
step_text (Value d n) = codes "value " ++ signed_decimal d ++ codes " " ++ decimal n
step_text Both = codes "both"
step_text Either = codes "either"
step_text Not = codes "not"

-- the axis, then start, peak and end, as `1 0 16384 16384`
abbrev pub axis_text : RegionAxis → List ℕ
axis_text a = decimal a.axis ++ (codes " " ++ (signed_decimal a.start.0 ++ (codes " " ++ (signed_decimal a.peak.0 ++ (codes " " ++ signed_decimal a.end.0)))))

-- two numbers, each after its key
abbrev pub pair_text : List ℕ → ℤ → List ℕ → ℤ → List ℕ
pair_text k x l y = k ++ (signed_decimal x ++ (l ++ signed_decimal y))

-- each number after its key, as `tx 100 ty 0 rot 0 ..`
abbrev pub transform_text : StoredTransform → List ℕ
transform_text t =
    pair_text (codes "tx ") t.translate_x (codes " ty ") t.translate_y
    ++ (pair_text (codes " rot ") t.rotation (codes " sx ") t.scale_x
    ++ (pair_text (codes " sy ") t.scale_y (codes " kx ") t.skew_x
    ++ (pair_text (codes " ky ") t.skew_y (codes " cx ") t.center_x
    ++ (codes " cy " ++ signed_decimal t.center_y))))

-- how a component list ends
abbrev pub end_text : ListEnd → List ℕ
end_text Well = codes "well"
end_text Flaw = codes "in a flaw"
