-- Strokes whose points are each taken elsewhere.
use Rattle.std.specs.Prelude.{◌≡◌, Float}
use Rattle.outline.specs.declared.strokes.Stroke.{Stroke}
use Rattle.outline.specs.declared.strokes.Stroke.TheVariants.{Move, Line, Quad, Curve, Close}

-- a stroke with each point (x, y) taken to f x y
abbrev pub mapped : (Float → Float → Float × Float) → Stroke → Stroke
mapped f (Move x y) = Move (f x y).0 (f x y).1
mapped f (Line x y) = Line (f x y).0 (f x y).1
mapped f (Quad a b x y) = Quad (f a b).0 (f a b).1 (f x y).0 (f x y).1
mapped f (Curve a b c d x y) = Curve (f a b).0 (f a b).1 (f c d).0 (f c d).1 (f x y).0 (f x y).1
mapped f Close = Close

-- the stroke l is k with each point taken to one that R allows
abbrev pub MapsPoints : (Float → Float → Float × Float → Type 0) → Stroke → Stroke → Type 0
MapsPoints R (Move x y) l = (p : Float × Float) × R x y p × (l ≡ Move p.0 p.1)
MapsPoints R (Line x y) l = (p : Float × Float) × R x y p × (l ≡ Line p.0 p.1)
MapsPoints R (Quad a b x y) l = (p : Float × Float) × (q : Float × Float) × R a b p × R x y q × (l ≡ Quad p.0 p.1 q.0 q.1)
MapsPoints R (Curve a b c d x y) l = (p : Float × Float) × (q : Float × Float) × (r : Float × Float) × R a b p × R c d q × R x y r × (l ≡ Curve p.0 p.1 q.0 q.1 r.0 r.1)
MapsPoints R Close l = l ≡ Close
