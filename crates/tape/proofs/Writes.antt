-- Bytes written one after the other.
use Rattle.std.proofs.Common.{◌≡◌, ℕ, ◌+◌, ◌*◌, ◌<◌, ◌≤◌, List, [], ◌∷◌, ◌++◌, length, get_or, take, drop, sym, refl, ap, ◌∙◌, append_assoc, add-zero, add_assoc, arith, length-append, length-take}
use Rattle.std.specs.List.{flat_map}
use Rattle.std.proofs.lemmas.List.{take-append-drop, take_at, drop_at, drop-drop, drop_more}
use lib.Ieee.{Float}
use Rattle.tape.specs.Tape.{word, written}

-- no bytes change nothing
pub written_none : (ds : List ℕ) (i : ℕ) → written ds i [] ≡ ds
written_none ds i = rw add-zero (take-append-drop i ds)

-- bytes, and then more right after them
pub written_more : (ds : List ℕ) (i : ℕ) (bs cs : List ℕ) → i + length bs ≤ length ds → written (written ds i bs) (i + length bs) cs ≡ written ds i (bs ++ cs)
written_more ds i bs cs h =
    let a : length (take i ds ++ bs) ≡ i + length bs = simp (length-append, length-take) (omega arith) in
    let s : written ds i bs ≡ (take i ds ++ bs) ++ drop (i + length bs) ds = sym (append_assoc (take i ds) bs (drop (i + length bs) ds)) in
    let t : take (i + length bs) (written ds i bs) ≡ take i ds ++ bs = rw s (take_at (take i ds ++ bs) (drop (i + length bs) ds) (i + length bs) a) in
    let u : drop (i + length bs) (written ds i bs) ≡ drop (i + length bs) ds = rw s (drop_at (take i ds ++ bs) (drop (i + length bs) ds) (i + length bs) a) in
    let v : drop (i + length bs + length cs) (written ds i bs) ≡ drop (i + length (bs ++ cs)) ds =
    sym (drop-drop (length cs) (i + length bs) (written ds i bs)) ∙ ap (drop (length cs)) u ∙ drop-drop (length cs) (i + length bs) ds ∙ ap (λ n. drop n ds) (simp (length-append, add_assoc)) in
    rw (t, v) (simp append_assoc)

-- a coordinate, and then those after it
pub words_more : (ds es : List ℕ) (e f i : ℕ) (xs : List Float) (d : Float) → i < length xs → e + 4 ≤ length ds → f ≡ e + 4 → es ≡ written ds e (word (get_or xs i d))
    → written es f (flat_map word (drop (i + 1) xs)) ≡ written ds e (flat_map word (drop i xs))
words_more ds es e f i xs d h room step one =
    rw (step, one) (written_more ds e (word (get_or xs i d)) (flat_map word (drop (i + 1) xs)) room ∙ sym (ap (λ ys. written ds e (flat_map word ys)) (drop_more xs i d h)))

pub length-words : (xs : List Float) → length (flat_map word xs) ≡ 4 * length xs
length-words [] = refl
length-words (x ∷ xs) = simp length-append (omega (arith, length-words xs))
