-- Numbers up to where they stop rising.
use Rattle.std.proofs.Common.{◌≡◌, ℕ, zero, suc, ◌+◌, ◌-◌, ◌<◌, ◌≤◌, true, cond, ltb, nat_lt, List, [], ◌∷◌, ◌++◌, length, get_or, take, Some, None, Option, Bor, sym, refl, ap, ◌∙◌, subst, arith, ltb-false, ltb-true, le-ltb, lt-ltb}
use Rattle.std.specs.List.{IsChunkByPrefix}
use Rattle.std.specs.Option.{MatchOption, unwrap_or}
use Rattle.std.proofs.lemmas.List.Prefix.{front_fits}
use Rattle.std.proofs.Math.Seq.{take-append_seam}
use Rattle.std.proofs.lemmas.List.{get_or-take, length-take-le}
use Rattle.directory.specs.Rising.{Rises, rising_from, rising}

-- Each of the first n numbers is above the one before it.
abbrev pub Steps : List ℕ → ℕ → Type 0
Steps xs n = (k : ℕ) → suc k < n → get_or xs k 0 < get_or xs (suc k) 0

-- numbers further apart rise too
far : (xs : List ℕ) (n i d : ℕ) → Steps xs n → suc (i + d) < n → get_or xs i 0 < get_or xs (suc (i + d)) 0
far xs n i zero steps h = let e : i + 0 ≡ i = omega arith in subst (λ m. get_or xs i 0 < get_or xs (suc m) 0) (sym e) (steps i (omega arith))
far xs n i (suc d) steps h =
    let e : i + suc d ≡ suc (i + d) = omega arith in
    let one = far xs n i d steps (omega arith) in
    let two = steps (suc (i + d)) (omega arith) in
    subst (λ m. get_or xs i 0 < get_or xs (suc m) 0) (sym e) (omega (arith, one, two))

pub rises_front : (xs : List ℕ) (n : ℕ) → n ≤ length xs → Steps xs n → Rises (take n xs)
rises_front xs n fits steps i j h k =
    let len = length-take-le n xs fits in
    let within : j < n = omega arith in
    let e : suc (i + (j - i - 1)) ≡ j = omega arith in
    let up : get_or xs i 0 < get_or xs j 0 = subst (λ m. get_or xs i 0 < get_or xs m 0) e (far xs n i (j - i - 1) steps (omega arith)) in
    let at_i = get_or-take n xs i 0 (omega arith) in
    let at_j = get_or-take n xs j 0 within in
    omega (arith, up, at_i, at_j)

-- the first n numbers after x, where the next does not rise
front_from : (x : ℕ) (xs : List ℕ) (n : ℕ) → n ≤ length xs → Steps (x ∷ xs) (suc n) → (n < length xs → get_or xs n 0 ≤ get_or (x ∷ xs) n 0) → take n xs ≡ rising_from x xs
front_from x [] zero fits steps stop = refl
front_from x [] (suc n) fits steps stop = refl
front_from x (y ∷ ys) zero fits steps stop = ap (λ b. cond b (y ∷ rising_from y ys) []) (sym (le-ltb x y (stop (omega arith))))
front_from x (y ∷ ys) (suc n) fits steps stop =
    let up : x < y = steps 0 (omega arith) in
    ap (λ zs. y ∷ zs) (front_from y ys n (omega arith) (λ k h. steps (suc k) (omega arith)) (λ h. stop (omega arith)))
    ∙ ap (λ b. cond b (y ∷ rising_from y ys) []) (sym (lt-ltb x y up))

pub front_is : (xs : List ℕ) (n : ℕ) → n ≤ length xs → (0 < length xs → 0 < n) → Steps xs n → (n < length xs → get_or xs n 0 ≤ get_or xs (n - 1) 0) → take n xs ≡ rising xs
front_is [] zero fits some steps stop = refl
front_is [] (suc n) fits some steps stop = refl
front_is (x ∷ xs) zero fits some steps stop = absurd (omega (arith, some (omega arith)))
front_is (x ∷ xs) (suc n) fits some steps stop =
    let e : suc n - 1 ≡ n = omega arith in
    ap (λ zs. x ∷ zs) (front_from x xs n (omega arith) steps (λ h. subst (λ m. get_or xs n 0 ≤ get_or (x ∷ xs) m 0) e (stop (omega arith))))

-- The longest front in which each is below the next is what rises, and it rises.
pub risen : (xs p rest : List ℕ) → xs ≡ p ++ rest → 0 < length p → IsChunkByPrefix nat_lt xs (length p) → Rises p × (p ≡ rising xs)
risen xs p rest split some first =
    let n = length p in
    let front : take n xs ≡ p = ap (take n) split ∙ take-append_seam p rest in
    let fits : n ≤ length xs = front_fits xs p rest split in
    let steps : Steps xs n = λ k h. ltb-true (get_or xs k 0) (get_or xs (suc k) 0) (let e : k + 1 ≡ suc k = omega arith in subst (λ m. ltb (get_or xs k 0) (get_or xs m 0) ≡ true) e (first.0 k 0 (omega (arith, h)))) in
    let stop : n < length xs → get_or xs n 0 ≤ get_or xs (n - 1) 0 = λ h. ltb-false (get_or xs (n - 1) 0) (get_or xs n 0) (first.1 h 0) in
    (subst Rises front (rises_front xs n fits steps), sym front ∙ front_is xs n fits (λ h. some) steps stop)

-- Where there is no front there are no numbers.
pub risen_or : (xs : List ℕ) (o : Option (Bor (List ℕ))) (d : Bor (List ℕ)) → d.now ≡ xs → MatchOption o (length xs ≡ 0) (λ p. Rises p.now × (p.now ≡ rising xs))
    → Rises (unwrap_or o d).now × ((unwrap_or o d).now ≡ rising xs)
risen_or [] None d e h = (λ i j a b. absurd (let l = ap length e in omega (arith, l, b)), e)
risen_or (x ∷ xs) None d e h = absurd (omega (arith, h))
risen_or xs (Some p) d e h = h

pub match_map : {X A B : Type 0} {P Q : X → Type 0} (o : Option X) → (A → B) → ((x : X) → P x → Q x) → MatchOption o A P → MatchOption o B Q
match_map None f g h = f h
match_map (Some x) f g h = g x h
