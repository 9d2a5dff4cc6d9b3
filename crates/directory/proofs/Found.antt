-- The place of a number among rising ones.
use Rattle.std.proofs.Common.{◌≡◌, ℕ, zero, suc, ◌<◌, ◌≤◌, Bool, true, false, cond, eqb, ltb, List, [], ◌∷◌, length, get_or, Some, None, Ok, Err, Result, nat_cmp, sym, refl, ap, ◌∙◌, subst, le_refl, arith, ltb-false, ltb-true, eq-eqb, ne_eqb, eqb-true}
use borrow.Author.Tests.{eqb-false}
use Rattle.std.specs.Option.{option_map}
use Rattle.std.specs.Result.{result_ok}
use Rattle.std.specs.List.Sorted.{IsBinarySearchResult}
use Rattle.std.proofs.lemmas.List.Sorted.{searched}
use Rattle.directory.specs.Rising.{Rises}
use Rattle.directory.specs.Places.{place_of}

rises_rest : (x : ℕ) (xs : List ℕ) → Rises (x ∷ xs) → Rises xs
rises_rest x xs r i j h k = r (suc i) (suc j) (omega arith) (omega arith)

-- a number that stands at i stands there first
pub place_found : (xs : List ℕ) (n i : ℕ) → Rises xs → i < length xs → get_or xs i 0 ≡ n → place_of xs n ≡ Some i
place_found [] n i r h e = absurd (omega arith)
place_found (x ∷ xs) n zero r h e = ap (λ b. cond b (Some 0) (option_map suc (place_of xs n))) (eq-eqb x n e)
place_found (x ∷ xs) n (suc i) r h e =
    let below : x < get_or xs i 0 = r 0 (suc i) (omega arith) h in
    ap (λ b. cond b (Some 0) (option_map suc (place_of xs n))) (ne_eqb x n (λ q. omega (arith, below, e, q)))
    ∙ ap (option_map suc) (place_found xs n i (rises_rest x xs r) (omega arith) e)

-- a number that stands nowhere has no place
pub place_none : (xs : List ℕ) (n : ℕ) → ((k : ℕ) → k < length xs → get_or xs k 0 ≡ n → ⊥) → place_of xs n ≡ None
place_none [] n h = refl
place_none (x ∷ xs) n h =
    ap (λ b. cond b (Some 0) (option_map suc (place_of xs n))) (ne_eqb x n (h 0 (omega arith)))
    ∙ ap (option_map suc) (place_none xs n (λ k l. h (suc k) (omega arith)))

-- numbers that rise do not fall
pub rises_level : (xs : List ℕ) → Rises xs → (i j : ℕ) → i ≤ j → j < length xs → get_or xs i 0 ≤ get_or xs j 0
rises_level xs r i j h k = go (eqb i j) refl
  where
    go : (b : Bool) → eqb i j ≡ b → get_or xs i 0 ≤ get_or xs j 0
    go true q = let e = eqb-true i j q in subst (λ m. get_or xs i 0 ≤ get_or xs m 0) e (le_refl (get_or xs i 0))
    go false q = let up = r i j (omega (arith, eqb-false i j q)) k in omega (arith, up)

-- where a search stopped at i, with smaller numbers before and larger ones after, none is equal
pub between : (xs : List ℕ) (n i : ℕ) → (i ≤ length xs) × ((k : ℕ) → k < i → get_or xs k 0 < n) × ((k : ℕ) → i ≤ k → k < length xs → n < get_or xs k 0)
    → (k : ℕ) → k < length xs → get_or xs k 0 ≡ n → ⊥
between xs n i h k l e = go (ltb k i) refl
  where
    go : (b : Bool) → ltb k i ≡ b → ⊥
    go true q = omega (arith, h.1 k (ltb-true k i q), e)
    go false q = omega (arith, h.2 k (omega (arith, ltb-false k i q)) l, e)

-- what a search by halves finds is the place
pub place_searched : (xs : List ℕ) (n : ℕ) (r : Result ℕ ℕ) → Rises xs → IsBinarySearchResult (λ y. nat_cmp y n) xs r → result_ok r ≡ place_of xs n
place_searched xs n (Ok i) rises found = let s = searched xs n (Ok i) found (rises_level xs rises) in sym (place_found xs n i rises s.0 s.1)
place_searched xs n (Err i) rises found = sym (place_none xs n (between xs n i (searched xs n (Err i) found (rises_level xs rises))))
