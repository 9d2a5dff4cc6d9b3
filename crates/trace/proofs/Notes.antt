-- One entry more in memory that is lent.
use Rattle.std.proofs.Common.{◌≡◌, ℕ, ◌+◌, ◌<◌, ◌≤◌, true, false, cond, ◌||◌, ltb, List, [], ◌∷◌, ◌++◌, length, take, set, sym, refl, ap, ◌∙◌, Bool, arith}
use Rattle.std.proofs.lemmas.List.{length-take-le, take_more_set}
use Rattle.std.proofs.lemmas.Bool.{lt-ltb}
use Rattle.std.specs.List.{list_any}
use Rattle.trace.specs.declared.entries.Entry.{Entry}
use Rattle.trace.specs.Entries.{same, has}
use Rattle.trace.specs.Asks.{listing, keeps, no_room}

pub listing_appends : (es : List Entry) (n len : ℕ) (e : Entry) → n ≤ length es → len < n → has (take len es) e ≡ false → listing n (take len es) e ≡ keeps (take (len + 1) (set es len e))
listing_appends es n len e room more out =
    let size : length (take len es) ≡ len = length-take-le len es (omega arith) in
    let test : ltb (length (take len es)) n ≡ true = lt-ltb (length (take len es)) n (omega arith) in
    ap (λ b. cond b (keeps (take len es)) (cond (ltb (length (take len es)) n) (keeps (take len es ++ (e ∷ []))) no_room)) out
    ∙ ap (λ b. cond b (keeps (take len es ++ (e ∷ []))) no_room) test
    ∙ ap keeps (sym (take_more_set es len e (omega arith)))

-- an entry stands in a list where any of it is that entry
pub has_any : (f : Entry → Bool) (e : Entry) → ((x : Entry) → f x ≡ same x e) → (es : List Entry) → list_any f es ≡ has es e
has_any f e h [] = refl
has_any f e h (x ∷ es) = ap (λ b. b || list_any f es) (h x) ∙ ap (λ b. same x e || b) (has_any f e h es)
