-- Not found by the check alone.
use Rattle.std.proofs.Common.{rules, ◌≡◌, nat_lt, ap, sym, subst, ◌∙◌}
use Rattle.std.proofs.lemmas.List.Sorted.{answers_always}
use Rattle.directory.specs.Rising.{Rises, rising}
use Rattle.directory.proofs.Risen.{risen, risen_or, match_map}
use Rattle.directory.proofs.search.risen.Goals as goal

-- the closure compares two numbers, and the first part of the slice is what comes
pub returns : goal.returns
returns c =
    let xs = c.chunk_by.result.rest.now in
    let all : c.args.numbers.now ≡ xs = sym c.chunk_by.ensures.rest in
    let parts = match_map c.next.result (λ h. h.0) (λ p h. risen xs p.now c.next.new.self.rest.now h.0 h.1 (h.2 nat_lt (answers_always _ _ _ (λ f a r g called. search rules))).1) c.next.ensures.steps in
    let both = risen_or xs c.next.result c.args.numbers all parts in
    let is = sym c.unwrap_or.ensures in
    record { rises = subst (λ b. Rises b.now) is both.0; front = ap (λ b. b.now) (sym is) ∙ both.1 ∙ ap rising (sym all) }
