-- A list that stands in a slice.
use Rattle.std.specs.Prelude.{ℕ, ◌+◌, cond, ◌&&◌, List, length, take, drop, Some, None, Option, nat_le}
use Rattle.directory.specs.declared.items.Span.{Span}

-- The items of a span; none where they are more than the most, or go past the slice.
abbrev pub part_of : {X : Type 0} → List X → Span → ℕ → Option (List X)
part_of xs span most = cond (nat_le span.count most && nat_le (span.start + span.count) (length xs)) (Some (take span.count (drop span.start xs))) None

-- The items of a span, if there is one.
abbrev pub of_span : {X : Type 0} → List X → Option Span → ℕ → Option (List X)
of_span xs None most = None
of_span xs (Some span) most = part_of xs span most
