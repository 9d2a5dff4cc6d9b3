-- The law of the reading list, for every drawing that is a tree of questions, all meanings, limits and list sizes, and any calls in a row.
use Rattle.std.specs.Prelude.{◌≡◌, ℕ, true, List, [], map}
use Rattle.numbers.specs.declared.fixed.F2Dot14.{F2Dot14}
use Rattle.numbers.specs.declared.sizes.Size.{Size}
use Rattle.outline.specs.declared.strokes.PathStyle.{PathStyle}
use Rattle.font.specs.declared.heads.Head.{Head}
use Rattle.store.specs.Replies.{OutlineReply, need_of, outcome}
use Rattle.trace.specs.declared.entries.Entry.{Entry}
use Rattle.trace.specs.declared.entries.Entry.TheVariants.{Glyph, Condition, AxisList, Region, DeltaSet, Outline, Width}
use Rattle.trace.specs.declared.limits.Limits.{Limits}
use Rattle.trace.specs.Entries.{has, Once, firsts}
use Rattle.trace.specs.Meanings.{Reply, Meaning, head_of, reply}
use Rattle.trace.specs.Asks.{Asks, Runs, runs, listing, logging}
use Rattle.trace.specs.Extracts.{piled}

-- ---- calls

-- How calls of type C draw: from the head, the limits and the call alone, a tree of questions.
abbrev pub Drawing : Type 0 → Type 0 → Type 0
Drawing C A = Head → Limits → C → Asks A

abbrev pub trees : {C A : Type 0} → Drawing C A → Limits → Meaning → List C → List (Asks A)
trees draw lim m calls = map (draw (head_of m) lim) calls

-- Calls on a fresh tracer with a list of at most size entries.
abbrev pub traced : {C A : Type 0} → Drawing C A → Limits → ℕ → Meaning → List C → Runs A
traced draw lim size m calls = runs (listing size) (reply m) (trees draw lim m calls) []

-- The plain run of the calls, which keeps a log of every entry consulted, repeats too.
abbrev pub plain : {C A : Type 0} → Drawing C A → Limits → ℕ → Meaning → List C → Runs A
plain draw lim size m calls = runs (logging size) (reply m) (trees draw lim m calls) []

-- ---- a match

-- Two replies to an entry are alike: equal, of outlines and widths at every location, size and style.
abbrev pub AlikeOutlines : OutlineReply → OutlineReply → Type 0
AlikeOutlines a b = (need_of a ≡ need_of b) × ((location : List F2Dot14) (size : Size) (style : PathStyle) → outcome a location size style ≡ outcome b location size style)

abbrev pub Alike : (e : Entry) → Reply e → Reply e → Type 0
Alike (Glyph g) a b = a ≡ b
Alike (Condition n) a b = a ≡ b
Alike (AxisList n) a b = a ≡ b
Alike (Region n) a b = a ≡ b
Alike (DeltaSet n) a b = a ≡ b
Alike (Outline g) a b = AlikeOutlines a b
Alike (Width g) a b = (location : List F2Dot14) → a location ≡ b location

-- A match of m on a list: the same head, and a reply alike to every entry of the list, whatever else it replies.
pub record Match (es : List Entry) (m m' : Meaning) : Type 0 where
  pub heads : head_of m' ≡ head_of m
  pub replies : (e : Entry) → has es e ≡ true → Alike e (reply m' e) (reply m e)

-- **Repeats.** Over any match of the list after the calls, the calls give the same answers, refusals, strokes and list.
abbrev pub Repeats : Type 0 → Type 0 → Type 0
Repeats C A = (draw : Drawing C A) (lim : Limits) (size : ℕ) (m m' : Meaning) (calls : List C)
    → Match (traced draw lim size m calls).kept m m' → traced draw lim size m' calls ≡ traced draw lim size m calls

-- ---- extracts

-- **Extracts match.** Extracts by any list, in piles however deep over font and store, are a match on that list.
abbrev pub ExtractsMatch : Type 0
ExtractsMatch = (es : List Entry) (m : Meaning) (n k : ℕ) → Match es m (piled n k es m)

-- Hence a repeat over extracts by the closed list is the same.
abbrev pub Redraws : Type 0 → Type 0 → Type 0
Redraws C A = (draw : Drawing C A) (lim : Limits) (size : ℕ) (m : Meaning) (calls : List C) (n k : ℕ)
    → traced draw lim size (piled n k (traced draw lim size m calls).kept m) calls ≡ traced draw lim size m calls

-- ---- the list is exact

-- **The list is exact.** Answers, refusals and strokes are those of the plain run, and the list has exactly the entries that it consults, each once, by first consulting.
pub record Exact {A : Type 0} (listed logged : Runs A) : Type 0 where
  pub same_calls : listed.calls ≡ logged.calls
  pub by_first : listed.kept ≡ firsts logged.kept
  pub each_once : Once listed.kept
  pub no_other : (e : Entry) → has listed.kept e ≡ has logged.kept e

abbrev pub ListsExactly : Type 0 → Type 0 → Type 0
ListsExactly C A = (draw : Drawing C A) (lim : Limits) (size : ℕ) (m : Meaning) (calls : List C) → Exact (traced draw lim size m calls) (plain draw lim size m calls)
