-- Extracts keep within the maximums of what is below them.
use Rattle.std.specs.Prelude.{ℕ, ◌≤◌, Bool, true, false, cond, List, length, None, Option}
use Rattle.std.proofs.Common.{zero-le}
use Rattle.numbers.specs.Types.{glyph}
use Rattle.font.specs.declared.heads.Head.{Head}
use Rattle.font.specs.declared.variations.RegionAxis.{RegionAxis}
use Rattle.font.specs.Replies.{GlyphReply, not_covered, ConditionReply, missing, DeltaSet, parts, values_at, steps_of, list_of, set_regions, set_deltas}
use Rattle.font.specs.Maximums.{Bounded}
use Rattle.store.specs.Replies.{OutlineReply, missing as no_outline, outcome, Short}
use Rattle.trace.specs.declared.entries.Entry.{Entry}
use Rattle.trace.specs.declared.entries.Entry.TheVariants.{Glyph, Condition, AxisList, Region, DeltaSet as Deltas, Outline}
use Rattle.trace.specs.Entries.{has}
use Rattle.trace.specs.Extracts.{left_glyphs, left_conditions, left_lists, left_regions, left_sets, left_outlines}

-- what holds below and of nothing holds of what an extract shows
either : {X : Type 0} (P : X → Type 0) (b : Bool) (x none : X) → P x → P none → P (cond b x none)
either P true x none h k = h
either P false x none h k = k

module _ (es : List Entry) where
  pub extract_bounded : {h : Head} {g : ℕ → GlyphReply} {c : ℕ → ConditionReply} {l : ℕ → Option (List ℕ)} {r : ℕ → Option (List RegionAxis)} {d : ℕ → Option DeltaSet} → Bounded h g c l r d
      → Bounded h (left_glyphs es g) (left_conditions es c) (left_lists es l) (left_regions es r) (left_sets es d)
  extract_bounded {h} {g} {c} {l} {r} {d} b = record {
    few_axes = b.few_axes;
    few_parts = λ n. either (λ x. length (parts x) ≤ 65535) (has es (Glyph (glyph n))) (g n) not_covered (b.few_parts n) zero-le;
    few_values = λ n i. either (λ x. length (list_of (values_at x i)) ≤ 64) (has es (Glyph (glyph n))) (g n) not_covered (b.few_values n i) zero-le;
    few_steps = λ n. either (λ x. length (steps_of x) ≤ 255) (has es (Condition n)) (c n) missing (b.few_steps n) zero-le;
    few_listed = λ n. either (λ x. length (list_of x) ≤ 64) (has es (AxisList n)) (l n) None (b.few_listed n) zero-le;
    few_region_axes = λ n. either (λ x. length (list_of x) ≤ 64) (has es (Region n)) (r n) None (b.few_region_axes n) zero-le;
    few_regions = λ n. either (λ x. length (set_regions x) ≤ 65535) (has es (Deltas n)) (d n) None (b.few_regions n) zero-le;
    few_deltas = λ n. either (λ x. length (set_deltas x) ≤ 65535) (has es (Deltas n)) (d n) None (b.few_deltas n) zero-le;
  }

  pub extract_short : (o : ℕ → OutlineReply) → Short o → Short (left_outlines es o)
  extract_short o short g location size style = either (λ x. length (outcome x location size style).strokes ≤ 65535) (has es (Outline (glyph g))) (o g) no_outline (short g location size style) zero-le
