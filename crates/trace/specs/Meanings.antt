-- What fonts and outline stores show: a reply to every entry.
use Rattle.std.specs.Prelude.{ℕ, List, ℤ, Option}
use Rattle.numbers.specs.declared.fixed.F2Dot14.{F2Dot14}
use Rattle.font.specs.declared.heads.Head.{Head}
use Rattle.font.specs.declared.variations.RegionAxis.{RegionAxis}
use Rattle.font.specs.Replies.{GlyphReply, ConditionReply, DeltaSet}
use Rattle.store.specs.Replies.{OutlineReply}
use Rattle.trace.specs.declared.entries.Entry.{Entry}
use Rattle.trace.specs.declared.entries.Entry.TheVariants.{Glyph, Condition, AxisList, Region, DeltaSet as Deltas, Outline, Width}

-- the type of the reply to an entry
abbrev pub Reply : Entry → Type 0
Reply (Glyph g) = GlyphReply
Reply (Condition n) = ConditionReply
Reply (AxisList n) = Option (List ℕ)
Reply (Region n) = Option (List RegionAxis)
Reply (Deltas n) = Option DeltaSet
Reply (Outline g) = OutlineReply
Reply (Width g) = List F2Dot14 → ℤ

-- what a font shows
pub record FontMeaning : Type 0 where
  pub head : Head
  pub glyph : ℕ → GlyphReply
  pub condition : ℕ → ConditionReply
  pub axes : ℕ → Option (List ℕ)
  pub region : ℕ → Option (List RegionAxis)
  pub deltas : ℕ → Option DeltaSet

-- what an outline store shows
pub record StoreMeaning : Type 0 where
  pub outline : ℕ → OutlineReply
  pub width : ℕ → List F2Dot14 → ℤ

-- what a font and a store show together
pub record Meaning : Type 0 where
  pub font : FontMeaning
  pub store : StoreMeaning

abbrev pub head_of : Meaning → Head
head_of m = m.font.head

abbrev pub reply : Meaning → (e : Entry) → Reply e
reply m (Glyph g) = m.font.glyph g.0
reply m (Condition n) = m.font.condition n
reply m (AxisList n) = m.font.axes n
reply m (Region n) = m.font.region n
reply m (Deltas n) = m.font.deltas n
reply m (Outline g) = m.store.outline g.0
reply m (Width g) = m.store.width g.0
