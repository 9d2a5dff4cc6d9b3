-- The law of the reading list.
use Rattle.std.proofs.Common.{◌≡◌, ℕ, zero, suc, true, cond, List, [], map, pos, None, sym, refl, ap, ◌∙◌, subst}
use mathlib.Core.Path.{fun_ext}
use Rattle.font.specs.Replies.{not_covered, missing as no_condition}
use Rattle.store.specs.Replies.{OutlineReply, missing, inked, need_of, outcome}
use Rattle.trace.specs.declared.entries.Entry.{Entry}
use Rattle.trace.specs.declared.entries.Entry.TheVariants.{Glyph, Condition, AxisList, Region, DeltaSet, Outline, Width}
use Rattle.trace.specs.Entries.{has, Once}
use Rattle.trace.specs.Meanings.{Reply, FontMeaning, StoreMeaning, Meaning, reply}
use Rattle.trace.specs.Asks.{runs, listing}
use Rattle.trace.specs.Law.{trees, traced, plain, Alike, AlikeOutlines, Repeats, ExtractsMatch, Redraws, ListsExactly}
use Rattle.trace.specs.Extracts.{extract_font, extract_store, font_pile, store_pile, piled}
use Rattle.trace.proofs.Lists.{has-firsts, Once-firsts}
use Rattle.trace.proofs.Runs.{all_listed, all_same}

-- ---- alike is equal

alike_outlines : (a b : OutlineReply) → AlikeOutlines a b → a ≡ b
alike_outlines missing missing h = refl
alike_outlines missing (inked n f) h = let e = h.0 in cc
alike_outlines (inked n f) missing h = let e = h.0 in cc
alike_outlines (inked n f) (inked k g) h =
    let e = h.0 in
    let needs : n ≡ k = cc in
    ap (λ x. inked x f) needs ∙ ap (inked k) (fun_ext (λ location. fun_ext (λ size. fun_ext (λ style. h.1 location size style))))

alike_same : (e : Entry) (a b : Reply e) → Alike e a b → a ≡ b
alike_same (Glyph g) a b h = h
alike_same (Condition n) a b h = h
alike_same (AxisList n) a b h = h
alike_same (Region n) a b h = h
alike_same (DeltaSet n) a b h = h
alike_same (Outline g) a b h = alike_outlines a b h
alike_same (Width g) a b h = fun_ext h

-- ---- repeats

pub repeats : {C A : Type 0} → Repeats C A
repeats draw lim size m m' calls h =
    ap (λ top. runs (listing size) (reply m') (map (draw top lim) calls) []) h.heads
    ∙ all_same size (reply m) (reply m') (trees draw lim m calls) [] (λ e q. alike_same e (reply m' e) (reply m e) (h.replies e q))

-- ---- extracts

same_alike : (e : Entry) (a b : Reply e) → a ≡ b → Alike e a b
same_alike (Glyph g) a b h = h
same_alike (Condition n) a b h = h
same_alike (AxisList n) a b h = h
same_alike (Region n) a b h = h
same_alike (DeltaSet n) a b h = h
same_alike (Outline g) a b h = (ap need_of h, λ location size style. ap (λ o. outcome o location size style) h)
same_alike (Width g) a b h = λ location. ap (λ w. w location) h

abbrev both : FontMeaning → StoreMeaning → Meaning
both f s = record { font = f; store = s }

-- what is listed, an extract shows
font_shows : (es : List Entry) (f : FontMeaning) (s : StoreMeaning) (e : Entry) → has es e ≡ true → reply (both (extract_font es f) s) e ≡ reply (both f s) e
font_shows es f s (Glyph g) h = ap (λ b. cond b (f.glyph g.0) not_covered) h
font_shows es f s (Condition n) h = ap (λ b. cond b (f.condition n) no_condition) h
font_shows es f s (AxisList n) h = ap (λ b. cond b (f.axes n) None) h
font_shows es f s (Region n) h = ap (λ b. cond b (f.region n) None) h
font_shows es f s (DeltaSet n) h = ap (λ b. cond b (f.deltas n) None) h
font_shows es f s (Outline g) h = refl
font_shows es f s (Width g) h = refl

store_shows : (es : List Entry) (f : FontMeaning) (s : StoreMeaning) (e : Entry) → has es e ≡ true → reply (both f (extract_store es s)) e ≡ reply (both f s) e
store_shows es f s (Glyph g) h = refl
store_shows es f s (Condition n) h = refl
store_shows es f s (AxisList n) h = refl
store_shows es f s (Region n) h = refl
store_shows es f s (DeltaSet n) h = refl
store_shows es f s (Outline g) h = ap (λ b. cond b (s.outline g.0) missing) h
store_shows es f s (Width g) h = ap (λ b. cond b (s.width g.0) (λ location. pos 0)) h

-- and so do piles of them
font_pile_shows : (n : ℕ) (es : List Entry) (f : FontMeaning) (s : StoreMeaning) (e : Entry) → has es e ≡ true → reply (both (font_pile n es f) s) e ≡ reply (both f s) e
font_pile_shows zero es f s e h = refl
font_pile_shows (suc n) es f s e h = font_shows es (font_pile n es f) s e h ∙ font_pile_shows n es f s e h

store_pile_shows : (k : ℕ) (es : List Entry) (f : FontMeaning) (s : StoreMeaning) (e : Entry) → has es e ≡ true → reply (both f (store_pile k es s)) e ≡ reply (both f s) e
store_pile_shows zero es f s e h = refl
store_pile_shows (suc k) es f s e h = store_shows es f (store_pile k es s) e h ∙ store_pile_shows k es f s e h

pile_head : (n : ℕ) (es : List Entry) (f : FontMeaning) → (font_pile n es f).head ≡ f.head
pile_head zero es f = refl
pile_head (suc n) es f = pile_head n es f

pub extracts_match : ExtractsMatch
extracts_match es m n k = record {
  heads = pile_head n es m.font;
  replies = λ e h. same_alike e (reply (piled n k es m) e) (reply m e) (font_pile_shows n es m.font (store_pile k es m.store) e h ∙ store_pile_shows k es m.font m.store e h);
}

pub redraws : {C A : Type 0} → Redraws C A
redraws draw lim size m calls n k =
    let es = (traced draw lim size m calls).kept in
    repeats draw lim size m (piled n k es m) calls (extracts_match es m n k)

-- ---- the list is exact

pub lists_exactly : {C A : Type 0} → ListsExactly C A
lists_exactly draw lim size m calls =
    let log = (plain draw lim size m calls).kept in
    let e = all_listed size (reply m) (trees draw lim m calls) [] in
    record {
      same_calls = ap (λ r. r.calls) e;
      by_first = ap (λ r. r.kept) e;
      each_once = subst Once (sym (ap (λ r. r.kept) e)) (Once-firsts log);
      no_other = λ x. ap (λ r. has r.kept x) e ∙ has-firsts log x;
    }
