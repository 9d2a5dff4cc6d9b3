-- What stands in a list of entries, and each once.
use Rattle.std.proofs.Common.{◌≡◌, Bool, true, false, cond, ◌||◌, List, [], ◌∷◌, ◌++◌, sym, refl, ap, ◌∙◌, subst, append-nil}
use Rattle.trace.specs.declared.entries.Entry.{Entry}
use Rattle.trace.specs.Entries.{same, has, Once, without, firsts}
use Rattle.trace.proofs.Sameness.{same_is, same_self, apart}

-- ---- a list and one entry more

pub has-++ : (es fs : List Entry) (x : Entry) → has (es ++ fs) x ≡ (has es x || has fs x)
has-++ [] fs x = refl
has-++ (y ∷ es) fs x = by (same y x) (has-++ es fs x)
  where
    by : (b : Bool) → has (es ++ fs) x ≡ (has es x || has fs x) → (b || has (es ++ fs) x) ≡ ((b || has es x) || has fs x)
    by true ih = refl
    by false ih = ih

pub has_before : (es fs : List Entry) (x : Entry) → has es x ≡ true → has (es ++ fs) x ≡ true
has_before es fs x h = has-++ es fs x ∙ ap (λ b. b || has fs x) h

pub has_last : (es : List Entry) (e : Entry) → has (es ++ (e ∷ [])) e ≡ true
has_last [] e = ap (λ b. b || false) (same_self e)
has_last (y ∷ es) e = by (same y e) (has_last es e)
  where
    by : (b : Bool) → has (es ++ (e ∷ [])) e ≡ true → (b || has (es ++ (e ∷ [])) e) ≡ true
    by true ih = refl
    by false ih = ih

-- ---- a list less an entry

without-++ : (x : Entry) (es fs : List Entry) → without x (es ++ fs) ≡ without x es ++ without x fs
without-++ x [] fs = refl
without-++ x (y ∷ es) fs = by (same x y) (without-++ x es fs)
  where
    by : (b : Bool) → without x (es ++ fs) ≡ without x es ++ without x fs → cond b (without x (es ++ fs)) (y ∷ without x (es ++ fs)) ≡ cond b (without x es) (y ∷ without x es) ++ without x fs
    by true ih = ih
    by false ih = ap (λ l. y ∷ l) ih

-- another entry stands there still
stays : (x e : Entry) (es : List Entry) → same x e ≡ false → has (without x es) e ≡ has es e
stays x e [] h = refl
stays x e (y ∷ es) h = by (same x y) refl (stays x e es h)
  where
    by : (b : Bool) → same x y ≡ b → has (without x es) e ≡ has es e → has (cond b (without x es) (y ∷ without x es)) e ≡ (same y e || has es e)
    by true q ih = ih ∙ ap (λ b. b || has es e) (sym (subst (λ z. same z e ≡ false) (same_is x y q) h))
    by false q ih = ap (λ b. same y e || b) ih

-- that entry does not
goes : (x : Entry) (es : List Entry) → has (without x es) x ≡ false
goes x [] = refl
goes x (y ∷ es) = by (same x y) refl (goes x es)
  where
    by : (b : Bool) → same x y ≡ b → has (without x es) x ≡ false → has (cond b (without x es) (y ∷ without x es)) x ≡ false
    by true q ih = ih
    by false q ih = ap (λ b. b || has (without x es) x) (apart x y q) ∙ ih

-- and none comes
stays_out : (x e : Entry) (es : List Entry) → has es e ≡ false → has (without x es) e ≡ false
stays_out x e es h = by (same x e) refl
  where
    by : (b : Bool) → same x e ≡ b → has (without x es) e ≡ false
    by true q = ap (has (without x es)) (sym (same_is x e q)) ∙ goes x es
    by false q = stays x e es q ∙ h

-- ---- each where it first stands

pub has-firsts : (es : List Entry) (e : Entry) → has (firsts es) e ≡ has es e
has-firsts [] e = refl
has-firsts (x ∷ es) e = by (same x e) refl (has-firsts es e)
  where
    by : (b : Bool) → same x e ≡ b → has (firsts es) e ≡ has es e → (b || has (without x (firsts es)) e) ≡ (b || has es e)
    by true q ih = refl
    by false q ih = stays x e (firsts es) q ∙ ih

-- one entry more is one more where it first stands, if it was not there
pub firsts_more : (es : List Entry) (e : Entry) → firsts (es ++ (e ∷ [])) ≡ cond (has es e) (firsts es) (firsts es ++ (e ∷ []))
firsts_more [] e = refl
firsts_more (x ∷ es) e = ap (λ l. x ∷ without x l) (firsts_more es e) ∙ by (has es e) (same x e) refl
  where
    less : (s : Bool) → same x e ≡ s → without x (firsts es ++ (e ∷ [])) ≡ without x (firsts es) ++ cond s [] (e ∷ [])
    less s q = without-++ x (firsts es) (e ∷ []) ∙ ap (λ b. without x (firsts es) ++ cond b [] (e ∷ [])) q

    by : (h s : Bool) → same x e ≡ s → (x ∷ without x (cond h (firsts es) (firsts es ++ (e ∷ [])))) ≡ cond (s || h) (x ∷ without x (firsts es)) (x ∷ (without x (firsts es) ++ (e ∷ [])))
    by true true q = refl
    by true false q = refl
    by false true q = ap (λ l. x ∷ l) (less true q ∙ append-nil (without x (firsts es)))
    by false false q = ap (λ l. x ∷ l) (less false q)

Once-without : (x : Entry) (es : List Entry) → Once es → Once (without x es)
Once-without x [] h = tt
Once-without x (y ∷ es) h = by (same x y) (Once-without x es h.1)
  where
    by : (b : Bool) → Once (without x es) → Once (cond b (without x es) (y ∷ without x es))
    by true ih = ih
    by false ih = (stays_out x y es h.0, ih)

pub Once-firsts : (es : List Entry) → Once (firsts es)
Once-firsts [] = tt
Once-firsts (e ∷ es) = (goes e (firsts es), Once-without e (firsts es) (Once-firsts es))
