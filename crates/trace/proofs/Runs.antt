-- Runs of questions: the list against the log, and over replies that agree.
use Rattle.std.proofs.Common.{◌≡◌, ℕ, Bool, true, false, cond, ltb, List, [], ◌∷◌, ◌++◌, length, sym, refl, ap, ◌∙◌}
use Rattle.trace.specs.declared.entries.Entry.{Entry}
use Rattle.trace.specs.Entries.{has, firsts}
use Rattle.trace.specs.Meanings.{Reply}
use Rattle.trace.specs.Asks.{Asks, done, refuse, ask, ink, Kept, no_room, keeps, listing, logging, Ran, inked, asked, run, Runs, after, runs}
use Rattle.trace.proofs.Lists.{has_before, has_last, has-firsts, firsts_more}

-- ---- the list is the log with each entry where it first stands

abbrev firsts-kept : Kept → Kept
firsts-kept no_room = no_room
firsts-kept (keeps es) = keeps (firsts es)

listing-firsts : (n : ℕ) (log : List Entry) (e : Entry) → listing n (firsts log) e ≡ firsts-kept (logging n log e)
listing-firsts n log e =
    ap (λ b. cond b (keeps (firsts log)) (cond (ltb (length (firsts log)) n) (keeps (firsts log ++ (e ∷ []))) no_room)) (has-firsts log e)
    ∙ by (has log e) (ltb (length (firsts log)) n) refl
  where
    more : (b : Bool) → has log e ≡ b → cond b (firsts log) (firsts log ++ (e ∷ [])) ≡ firsts (log ++ (e ∷ []))
    more b q = sym (firsts_more log e ∙ ap (λ c. cond c (firsts log) (firsts log ++ (e ∷ []))) q)

    by : (b r : Bool) → has log e ≡ b
        → cond b (keeps (firsts log)) (cond r (keeps (firsts log ++ (e ∷ []))) no_room)
        ≡ firsts-kept (cond b (keeps (log ++ (e ∷ []))) (cond r (keeps (log ++ (e ∷ []))) no_room))
    by true r q = ap keeps (more true q)
    by false true q = ap keeps (more false q)
    by false false q = refl

module _ {A : Type 0} (n : ℕ) (reply : (e : Entry) → Reply e) where
  abbrev firsts-ran : Ran A → Ran A
  firsts-ran r = record { answer = r.answer; strokes = r.strokes; kept = firsts r.kept }

  abbrev pub firsts-runs : Runs A → Runs A
  firsts-runs r = record { calls = r.calls; kept = firsts r.kept }

  one_listed : (t : Asks A) (log : List Entry) → run (listing n) reply t (firsts log) ≡ firsts-ran (run (logging n) reply t log)
  one_listed (done a) log = refl
  one_listed (refuse r) log = refl
  one_listed (ask p e k) log = ap (asked p (firsts log) (run (listing n) reply (k (reply e)))) (listing-firsts n log e) ∙ by (one_listed (k (reply e))) (logging n log e)
    where
      by : ((es : List Entry) → run (listing n) reply (k (reply e)) (firsts es) ≡ firsts-ran (run (logging n) reply (k (reply e)) es))
          → (v : Kept) → asked p (firsts log) (run (listing n) reply (k (reply e))) (firsts-kept v) ≡ firsts-ran (asked p log (run (logging n) reply (k (reply e))) v)
      by ih no_room = refl
      by ih (keeps es) = ih es
  one_listed (ink s t) log = ap (inked s) (one_listed t log)

  pub all_listed : (ts : List (Asks A)) (log : List Entry) → runs (listing n) reply ts (firsts log) ≡ firsts-runs (runs (logging n) reply ts log)
  all_listed [] log = refl
  all_listed (t ∷ ts) log =
      let r = run (logging n) reply t log in
      ap (λ q. after q (runs (listing n) reply ts q.kept)) (one_listed t log) ∙ ap (after (firsts-ran r)) (all_listed ts r.kept)

-- ---- replies that agree on the list give the same run

-- What is kept has the entry, and all that was kept before.
abbrev Grows : List Entry → Entry → Kept → Type 0
Grows es e no_room = Unit {0}
Grows es e (keeps es') = (has es' e ≡ true) × ((x : Entry) → has es x ≡ true → has es' x ≡ true)

listing_grows : (n : ℕ) (es : List Entry) (e : Entry) → Grows es e (listing n es e)
listing_grows n es e = by (has es e) (ltb (length es) n) refl
  where
    by : (b r : Bool) → has es e ≡ b → Grows es e (cond b (keeps es) (cond r (keeps (es ++ (e ∷ []))) no_room))
    by true r q = (q, λ x h. h)
    by false true q = (has_last es e, λ x h. has_before es (e ∷ []) x h)
    by false false q = tt

-- two replies agree on a list
abbrev pub Agree : ((e : Entry) → Reply e) → ((e : Entry) → Reply e) → List Entry → Type 0
Agree reply reply' es = (e : Entry) → has es e ≡ true → reply' e ≡ reply e

module _ {A : Type 0} (n : ℕ) (reply : (e : Entry) → Reply e) where
  one_grows : (t : Asks A) (es : List Entry) (x : Entry) → has es x ≡ true → has (run (listing n) reply t es).kept x ≡ true
  one_grows (done a) es x h = h
  one_grows (refuse r) es x h = h
  one_grows (ask p e k) es x h = by (λ es' q. one_grows (k (reply e)) es' x q) (listing n es e) (listing_grows n es e)
    where
      by : ((es' : List Entry) → has es' x ≡ true → has (run (listing n) reply (k (reply e)) es').kept x ≡ true)
          → (v : Kept) → Grows es e v → has (asked p es (run (listing n) reply (k (reply e))) v).kept x ≡ true
      by ih no_room g = h
      by ih (keeps es') g = ih es' (g.1 x h)
  one_grows (ink s t) es x h = one_grows t es x h

  all_grow : (ts : List (Asks A)) (es : List Entry) (x : Entry) → has es x ≡ true → has (runs (listing n) reply ts es).kept x ≡ true
  all_grow [] es x h = h
  all_grow (t ∷ ts) es x h = all_grow ts (run (listing n) reply t es).kept x (one_grows t es x h)

  module _ (reply' : (e : Entry) → Reply e) where
    one_same : (t : Asks A) (es : List Entry) → Agree reply reply' (run (listing n) reply t es).kept → run (listing n) reply' t es ≡ run (listing n) reply t es
    one_same (done a) es h = refl
    one_same (refuse r) es h = refl
    one_same (ask p e k) es h = by (one_same (k (reply e))) (listing n es e) (listing_grows n es e) h
      where
        by : ((es' : List Entry) → Agree reply reply' (run (listing n) reply (k (reply e)) es').kept → run (listing n) reply' (k (reply e)) es' ≡ run (listing n) reply (k (reply e)) es')
            → (v : Kept) → Grows es e v → Agree reply reply' (asked p es (run (listing n) reply (k (reply e))) v).kept
            → asked p es (run (listing n) reply' (k (reply' e))) v ≡ asked p es (run (listing n) reply (k (reply e))) v
        by ih no_room g agree = refl
        by ih (keeps es') g agree = ap (λ a. run (listing n) reply' (k a) es') (agree e (one_grows (k (reply e)) es' e g.0)) ∙ ih es' agree
    one_same (ink s t) es h = ap (inked s) (one_same t es h)

    pub all_same : (ts : List (Asks A)) (es : List Entry) → Agree reply reply' (runs (listing n) reply ts es).kept → runs (listing n) reply' ts es ≡ runs (listing n) reply ts es
    all_same [] es h = refl
    all_same (t ∷ ts) es h =
        let r = run (listing n) reply t es in
        let first = one_same t es (λ e q. h e (all_grow ts r.kept e q)) in
        ap (λ q. after q (runs (listing n) reply' ts q.kept)) first ∙ ap (after r) (all_same ts r.kept h)
