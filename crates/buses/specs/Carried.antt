-- The log of a bus after a put, at a look and after a drop.
use Rattle.std.specs.Prelude.{◌≡◌, ℕ, ◌+◌, ◌<◌, ◌≤◌, true, false, List, [], ◌∷◌, ◌++◌, length, take, drop, ◌==◌, slice_index, refl}
use Rattle.std.proofs.Common.{inl, inr, sym, ap, subst, ◌∙◌, arith}
use Rattle.std.proofs.lemmas.List.{append_assoc, append-nil, length-append, length-take-le, take_at, drop_at, take-take}
use Rattle.std.proofs.lemmas.Bool.{both_ways, cases_Bool, eq-eqb, eqb-true, and_from, lt-ltb, le-leb}
use Rattle.links.specs.Calls.{LookDone}
use Rattle.buses.specs.Entries.{Entry, laid, entries, addressed, lawful, Whole, Found}
use Rattle.links.specs.Frames.{Quiet, none_waits, younger, appended, removed}
use Rattle.buses.specs.Laid.{entries_laid, laid_append, addressed_append, lawful_append, lawful_front, lawful_back, entry_facts, whole_laid}

-- the words up to the entry, the entry's and those after it
found_words : (n b : ℕ) (xs : List ℕ) (at : ℕ) → Whole n xs → (x : Found b xs at)
    → xs ≡ laid x.before ++ (b ∷ length x.frame ∷ (x.frame ++ laid x.after))
found_words n b xs at w x = sym w.kept ∙ ap laid x.split ∙ laid_append x.before (record { receiver = b; frame = x.frame } ∷ x.after)

-- the found entry's frame is the oldest of its board
found_queue : (b : ℕ) (xs : List ℕ) (at : ℕ) (x : Found b xs at) → addressed b (entries xs) ≡ x.frame ∷ addressed b x.after
found_queue b xs at x =
    let e : Entry = record { receiver = b; frame = x.frame } in
    let here : addressed b (e ∷ x.after) ≡ x.frame ∷ addressed b x.after = rw (eq-eqb b b refl) refl in
    ap (addressed b) x.split ∙ addressed_append b x.before (e ∷ x.after) ∙ ap (λ (t : List (List ℕ)). t ++ addressed b (e ∷ x.after)) x.first ∙ here

pub found_waits : (b : ℕ) (xs : List ℕ) (at : ℕ) (x : Found b xs at) → none_waits (addressed b (entries xs)) ≡ false
found_waits b xs at x = ap none_waits (found_queue b xs at x)

module _ (n used b : ℕ) (w f ws : List ℕ) (whole : Whole n (take used w)) (u : used ≤ length w) (lt : b < n) (one : 1 ≤ length f) (most : length f ≤ 64)
    (e : ws ≡ take used w ++ (b ∷ length f ∷ f) ++ drop (used + 2 + length f) w) where
  abbrev put_entries : List Entry
  put_entries = entries (take used w) ++ record { receiver = b; frame = f } ∷ []

  put_laid : take (used + 2 + length f) ws ≡ laid put_entries
  put_laid =
      let front = take used w ++ (b ∷ length f ∷ f) in
      let new : Entry = record { receiver = b; frame = f } in
      let len : length front ≡ used + 2 + length f = length-append (take used w) (b ∷ length f ∷ f) ∙ omega (arith, length-take-le used w u) in
      let tail : laid (new ∷ []) ≡ b ∷ length f ∷ f = ap (λ (t : List ℕ). b ∷ length f ∷ t) (append-nil f) in
      ap (take (used + 2 + length f)) e ∙ take_at front (drop (used + 2 + length f) w) (used + 2 + length f) len
      ∙ sym (laid_append (entries (take used w)) (new ∷ []) ∙ ap (λ (t : List ℕ). t ++ laid (new ∷ [])) whole.kept ∙ ap (λ (t : List ℕ). take used w ++ t) tail)

  pub put_whole : Whole n (take (used + 2 + length f) ws)
  put_whole =
      whole_laid n put_entries (take (used + 2 + length f) ws) put_laid
      (lawful_append n (entries (take used w)) (record { receiver = b; frame = f } ∷ []) whole.legal
      (and_from _ _ (and_from _ _ (lt-ltb b n lt) (and_from _ _ (le-leb 1 (length f) one) (le-leb (length f) 64 most))) refl))

  pub put_queue : (k : ℕ) → addressed k (entries (take (used + 2 + length f) ws)) ≡ appended (λ j. addressed j (entries (take used w))) b f k
  put_queue k =
      let new : Entry = record { receiver = b; frame = f } in
      let q = addressed k (entries (take used w)) in
      ap (addressed k) (ap entries put_laid ∙ entries_laid put_entries) ∙ addressed_append k (entries (take used w)) (new ∷ [])
      ∙ elim (cases_Bool (k == b)) [
        | inl t ↦ (rw t refl)
        | inr t ↦ (rw t (append-nil q))
      ]

module _ (n b at : ℕ) (xs : List ℕ) (whole : Whole n xs) (x : Found b xs at) where
  pub found_looked : (len : ℕ) (room after : List ℕ) → len ≡ slice_index xs (at + 1) → after ≡ take len (drop (at + 2) xs) ++ drop len room
      → LookDone (addressed b (entries xs)) room len after
  found_looked len room after p q =
      let f = x.frame in
      let l : len ≡ length f = p ∙ x.size in
      let head = laid x.before ++ b ∷ length f ∷ [] in
      let ws : xs ≡ head ++ (f ++ laid x.after) = found_words n b xs at whole x ∙ sym (append_assoc (laid x.before) (b ∷ length f ∷ []) (f ++ laid x.after)) in
      let hl : length head ≡ at + 2 = length-append (laid x.before) (b ∷ length f ∷ []) ∙ omega (arith, x.place) in
      let rest : drop (at + 2) xs ≡ f ++ laid x.after = ap (drop (at + 2)) ws ∙ drop_at head (f ++ laid x.after) (at + 2) hl in
      let part : take len (drop (at + 2) xs) ≡ f = ap (take len) rest ∙ take_at f (laid x.after) len (sym l) in
      let legal : lawful n (x.before ++ record { receiver = b; frame = f } ∷ x.after) ≡ true = ap (lawful n) (sym x.split) ∙ whole.legal in
      let facts = entry_facts n (record { receiver = b; frame = f }) x.after (lawful_back n x.before (record { receiver = b; frame = f } ∷ x.after) legal) in
      let done : LookDone (f ∷ addressed b x.after) room len after =
      record { size = l; frame = (facts.1, facts.2); copied = q ∙ ap (λ (t : List ℕ). t ++ drop len room) part } in
      subst (λ (fs : List (List ℕ)). LookDone fs room len after) (sym (found_queue b xs at x)) done

module _ (n used b at r : ℕ) (w ws : List ℕ) (whole : Whole n (take used w)) (x : Found b (take used w) at) (u : used ≤ length w)
    (a : take r ws ≡ take at w ++ drop (at + 2 + length x.frame) (take used w)) where
  drop_laid : take r ws ≡ laid (x.before ++ x.after)
  drop_laid =
      let f = x.frame in
      let xs = take used w in
      let head = laid x.before ++ (b ∷ length f ∷ f) in
      let all : xs ≡ laid x.before ++ (b ∷ length f ∷ (f ++ laid x.after)) = found_words n b xs at whole x in
      let ws' : xs ≡ head ++ laid x.after = all ∙ sym (append_assoc (laid x.before) (b ∷ length f ∷ f) (laid x.after)) in
      let hl : length head ≡ at + 2 + length f = length-append (laid x.before) (b ∷ length f ∷ f) ∙ omega (arith, x.place) in
      let le : at ≤ used = omega (arith, x.inside, length-take-le used w u) in
      let front : take at w ≡ laid x.before = sym (take-take at used w le) ∙ ap (take at) all ∙ take_at (laid x.before) (b ∷ length f ∷ (f ++ laid x.after)) at x.place in
      let back : drop (at + 2 + length f) xs ≡ laid x.after = ap (drop (at + 2 + length f)) ws' ∙ drop_at head (laid x.after) (at + 2 + length f) hl in
      a ∙ ap (λ (t : List ℕ). t ++ drop (at + 2 + length f) xs) front ∙ ap (λ (t : List ℕ). laid x.before ++ t) back ∙ sym (laid_append x.before x.after)

  pub drop_whole : Whole n (take r ws)
  drop_whole =
      let e : Entry = record { receiver = b; frame = x.frame } in
      let legal : lawful n (x.before ++ e ∷ x.after) ≡ true = ap (lawful n) (sym x.split) ∙ whole.legal in
      whole_laid n (x.before ++ x.after) (take r ws) drop_laid
      (lawful_append n x.before x.after (lawful_front n x.before (e ∷ x.after) legal) (entry_facts n e x.after (lawful_back n x.before (e ∷ x.after) legal)).3)

  pub drop_queue : (k : ℕ) → addressed k (entries (take r ws)) ≡ removed (λ j. addressed j (entries (take used w))) b k
  drop_queue k =
      let e : Entry = record { receiver = b; frame = x.frame } in
      let xs = take used w in
      let after : addressed k (entries (take r ws)) ≡ addressed k x.before ++ addressed k x.after =
      ap (addressed k) (ap entries drop_laid ∙ entries_laid (x.before ++ x.after)) ∙ addressed_append k x.before x.after in
      elim (cases_Bool (k == b)) [
        | inl t ↦
            (let kb : k ≡ b = eqb-true k b t in
            let none : addressed k x.before ≡ [] = subst (λ (j : ℕ). addressed j x.before ≡ []) (sym kb) x.first in
            let was : addressed k (entries xs) ≡ x.frame ∷ addressed k x.after = subst (λ (j : ℕ). addressed j (entries xs) ≡ x.frame ∷ addressed j x.after) (sym kb) (found_queue b xs at x) in
            rw t (after ∙ ap (λ (q : List (List ℕ)). q ++ addressed k x.after) none ∙ sym (ap younger was)))
        | inr t ↦
            (let skip : addressed k (e ∷ x.after) ≡ addressed k x.after = rw t refl in
            let was : addressed k (entries xs) ≡ addressed k x.before ++ addressed k x.after =
            ap (addressed k) x.split ∙ addressed_append k x.before (e ∷ x.after) ∙ ap (λ (q : List (List ℕ)). addressed k x.before ++ q) skip in
            rw t (after ∙ sym was))
      ]

quiet_empty : (n : ℕ) (es : List Entry) → lawful n es ≡ true → Quiet n (λ k. addressed k es) → es ≡ []
quiet_empty n [] p q = refl
quiet_empty n (e ∷ es) p q =
    let r = e.receiver in
    let here : addressed r (e ∷ es) ≡ e.frame ∷ addressed r es = rw (eq-eqb r r refl) refl in
    absurd (both_ways false refl (ap none_waits (sym here ∙ q r (entry_facts n e es p).0)))

-- where nothing waits, nothing is used
pub quiet_unused : (n used : ℕ) (w : List ℕ) → Whole n (take used w) → used ≤ length w → Quiet n (λ k. addressed k (entries (take used w))) → used ≡ 0
quiet_unused n used w whole u q =
    let none : take used w ≡ [] = sym whole.kept ∙ ap laid (quiet_empty n (entries (take used w)) whole.legal q) in
    sym (length-take-le used w u) ∙ ap length none
