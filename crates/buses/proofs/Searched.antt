-- The search for the first entry of a board, entry by entry.
use Rattle.std.proofs.Common.{◌≡◌, ℕ, ◌+◌, ◌-◌, ◌<◌, ◌≤◌, true, eqb, List, [], ◌∷◌, ◌++◌, length, get_or, take, drop, Some, Option, sym, refl, ap, ◌∙◌, subst, arith}
use Rattle.std.specs.Prelude.{MatchOption}
use Rattle.std.proofs.lemmas.List.{append_assoc, append-nil, length-append, get_or-append-add, drop_at}
use Rattle.std.proofs.Math.Seq.{take-length}
use Rattle.std.proofs.lemmas.Bool.{ne_eqb, cond-false}
use Rattle.buses.specs.Entries.{Entry, laid, entries, addressed, lawful, Whole, Found}
use Rattle.buses.specs.Laid.{laid_append, addressed_append, entry_facts, lawful_back}

-- the entries before `rest` are passed, and none is for board b
pub record Passed (b : ℕ) (xs rest : List ℕ) : Type 0 where
  pub before : List Entry
  pub after : List Entry
  pub split : entries xs ≡ before ++ after
  pub is : rest ≡ laid after
  pub first : addressed b before ≡ []

-- the next entry, which stands at the front of `rest`
pub record Next (b : ℕ) (xs rest : List ℕ) : Type 0 where
  pub before : List Entry
  pub entry : Entry
  pub after : List Entry
  pub split : entries xs ≡ before ++ entry ∷ after
  pub is : rest ≡ entry.receiver ∷ length entry.frame ∷ (entry.frame ++ laid after)
  pub first : addressed b before ≡ []

-- what is left behind an entry's receiver and length, and behind the entry
abbrev pub behind : List ℕ → List ℕ
behind rest = take (length rest - 2) (drop 2 rest)

abbrev pub left : List ℕ → List ℕ
left rest = take (length (behind rest) - get_or rest 1 0) (drop (get_or rest 1 0) (behind rest))

behind_of : (r k : ℕ) (ys : List ℕ) → behind (r ∷ k ∷ ys) ≡ ys
behind_of r k ys = let n : length (r ∷ k ∷ ys) - 2 ≡ length ys = omega arith in ap (λ (i : ℕ). take i ys) n ∙ take-length ys

left_of : (r : ℕ) (f ys : List ℕ) → left (r ∷ length f ∷ (f ++ ys)) ≡ ys
left_of r f ys =
    let n : length (f ++ ys) - length f ≡ length ys = omega (arith, length-append f ys) in
    ap (λ (t : List ℕ). take (length t - length f) (drop (length f) t)) (behind_of r (length f) (f ++ ys))
    ∙ ap (take (length (f ++ ys) - length f)) (drop_at f ys (length f) refl) ∙ ap (λ (k : ℕ). take k ys) n ∙ take-length ys

fits_at : (r : ℕ) (f ys : List ℕ) → length f ≤ length (behind (r ∷ length f ∷ (f ++ ys)))
fits_at r f ys = omega (arith, ap length (behind_of r (length f) (f ++ ys)), length-append f ys)

module _ (n b : ℕ) (xs rest : List ℕ) (w : Whole n xs) (p : Passed b xs rest) where
  words_are : xs ≡ laid p.before ++ rest
  words_are = sym w.kept ∙ ap laid p.split ∙ laid_append p.before p.after ∙ ap (λ (t : List ℕ). laid p.before ++ t) (sym p.is)

  pub passed_within : length (laid p.before) + length rest ≡ length xs
  passed_within = sym (ap length words_are ∙ length-append (laid p.before) rest)

next_at : (b : ℕ) (xs rest : List ℕ) → 2 ≤ length rest → (before after : List Entry) → entries xs ≡ before ++ after
    → rest ≡ laid after → addressed b before ≡ [] → Next b xs rest
next_at b xs rest l before [] p q r = absurd (omega (arith, ap length q))
next_at b xs rest l before (e ∷ after) p q r = record { before = before; entry = e; after = after; split = p; is = q; first = r }

module _ (b : ℕ) (xs rest : List ℕ) (l : 2 ≤ length rest) (p : Passed b xs rest) where
  abbrev x : Next b xs rest
  x = next_at b xs rest l p.before p.after p.split p.is p.first

  left_is : left rest ≡ laid x.after
  left_is = ap left x.is ∙ left_of x.entry.receiver x.entry.frame (laid x.after)

  pub fits_behind : get_or rest 1 0 ≤ length (behind rest)
  fits_behind =
      subst (λ (t : List ℕ). get_or t 1 0 ≤ length (behind t)) (sym x.is) (fits_at x.entry.receiver x.entry.frame (laid x.after))

  pub passed_more : (get_or rest 0 0 ≡ b → ⊥) → Passed b xs (left rest)
  passed_more d =
      let one = x.entry ∷ [] in
      let none : addressed b one ≡ [] =
      cond-false (eqb b x.entry.receiver) (x.entry.frame ∷ []) [] (ne_eqb b x.entry.receiver (λ y. d (ap (λ (t : List ℕ). get_or t 0 0) x.is ∙ sym y))) in
      record {
        before = x.before ++ one;
        after = x.after;
        split = x.split ∙ sym (append_assoc x.before one x.after);
        is = left_is;
        first = addressed_append b x.before one ∙ ap (λ (t : List (List ℕ)). addressed b x.before ++ t) none ∙ append-nil (addressed b x.before) ∙ x.first;
      }

  pub found_here : (n : ℕ) → Whole n xs → get_or rest 0 0 ≡ b → Found b xs (length xs - length rest)
  found_here n w e =
      let f = x.entry.frame in
      let back = x.entry.receiver ∷ length f ∷ (f ++ laid x.after) in
      let ws : xs ≡ laid x.before ++ back = sym w.kept ∙ ap laid x.split ∙ laid_append x.before (x.entry ∷ x.after) in
      let len : length xs ≡ length (laid x.before) + length back = ap length ws ∙ length-append (laid x.before) back in
      let at : length (laid x.before) ≡ length xs - length rest = omega (arith, ap length x.is) in
      let size : get_or xs (length xs - length rest + 1) 0 ≡ length f =
      ap (λ (i : ℕ). get_or xs (i + 1) 0) (sym at) ∙ ap (λ (t : List ℕ). get_or t (length (laid x.before) + 1) 0) ws ∙ get_or-append-add (laid x.before) back 1 0 in
      let here : lawful n (x.before ++ x.entry ∷ x.after) ≡ true = ap (lawful n) (sym x.split) ∙ w.legal in
      let facts = entry_facts n x.entry x.after (lawful_back n x.before (x.entry ∷ x.after) here) in
      let is : x.entry.receiver ≡ b = sym (ap (λ (t : List ℕ). get_or t 0 0) x.is) ∙ e in
      record {
        before = x.before;
        frame = f;
        after = x.after;
        split = subst (λ (r : ℕ). entries xs ≡ x.before ++ record { receiver = r; frame = f } ∷ x.after) is x.split;
        place = at;
        first = x.first;
        size = size;
        short = facts.2;
        inside = omega (arith, ap length x.is, length-append f (laid x.after));
      }

all_at : (b : ℕ) (xs rest : List ℕ) → length rest < 2 → (before after : List Entry) → entries xs ≡ before ++ after
    → rest ≡ laid after → addressed b before ≡ [] → addressed b (entries xs) ≡ []
all_at b xs rest l before [] p q r = ap (addressed b) (p ∙ append-nil before) ∙ r
all_at b xs rest l before (e ∷ after) p q r = absurd (omega (arith, ap length q))

pub passed_all : (b : ℕ) (xs rest : List ℕ) → length rest < 2 → Passed b xs rest → addressed b (entries xs) ≡ []
passed_all b xs rest l p = all_at b xs rest l p.before p.after p.split p.is p.first

-- what is said of a found index holds of the index that goes on
pub found_of : (b : ℕ) (xs : List ℕ) (o : Option ℕ) (at : ℕ) → o ≡ Some at → MatchOption o (addressed b (entries xs) ≡ []) (λ k. Found b xs k) → Found b xs at
found_of b xs o at e h = subst (λ (p : Option ℕ). MatchOption p (addressed b (entries xs) ≡ []) (λ k. Found b xs k)) e h
