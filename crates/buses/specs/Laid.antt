-- Entries laid one behind another, and read again.
use Rattle.std.specs.Prelude.{◌≡◌, ℕ, zero, suc, ◌<◌, ◌≤◌, true, List, [], ◌∷◌, ◌++◌, length, ◌==◌, refl}
use Rattle.std.proofs.Common.{inl, inr, sym, ap, subst, ◌∙◌, arith}
use Rattle.std.proofs.lemmas.List.{append_assoc, take_at, drop_at, length-append}
use Rattle.std.proofs.lemmas.Bool.{and_parts, and_from, leb-true, cases_Bool, ltb-true}
use Rattle.buses.specs.Entries.{Entry, laid, read, entries, addressed, lawful, Whole}
use Rattle.links.specs.Frames.{Frames}

read_laid : (es : List Entry) (n : ℕ) → length (laid es) ≤ n → read n (laid es) ≡ es
read_laid [] zero l = refl
read_laid [] (suc n) l = refl
read_laid (e ∷ es) zero l = absurd (omega arith)
read_laid (e ∷ es) (suc n) l =
    let f = e.frame in
    let m : length (laid es) ≤ n = omega (arith, length-append f (laid es)) in
    rw (take_at f (laid es) (length f) refl, drop_at f (laid es) (length f) refl) (ap (λ (t : List Entry). e ∷ t) (read_laid es n m))

-- laid entries are read as they were
pub entries_laid : (es : List Entry) → entries (laid es) ≡ es
entries_laid es = read_laid es (length (laid es)) (omega arith)

pub laid_append : (a b : List Entry) → laid (a ++ b) ≡ laid a ++ laid b
laid_append [] b = refl
laid_append (e ∷ a) b = ap (λ (t : List ℕ). e.receiver ∷ length e.frame ∷ t) (ap (λ (t : List ℕ). e.frame ++ t) (laid_append a b) ∙ sym (append_assoc e.frame (laid a) (laid b)))

pub addressed_append : (k : ℕ) (a b : List Entry) → addressed k (a ++ b) ≡ addressed k a ++ addressed k b
addressed_append k [] b = refl
addressed_append k (e ∷ a) b =
    elim (cases_Bool (k == e.receiver)) [
      | inl t ↦ (rw (t, addressed_append k a b) refl)
      | inr t ↦ (rw (t, addressed_append k a b) refl)
    ]

pub lawful_append : (n : ℕ) (a b : List Entry) → lawful n a ≡ true → lawful n b ≡ true → lawful n (a ++ b) ≡ true
lawful_append n [] b p q = q
lawful_append n (e ∷ a) b p q = let h = and_parts _ _ p in and_from _ _ h.0 (lawful_append n a b h.1 q)

pub lawful_front : (n : ℕ) (a b : List Entry) → lawful n (a ++ b) ≡ true → lawful n a ≡ true
lawful_front n [] b p = refl
lawful_front n (e ∷ a) b p = let h = and_parts _ _ p in and_from _ _ h.0 (lawful_front n a b h.1)

pub lawful_back : (n : ℕ) (a b : List Entry) → lawful n (a ++ b) ≡ true → lawful n b ≡ true
lawful_back n [] b p = p
lawful_back n (e ∷ a) b p = let h = and_parts _ _ p in lawful_back n a b h.1

-- what a lawful entry is
pub entry_facts : (n : ℕ) (e : Entry) (es : List Entry) → lawful n (e ∷ es) ≡ true
    → (e.receiver < n) × (1 ≤ length e.frame) × (length e.frame ≤ 64) × (lawful n es ≡ true)
entry_facts n e es p =
    let h = and_parts _ _ p in
    let i = and_parts _ _ h.0 in
    let j = and_parts _ _ i.1 in
    (ltb-true _ _ i.0, leb-true _ _ j.0, leb-true _ _ j.1, h.1)

pub whole_laid : (n : ℕ) (es : List Entry) (xs : List ℕ) → xs ≡ laid es → lawful n es ≡ true → Whole n xs
whole_laid n es xs p q =
    subst (Whole n) (sym p) (record { kept = ap laid (entries_laid es); legal = ap (lawful n) (entries_laid es) ∙ q })

pub frames_addressed : (n k : ℕ) (es : List Entry) → lawful n es ≡ true → Frames (addressed k es)
frames_addressed n k [] p = tt
frames_addressed n k (e ∷ es) p =
    let h = entry_facts n e es p in
    let rest = frames_addressed n k es h.3 in
    elim (cases_Bool (k == e.receiver)) [
      | inl t ↦ (rw t ((h.1, h.2), rest))
      | inr t ↦ (rw t rest)
    ]
