-- The crossbar's lists after one inbox changed.
use Rattle.std.specs.Prelude.{◌≡◌, ℕ, zero, suc, ◌<◌, ◌≤◌, true, false, cond, List, [], ◌∷◌, ◌++◌, map, length, take, drop, ◌==◌, slice_index_or, slice_set, refl}
use Rattle.std.proofs.Common.{inl, inr, sym, ap, subst, ◌∙◌, arith}
use Rattle.std.proofs.lemmas.List.{get_or-map, get_or-set_same, get_or-set_other, length-map, length-take-le, map-set}
use Rattle.std.proofs.lemmas.Bool.{cases_eq, eq-eqb, ne_eqb, both_ways, cond-true, cond-false}
use Rattle.links.specs.Calls.{LookDone}
use Rattle.crossbars.specs.Crossbars.{content}
use Rattle.links.specs.Frames.{Frames, none_waits, younger}
use Rattle.crossbars.specs.Held.{held}
use Rattle.crossbars.specs.declared.inbox.Inbox.{Inbox}

pub none_is : (fs : List (List ℕ)) → none_waits fs ≡ true → fs ≡ []
none_is [] e = refl
none_is (f ∷ fs) e = absurd (both_ways false refl e)

-- an inbox holds at most one frame
pub younger_held : (words : List ℕ) (used : ℕ) → younger (held words used) ≡ []
younger_held words zero = refl
younger_held words (suc used) = refl

frames_held : (words : List ℕ) (used : ℕ) → length words ≡ 64 → used ≤ 64 → Frames (held words used)
frames_held words zero l h = tt
frames_held words (suc used) l h =
    let e : length (take (suc used) words) ≡ suc used = length-take-le (suc used) words (omega arith) in
    ((omega arith, omega arith), tt)

pub frames_at : (xs : List Inbox) (k : ℕ) → Frames (slice_index_or (map content xs) k [])
frames_at [] k = tt
frames_at (x ∷ xs) zero = frames_held x.words x.used x.sized x.fits
frames_at (x ∷ xs) (suc k) = frames_at xs k

pub held_looked : (words : List ℕ) (used : ℕ) (room after : List ℕ) → length words ≡ 64 → used ≤ 64 → none_waits (held words used) ≡ false
    → after ≡ take used words ++ drop used room → LookDone (held words used) room used after
held_looked words zero room after l h e p = absurd (both_ways true e refl)
held_looked words (suc used) room after l h e p =
    let n : length (take (suc used) words) ≡ suc used = length-take-le (suc used) words (omega arith) in
    record { size = sym n; frame = (omega arith, omega arith); copied = p }

-- what waits for a board is what its inbox holds
pub queue_at : (xs : List Inbox) (b : ℕ) (d : Inbox) → b < length xs → slice_index_or (map content xs) b [] ≡ content (slice_index_or xs b d)
queue_at xs b d l = get_or-map content xs b d [] l

module _ (xs : List Inbox) (b : ℕ) (y : Inbox) (l : b < length xs) where
  -- one inbox changed changes one list
  one_changed : (k : ℕ) → slice_index_or (map content (slice_set xs b y)) k [] ≡ cond (k == b) (content y) (slice_index_or (map content xs) k [])
  one_changed k =
      elim (cases_eq k b) [
        | inl e ↦ (rw (map-set content xs b y) (subst (λ (j : ℕ). slice_index_or (slice_set (map content xs) b (content y)) j [] ≡ cond (j == b) (content y) (slice_index_or (map content xs) j [])) (sym e)
            (get_or-set_same (map content xs) b (content y) [] (rw length-map l) ∙ sym (cond-true (b == b) (content y) (slice_index_or (map content xs) b []) (eq-eqb b b refl)))))
        | inr d ↦ (rw (map-set content xs b y)
            (get_or-set_other (map content xs) b k (content y) [] d ∙ sym (cond-false (k == b) (content y) (slice_index_or (map content xs) k []) (ne_eqb k b d))))
      ]

  -- where it is the list that `step` makes of what was there
  pub changed_by : (step : List (List ℕ) → List (List ℕ)) → content y ≡ step (slice_index_or (map content xs) b [])
      → (k : ℕ) → slice_index_or (map content (slice_set xs b y)) k [] ≡ cond (k == b) (step (slice_index_or (map content xs) k [])) (slice_index_or (map content xs) k [])
  changed_by step p k =
      one_changed k ∙ elim (cases_eq k b) [
        | inl e ↦ subst (λ (j : ℕ). cond (j == b) (content y) (slice_index_or (map content xs) j []) ≡ cond (j == b) (step (slice_index_or (map content xs) j [])) (slice_index_or (map content xs) j [])) (sym e)
            (ap (λ (v : List (List ℕ)). cond (b == b) v (slice_index_or (map content xs) b [])) p)
        | inr d ↦ (rw (ne_eqb k b d) refl)
      ]
