-- What is left of a sender's runs, one run or one cell on.
use Rattle.std.proofs.Common.{◌≡◌, ℕ, suc, ◌+◌, ◌-◌, ◌<◌, ◌≤◌, Bool, true, false, cond, ◌&&◌, eqb, ltb, List, [], ◌∷◌, ◌++◌, sym, refl, ap, ◌∙◌, inl, inr, add-zero, arith}
use Rattle.std.proofs.lemmas.Bool.{cases_Bool, cases_lt, cond-true, cond-false, lt-ltb, le-ltb, and_from, and_parts, eq-eqb, eqb-true, ltb-true}
use Rattle.std.specs.List.{AllByRecursion}
use Rattle.overlays.proofs.Cells.{tall, wide}
use Rattle.overlays.specs.Overlays.{Overlay, Joined, cells, top, bottom, left, right, sender}
use Rattle.runs.proofs.Hitting.{piece_below}
use Rattle.runs.proofs.Once.{all_append, span_all}
use Rattle.runs.specs.Runs.{Run, span, pieces, piece, row_runs, cell_runs}
use Rattle.cursors.specs.Cursors.{chosen, later, row_rest, cell_rest, runs_from}

-- a span's first list, and those after it
span_next : (a n j : ℕ) (f : ℕ → List Run) → n ≡ suc j → span a n f ≡ f a ++ span (a + 1) j f
span_next a n j f e = ap (λ i. span a i f) e

span_end : (a n : ℕ) (f : ℕ → List Run) → n ≡ 0 → span a n f ≡ []
span_end a n f e = ap (λ i. span a i f) e

span_at : (a b n m : ℕ) (f : ℕ → List Run) → a ≡ b → n ≡ m → span a n f ≡ span b m f
span_at a b n m f e g = ap (λ i. span i n f) e ∙ ap (λ i. span b i f) g

module _ (n rows columns : ℕ) (o : Overlay) (j : Joined n rows columns o) (m : ℕ) (some : 1 ≤ m) (i : ℕ) where
  height : ℕ → ℕ
  height k = bottom o k - top o k

  count : ℕ → ℕ
  count k = pieces (right o k - left o k) m

  -- the runs of the rows after row a
  below : ℕ → ℕ → List Run
  below k a = span (top o k + a + 1) (bottom o k - top o k - (a + 1)) (λ r. row_runs o m k r)

  some_pieces : (k : ℕ) → k < cells o → 0 < pieces (right o k - left o k) m
  some_pieces k h =
      let w = wide n rows columns o j k h in
      let b = piece_below m 0 some (right o k - left o k) (omega arith) in omega arith

  rest_is : (k a p : ℕ) → a < bottom o k - top o k → p < pieces (right o k - left o k) m
      → cell_rest o m k a p ≡ row_rest o m k (top o k + a) p ++ span (top o k + a + 1) (bottom o k - top o k - (a + 1)) (λ r. row_runs o m k r)
  rest_is k a p g h = cond-true _ _ _ (and_from (ltb a (bottom o k - top o k)) (ltb p (pieces (right o k - left o k) m)) (lt-ltb a _ g) (lt-ltb p _ h))

  -- from the first piece on, a cell is left whole
  rest_whole : (k : ℕ) → k < cells o → cell_rest o m k 0 0 ≡ cell_runs o m k
  rest_whole k h =
      let t = tall n rows columns o j k h in
      let f : ℕ → List Run = λ r. row_runs o m k r in
      let e : bottom o k - top o k ≡ suc (bottom o k - top o k - (0 + 1)) = omega arith in
      let first : row_rest o m k (top o k + 0) 0 ≡ row_runs o m k (top o k) =
      ap (λ r. span 0 (pieces (right o k - left o k) m - 0) (λ q. piece o m k r q ∷ [])) (add-zero (top o k))
      ∙ ap (λ c. span 0 c (λ q. piece o m k (top o k) q ∷ [])) (let s : pieces (right o k - left o k) m - 0 ≡ pieces (right o k - left o k) m = omega arith in s) in
      let rest = span_at (top o k + 0 + 1) (top o k + 1) (bottom o k - top o k - (0 + 1)) (bottom o k - top o k - (0 + 1)) (λ r. row_runs o m k r) (omega arith) refl in
      rest_is k 0 0 (omega arith) (some_pieces k h)
      ∙ ap (λ t. t ++ span (top o k + 0 + 1) (bottom o k - top o k - (0 + 1)) (λ r. row_runs o m k r)) first
      ∙ ap (λ t. row_runs o m k (top o k) ++ t) rest
      ∙ sym (span_next (top o k) (bottom o k - top o k) (bottom o k - top o k - (0 + 1)) (λ r. row_runs o m k r) e)

  -- at the beginning of a cell all of the cells from it on are left
  pub enter : (k : ℕ) → runs_from o m i k 0 0 ≡ later o m i k
  unfolding runs_from
  enter k =
      elim (cases_lt k (cells o)) [
        | inl h ↦
            (let e : cells o - k ≡ suc (cells o - (k + 1)) = omega arith in
            cond-true (ltb k (cells o)) _ _ (lt-ltb k (cells o) h)
            ∙ ap (λ t. cond (eqb (sender o k) i) t [] ++ later o m i (k + 1)) (rest_whole k h)
            ∙ sym (span_next k (cells o - k) (cells o - (k + 1)) (chosen o m i) e))
        | inr h ↦
            cond-false (ltb k (cells o)) _ _ (le-ltb k (cells o) h) ∙ sym (span_end k (cells o - k) (chosen o m i) (let e : cells o - k ≡ 0 = omega arith in e))
      ]

  -- the runs that are left in a cell of the sender
  from_is : (k a p : ℕ) → k < cells o → sender o k ≡ i → runs_from o m i k a p ≡ cell_rest o m k a p ++ later o m i (k + 1)
  unfolding runs_from
  from_is k a p h s =
      cond-true (ltb k (cells o)) _ _ (lt-ltb k (cells o) h)
      ∙ ap (λ b. cond b (cell_rest o m k a p) [] ++ later o m i (k + 1)) (eq-eqb (sender o k) i s)

  module _ (k a p : ℕ) (one : k < cells o) (sent : sender o k ≡ i) (g : a < bottom o k - top o k) (h : p < pieces (right o k - left o k) m) where
    row_step : row_rest o m k (top o k + a) p ≡ piece o m k (top o k + a) p ∷ row_rest o m k (top o k + a) (p + 1)
    row_step =
        span_next p (pieces (right o k - left o k) m - p) (pieces (right o k - left o k) m - (p + 1)) (λ q. piece o m k (top o k + a) q ∷ [])
        (let e : pieces (right o k - left o k) m - p ≡ suc (pieces (right o k - left o k) m - (p + 1)) = omega arith in e)

    split : runs_from o m i k a p
        ≡ piece o m k (top o k + a) p ∷ ((row_rest o m k (top o k + a) (p + 1) ++ span (top o k + a + 1) (bottom o k - top o k - (a + 1)) (λ r. row_runs o m k r)) ++ later o m i (k + 1))
    split =
        from_is k a p one sent
        ∙ ap (λ t. t ++ later o m i (k + 1)) (rest_is k a p g h)
        ∙ ap (λ t. (t ++ span (top o k + a + 1) (bottom o k - top o k - (a + 1)) (λ r. row_runs o m k r)) ++ later o m i (k + 1)) row_step

    -- the next piece of the row
    pub next_piece : p + 1 < pieces (right o k - left o k) m → runs_from o m i k a p ≡ piece o m k (top o k + a) p ∷ runs_from o m i k a (p + 1)
    next_piece l =
        split
        ∙ ap (λ t. piece o m k (top o k + a) p ∷ (t ++ later o m i (k + 1))) (sym (rest_is k a (p + 1) g l))
        ∙ ap (λ t. piece o m k (top o k + a) p ∷ t) (sym (from_is k a (p + 1) one sent))

    row_done : pieces (right o k - left o k) m ≤ p + 1 → row_rest o m k (top o k + a) (p + 1) ≡ []
    row_done l = span_end (p + 1) (pieces (right o k - left o k) m - (p + 1)) (λ q. piece o m k (top o k + a) q ∷ []) (let e : pieces (right o k - left o k) m - (p + 1) ≡ 0 = omega arith in e)

    -- the first piece of the next row
    pub next_row : pieces (right o k - left o k) m ≤ p + 1 → a + 1 < bottom o k - top o k → runs_from o m i k a p ≡ piece o m k (top o k + a) p ∷ runs_from o m i k (a + 1) 0
    next_row l b =
        let rows : span (top o k + a + 1) (bottom o k - top o k - (a + 1)) (λ r. row_runs o m k r)
        ≡ row_rest o m k (top o k + (a + 1)) 0 ++ span (top o k + (a + 1) + 1) (bottom o k - top o k - (a + 1 + 1)) (λ r. row_runs o m k r) =
        span_next (top o k + a + 1) (bottom o k - top o k - (a + 1)) (bottom o k - top o k - (a + 1 + 1)) (λ r. row_runs o m k r)
        (let e : bottom o k - top o k - (a + 1) ≡ suc (bottom o k - top o k - (a + 1 + 1)) = omega arith in e)
        ∙ ap (λ r. row_runs o m k r ++ span (r + 1) (bottom o k - top o k - (a + 1 + 1)) (λ q. row_runs o m k q)) (let e : top o k + a + 1 ≡ top o k + (a + 1) = omega arith in e)
        ∙ ap (λ c. span 0 c (λ q. piece o m k (top o k + (a + 1)) q ∷ []) ++ span (top o k + (a + 1) + 1) (bottom o k - top o k - (a + 1 + 1)) (λ r. row_runs o m k r))
        (let e : pieces (right o k - left o k) m ≡ pieces (right o k - left o k) m - 0 = omega arith in e) in
        split
        ∙ ap (λ t. piece o m k (top o k + a) p ∷ ((t ++ span (top o k + a + 1) (bottom o k - top o k - (a + 1)) (λ r. row_runs o m k r)) ++ later o m i (k + 1))) (row_done l)
        ∙ ap (λ t. piece o m k (top o k + a) p ∷ (t ++ later o m i (k + 1))) (rows ∙ sym (rest_is k (a + 1) 0 b (some_pieces k one)))
        ∙ ap (λ t. piece o m k (top o k + a) p ∷ t) (sym (from_is k (a + 1) 0 one sent))

    -- the next cell
    pub next_cell : pieces (right o k - left o k) m ≤ p + 1 → bottom o k - top o k ≤ a + 1 → runs_from o m i k a p ≡ piece o m k (top o k + a) p ∷ runs_from o m i (k + 1) 0 0
    next_cell l b =
        let rows : span (top o k + a + 1) (bottom o k - top o k - (a + 1)) (λ r. row_runs o m k r) ≡ [] =
        span_end (top o k + a + 1) (bottom o k - top o k - (a + 1)) (λ r. row_runs o m k r) (let e : bottom o k - top o k - (a + 1) ≡ 0 = omega arith in e) in
        split
        ∙ ap (λ t. piece o m k (top o k + a) p ∷ ((t ++ span (top o k + a + 1) (bottom o k - top o k - (a + 1)) (λ r. row_runs o m k r)) ++ later o m i (k + 1))) (row_done l)
        ∙ ap (λ t. piece o m k (top o k + a) p ∷ (t ++ later o m i (k + 1))) rows
        ∙ ap (λ t. piece o m k (top o k + a) p ∷ t) (sym (enter (k + 1)))

  row_of : (k r q c : ℕ) → AllByRecursion (λ x. x.cell ≡ k) (span q c (λ p. piece o m k r p ∷ []))
  row_of k r q c = span_all (λ x. x.cell ≡ k) c q (λ p. piece o m k r p ∷ []) (λ p a b. (refl, tt))

  rest_of : (k a p : ℕ) (b : Bool) → AllByRecursion (λ x. x.cell ≡ k) (cond b (row_rest o m k (top o k + a) p ++ span (top o k + a + 1) (bottom o k - top o k - (a + 1)) (λ r. row_runs o m k r)) [])
  rest_of k a p true =
      all_append (λ x. x.cell ≡ k) (row_rest o m k (top o k + a) p) _ (row_of k (top o k + a) p _)
      (span_all (λ x. x.cell ≡ k) (bottom o k - top o k - (a + 1)) (top o k + a + 1) (λ r. row_runs o m k r) (λ r l h. row_of k r 0 _))
  rest_of k a p false = tt

  -- whatever is left in a cell is skipped
  pub skip : (k a p : ℕ) → k < cells o → runs_from o m i k a p ≡ cond (eqb (sender o k) i) (cell_rest o m k a p) [] ++ runs_from o m i (k + 1) 0 0
  unfolding runs_from
  skip k a p h =
      cond-true (ltb k (cells o)) _ _ (lt-ltb k (cells o) h)
      ∙ ap (λ t. cond (eqb (sender o k) i) (cell_rest o m k a p) [] ++ t) (sym (enter (k + 1)))

  pub skipped_in : (k a p : ℕ) → AllByRecursion (λ x. x.cell ≡ k) (cond (eqb (sender o k) i) (cell_rest o m k a p) [])
  skipped_in k a p = chosen_in k a p (eqb (sender o k) i)
    where
      chosen_in : (k a p : ℕ) (b : Bool) → AllByRecursion (λ x. x.cell ≡ k) (cond b (cell_rest o m k a p) [])
      chosen_in k a p true = rest_of k a p (ltb a (bottom o k - top o k) && ltb p (pieces (right o k - left o k) m))
      chosen_in k a p false = tt

  pub skipped_none : (k a p : ℕ) → (sender o k ≡ i → a < bottom o k - top o k → p < pieces (right o k - left o k) m → ⊥)
      → cond (eqb (sender o k) i) (cell_rest o m k a p) [] ≡ []
  skipped_none k a p none =
      elim (cases_Bool (eqb (sender o k) i)) [
        | inr f ↦ cond-false _ _ _ f
        | inl s ↦
            cond-true _ _ _ s
            ∙ elim (cases_Bool (ltb a (bottom o k - top o k) && ltb p (pieces (right o k - left o k) m))) [
              | inr f ↦ cond-false _ _ _ f
              | inl t ↦
                  (let both = and_parts (ltb a (bottom o k - top o k)) (ltb p (pieces (right o k - left o k) m)) t in
                  absurd (none (eqb-true (sender o k) i s) (ltb-true a _ both.0) (ltb-true p _ both.1)))
            ]
      ]

  pub from_past : (k a p : ℕ) → cells o ≤ k → runs_from o m i k a p ≡ []
  unfolding runs_from
  from_past k a p h = cond-false (ltb k (cells o)) _ _ (le-ltb k (cells o) h)
