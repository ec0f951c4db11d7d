-- How many runs have an element.
use Rattle.std.proofs.Common.{◌≡◌, ℕ, zero, suc, ◌+◌, ◌-◌, ◌*◌, ◌/◌, ◌%◌, ◌<◌, ◌≤◌, min, true, false, cond, ◌&&◌, eqb, ltb, leb, ◌⊎◌, List, [], ◌∷◌, ◌++◌, refl, ap, ◌∙◌, inl, inr, mul-le-mul_right, mod-lt, suc-mul, div-add-mod', le-div_iff_mul-le, arith}
use Rattle.std.proofs.lemmas.Bool.{cases_eq, cases_lt, eq-eqb, ne_eqb, le-leb, lt-leb, lt-ltb, le-ltb, and_from, and_left, and_right}
use Rattle.overlays.specs.Overlays.{Overlay, Holds, cells, top, bottom, left, right}
use Rattle.runs.specs.Laws.{has, hits}
use Rattle.runs.specs.Runs.{Run, span, pieces, piece, row_runs, cell_runs}

module _ (r c : ℕ) where
  hits_append : (xs ys : List Run) → hits r c (xs ++ ys) ≡ hits r c xs + hits r c ys
  hits_append [] ys = let e : hits r c ys ≡ 0 + hits r c ys = omega arith in e
  hits_append (x ∷ xs) ys =
      let e = hits_append xs ys in
      let s : cond (has x r c) 1 0 + hits r c (xs ++ ys) ≡ cond (has x r c) 1 0 + hits r c xs + hits r c ys = omega arith in s

  -- no list of a span has it
  pub span_none : (n a : ℕ) (f : ℕ → List Run) → ((j : ℕ) → a ≤ j → j < a + n → hits r c (f j) ≡ 0) → hits r c (span a n f) ≡ 0
  span_none zero a f none = refl
  span_none (suc n) a f none =
      let here = none a (omega arith) (omega arith) in
      let later = span_none n (a + 1) f (λ j l h. none j (omega arith) (omega arith)) in
      let both = hits_append (f a) (span (a + 1) n f) in
      omega arith

  -- one list of a span has all that the span has
  pub span_one : (n a j v : ℕ) (f : ℕ → List Run) → a ≤ j → j < a + n → hits r c (f j) ≡ v
      → ((i : ℕ) → a ≤ i → i < a + n → (i ≡ j → ⊥) → hits r c (f i) ≡ 0) → hits r c (span a n f) ≡ v
  span_one zero a j v f l h here others = absurd (omega arith)
  span_one (suc n) a j v f l h here others =
      elim (cases_eq a j) [
        | inl e ↦
            (let first : hits r c (f a) ≡ v = ap (λ k. hits r c (f k)) e ∙ here in
            let later = span_none n (a + 1) f (λ i m b. others i (omega arith) (omega arith) (λ q. omega arith)) in
            let both = hits_append (f a) (span (a + 1) n f) in
            omega arith)
        | inr d ↦
            (let first = others a (omega arith) (omega arith) d in
            let later = span_one n (a + 1) j v f (omega arith) (omega arith) here (λ i m b q. others i (omega arith) (omega arith) q) in
            let both = hits_append (f a) (span (a + 1) n f) in
            omega arith)
      ]

  -- one run alone
  one_hit : (x : Run) → has x r c ≡ true → hits r c (x ∷ []) ≡ 1
  one_hit x e = ap (λ b. cond b 1 0 + 0) e

  one_miss : (x : Run) → has x r c ≡ false → hits r c (x ∷ []) ≡ 0
  one_miss x e = ap (λ b. cond b 1 0 + 0) e

-- the piece that an element of a row is in
module _ (m d : ℕ) (some : 1 ≤ m) where
  piece_from : d / m * m ≤ d
  piece_from = omega (arith, div-add-mod' d m)

  piece_to : d < d / m * m + m
  piece_to = let s : d % m < m = mod-lt d some in omega (arith, div-add-mod' d m)

  pub piece_below : (w : ℕ) → d < w → d / m < pieces w m
  piece_below w h =
      let e : suc (d / m) * m ≡ d / m * m + m = suc-mul (d / m) m in
      (le-div_iff_mul-le {k = m} {x = suc (d / m)} {y = w + (m - 1)} some).1 (omega (arith, piece_from))

-- the pieces of a row from L to R, of at most m elements each
module _ (L R m c : ℕ) (some : 1 ≤ m) where
  in_piece : L ≤ c → c < R → (L + (c - L) / m * m ≤ c) × (c < L + (c - L) / m * m + min m (R - (L + (c - L) / m * m)))
  in_piece l h =
      let a = piece_from m (c - L) some in
      let b = piece_to m (c - L) some in
      (omega arith, omega arith)

  past_piece : (p : ℕ) → p < (c - L) / m → L ≤ c → L + p * m + min m (R - (L + p * m)) ≤ c
  past_piece p h l =
      let a = piece_from m (c - L) some in
      let b : suc p * m ≤ (c - L) / m * m = mul-le-mul_right m h in
      let e : suc p * m ≡ p * m + m = suc-mul p m in
      omega arith

  before_piece : (p : ℕ) → (c - L) / m < p → c < L + p * m
  before_piece p h =
      let a = piece_to m (c - L) some in
      let b : suc ((c - L) / m) * m ≤ p * m = mul-le-mul_right m h in
      let e : suc ((c - L) / m) * m ≡ (c - L) / m * m + m = suc-mul ((c - L) / m) m in
      omega arith

  past_row : (p : ℕ) → R ≤ c → L + p * m ≤ c → L + p * m + min m (R - (L + p * m)) ≤ c
  past_row p h l = omega arith

-- a run of other columns has not the element
column_out : (x : Run) (r c : ℕ) → (c < x.column) ⊎ (x.column + x.count ≤ c) → has x r c ≡ false
column_out x r c (inl h) =
    and_right (eqb x.row r) (leb x.column c && ltb c (x.column + x.count)) (and_left (leb x.column c) (ltb c (x.column + x.count)) (lt-leb x.column c h))
column_out x r c (inr h) =
    and_right (eqb x.row r) (leb x.column c && ltb c (x.column + x.count)) (and_right (leb x.column c) (ltb c (x.column + x.count)) (le-ltb c (x.column + x.count) h))

-- a row's runs
module _ (o : Overlay) (m k r c : ℕ) (some : 1 ≤ m) where
  piece_hit : left o k ≤ c → c < right o k → has (piece o m k r ((c - left o k) / m)) r c ≡ true
  piece_hit l h =
      let i = in_piece (left o k) (right o k) m c some l h in
      and_from _ _ (eq-eqb r r refl) (and_from _ _ (le-leb _ c i.0) (lt-ltb c _ i.1))

  piece_miss : (p : ℕ) → left o k ≤ c → (p ≡ (c - left o k) / m → ⊥) → has (piece o m k r p) r c ≡ false
  piece_miss p l d =
      column_out (piece o m k r p) r c
      (elim (cases_lt p ((c - left o k) / m)) [
        | inl h ↦ inr (past_piece (left o k) (right o k) m c some p h l)
        | inr h ↦ inl (before_piece (left o k) (right o k) m c some p (omega arith))
      ])

  pub row_hit : left o k ≤ c → c < right o k → hits r c (row_runs o m k r) ≡ 1
  row_hit l h =
      span_one r c (pieces (right o k - left o k) m) 0 ((c - left o k) / m) 1 (λ p. piece o m k r p ∷ []) (omega arith)
      (let b = piece_below m (c - left o k) some (right o k - left o k) (omega arith) in omega arith)
      (one_hit r c (piece o m k r ((c - left o k) / m)) (piece_hit l h))
      (λ p a b d. one_miss r c (piece o m k r p) (piece_miss p l d))

  -- an element of another column
  outside : (p : ℕ) → (c < left o k) ⊎ (right o k ≤ c) → has (piece o m k r p) r c ≡ false
  outside p (inl h) = let b : c < left o k + p * m = omega arith in column_out (piece o m k r p) r c (inl b)
  outside p (inr h) =
      column_out (piece o m k r p) r c
      (elim (cases_lt c (left o k + p * m)) [
        | inl b ↦ inl b
        | inr b ↦ inr (past_row (left o k) (right o k) m c some p h b)
      ])

  pub row_outside : (c < left o k) ⊎ (right o k ≤ c) → hits r c (row_runs o m k r) ≡ 0
  row_outside h = span_none r c (pieces (right o k - left o k) m) 0 (λ p. piece o m k r p ∷ []) (λ p a b. one_miss r c (piece o m k r p) (outside p h))

  -- an element of another row
  pub row_other : (q : ℕ) → (q ≡ r → ⊥) → hits r c (row_runs o m k q) ≡ 0
  row_other q d =
      span_none r c (pieces (right o k - left o k) m) 0 (λ p. piece o m k q p ∷ [])
      (λ p a b. one_miss r c (piece o m k q p) (and_left _ _ (ne_eqb q r d)))

-- a cell's runs
module _ (o : Overlay) (m k r c : ℕ) (some : 1 ≤ m) where
  pub cell_hit : Holds o k r c → hits r c (cell_runs o m k) ≡ 1
  cell_hit h =
      span_one r c (bottom o k - top o k) (top o k) r 1 (λ q. row_runs o m k q) h.below_top (omega (arith, h.above_bottom, h.below_top))
      (row_hit o m k r c some h.past_left h.before_right)
      (λ q a b d. row_other o m k r c some q d)

  column_miss : (c < left o k) ⊎ (right o k ≤ c) → hits r c (cell_runs o m k) ≡ 0
  column_miss h =
      span_none r c (bottom o k - top o k) (top o k) (λ q. row_runs o m k q)
      (λ q a b. elim (cases_eq q r) [
        | inl e ↦ ap (λ i. hits r c (row_runs o m k i)) e ∙ row_outside o m k r c some h
        | inr d ↦ row_other o m k r c some q d
      ])

  row_miss : (r < top o k) ⊎ (bottom o k ≤ r) → hits r c (cell_runs o m k) ≡ 0
  row_miss (inl h) = span_none r c (bottom o k - top o k) (top o k) (λ q. row_runs o m k q) (λ q a b. row_other o m k r c some q (λ e. omega arith))
  row_miss (inr h) = span_none r c (bottom o k - top o k) (top o k) (λ q. row_runs o m k q) (λ q a b. row_other o m k r c some q (λ e. omega arith))

  pub cell_miss : k < cells o → (Holds o k r c → ⊥) → hits r c (cell_runs o m k) ≡ 0
  cell_miss one none =
      elim (cases_lt r (top o k)) [
        | inl a ↦ row_miss (inl a)
        | inr a ↦
            elim (cases_lt r (bottom o k)) [
              | inr b ↦ row_miss (inr b)
              | inl b ↦
                  elim (cases_lt c (left o k)) [
                    | inl d ↦ column_miss (inl d)
                    | inr d ↦
                        elim (cases_lt c (right o k)) [
                          | inr e ↦ column_miss (inr e)
                          | inl e ↦ absurd (none (record { one = one; below_top = a; above_bottom = b; past_left = d; before_right = e }))
                        ]
                  ]
            ]
      ]
