-- One step of a cursor over a drawing.
use Rattle.std.proofs.Common.{◌≡◌, ℕ, ◌+◌, ◌-◌, ◌*◌, ◌<◌, ◌≤◌, min, true, false, cond, ◌&&◌, ltb, List, [], ◌∷◌, ◌++◌, Some, None, sym, ap, ◌∙◌, subst, inl, inr, append_assoc, arith}
use native.Mathlib.Nat.{sub-zero}
use Rattle.std.proofs.lemmas.Bool.{and_parts, cases_Bool, cases_lt, cond-true, cond-false, lt-ltb, le-ltb, ltb-true, ltb-false}
use Rattle.std.proofs.lemmas.Option.{none-some}
use Rattle.std.specs.List.{AllByRecursion}
use Rattle.faults.specs.declared.cause.Cause.{Cause}
use Rattle.faults.specs.declared.cause.Cause.TheVariants.{Beyond}
use Rattle.drawings.proofs.Drawings.{joined, count, few}
use Rattle.drawings.specs.Asking.{IsCell, cell_refusal}
use Rattle.drawings.specs.Drawings.{overlay_of, cells, cell_top, cell_bottom, cell_left, cell_right, role_of, sender_of}
use Rattle.drawing_parts.specs.declared.cell.Cell.{Cell}
use Rattle.drawings.specs.declared.drawing.Drawing.{Drawing}
use Rattle.overlays.proofs.Cells.{in_matrix, tall, wide}
use Rattle.overlays.specs.Overlays.{Joined, Holds}
use Rattle.runs.proofs.Once.{all_append}
use Rattle.runs.specs.Runs.{Run, pieces, piece, runs_of, span}
use Rattle.cursors.specs.Cursors.{admits, bounded, chosen, runs_from}
use Rattle.cursors.specs.Steps.{On, advance, left_at, passes, run_at, run_of}
use Rattle.cursors.specs.declared.cursor.Cursor.{Cursor}
use Rattle.cursors.specs.declared.cursor.Wanted.{Wanted}
use Rattle.cursors.proofs.Leaving.{enter, from_past, next_cell, next_piece, next_row, skip, skipped_in, skipped_none}

module _ (d : Drawing) where
  over_joined : Joined d.target.boards d.target.rows d.target.columns (overlay_of d)
  over_joined = joined d.operation d.target d.source d.row_lines d.column_lines d.drawable

  pub cells_few : cells d ≤ 3969
  cells_few =
      let e = count d.operation d.target d.source d.row_lines d.column_lines d.drawable in
      let f = few d.operation d.target d.source d.row_lines d.column_lines d.drawable in
      subst (λ n. n ≤ 3969) (sym e) f

  -- a cell lies in the matrix
  pub cell_size : (k : ℕ) (x : Cell) → k < cells d → IsCell d k x → (x.top + x.height ≤ 1024) × (x.left + x.width ≤ 1024)
  cell_size k x h is =
      let t = tall d.target.boards d.target.rows d.target.columns (overlay_of d) over_joined k h in
      let w = wide d.target.boards d.target.rows d.target.columns (overlay_of d) over_joined k h in
      let last : Holds (overlay_of d) k (cell_bottom d k - 1) (cell_right d k - 1) =
      record { one = h; below_top = omega arith; above_bottom = omega arith; past_left = omega arith; before_right = omega arith } in
      let in_it = in_matrix d.target.boards d.target.rows d.target.columns (overlay_of d) over_joined k (cell_bottom d k - 1) (cell_right d k - 1) last in
      (omega (arith, is.top, is.height, in_it.0, d.target.tall.1, t), omega (arith, is.left, is.width, in_it.1, d.target.wide.1, w))

module _ (d : Drawing) (m i : ℕ) (some : 1 ≤ m) (c : Cursor) (x : Cell) (is : IsCell d c.cell x) (one : c.cell < cells d) where
  -- a run that is wanted
  module _ (sent : x.sender ≡ i) (g : c.row < x.height) (h : c.piece < pieces x.width m) where
    run_same : piece (overlay_of d) m c.cell (cell_top d c.cell + c.row) c.piece ≡ run_of (run_at x m c)
    run_same =
        let row : cell_top d c.cell + c.row ≡ x.top + c.row = ap (λ t. t + c.row) (sym is.top) in
        let column : cell_left d c.cell + c.piece * m ≡ x.left + c.piece * m = ap (λ t. t + c.piece * m) (sym is.left) in
        let rest : cell_right d c.cell - (cell_left d c.cell + c.piece * m) ≡ x.width - c.piece * m = omega (arith, is.width) in
        let size : min m (cell_right d c.cell - (cell_left d c.cell + c.piece * m)) ≡ min m (x.width - c.piece * m) = ap (min m) rest in
        λ t. record { cell = c.cell; row = row t; column = column t; count = size t }

    of_sender : sender_of d c.cell ≡ i
    of_sender = sym is.sender ∙ sent

    inside : c.row < cell_bottom d c.cell - cell_top d c.cell
    inside = subst (λ n. c.row < n) is.height g

    on_piece : c.piece < pieces (cell_right d c.cell - cell_left d c.cell) m
    on_piece = subst (λ n. c.piece < pieces n m) is.width h

    step_on : left_at d m i c ≡ piece (overlay_of d) m c.cell (cell_top d c.cell + c.row) c.piece ∷ left_at d m i (advance x m c)
    step_on =
        let n = d.target.boards in
        let rows = d.target.rows in
        let columns = d.target.columns in
        elim (cases_lt (c.piece + 1) (pieces x.width m)) [
          | inl l ↦
              (next_piece n rows columns (overlay_of d) (over_joined d) m some i c.cell c.row c.piece one of_sender inside on_piece (subst (λ w. c.piece + 1 < pieces w m) is.width l)
              ∙ ap (λ v. piece (overlay_of d) m c.cell (cell_top d c.cell + c.row) c.piece ∷ left_at d m i v)
              (sym (cond-true (ltb (c.piece + 1) (pieces x.width m)) _ _ (lt-ltb _ _ l))))
          | inr l ↦
              (let last = subst (λ w. pieces w m ≤ c.piece + 1) is.width l in
              let over = cond-false (ltb (c.piece + 1) (pieces x.width m)) (record { cell = c.cell; row = c.row; piece = c.piece + 1 })
              (cond (ltb (c.row + 1) x.height) (record { cell = c.cell; row = c.row + 1; piece = 0 }) (record { cell = c.cell + 1; row = 0; piece = 0 })) (le-ltb _ _ l) in
              elim (cases_lt (c.row + 1) x.height) [
                | inl b ↦
                    (next_row n rows columns (overlay_of d) (over_joined d) m some i c.cell c.row c.piece one of_sender inside on_piece last (subst (λ t. c.row + 1 < t) is.height b)
                    ∙ ap (λ v. piece (overlay_of d) m c.cell (cell_top d c.cell + c.row) c.piece ∷ left_at d m i v)
                    (sym (over ∙ cond-true (ltb (c.row + 1) x.height) _ _ (lt-ltb _ _ b))))
                | inr b ↦
                    (next_cell n rows columns (overlay_of d) (over_joined d) m some i c.cell c.row c.piece one of_sender inside on_piece last (subst (λ t. t ≤ c.row + 1) is.height b)
                    ∙ ap (λ v. piece (overlay_of d) m c.cell (cell_top d c.cell + c.row) c.piece ∷ left_at d m i v)
                    (sym (over ∙ cond-false (ltb (c.row + 1) x.height) _ _ (le-ltb _ _ b))))
              ])
        ]

    pub step : left_at d m i c ≡ run_of (run_at x m c) ∷ left_at d m i (advance x m c)
    step = step_on ∙ ap (λ v. v ∷ left_at d m i (advance x m c)) run_same

  -- a cell without a wanted run
  by_cell : (w : Wanted) → admits w x.role ≡ false → (s : List Run) → AllByRecursion (λ v. v.cell ≡ c.cell) s → AllByRecursion (λ v. passes d w v ≡ false) s
  by_cell w off [] a = tt
  by_cell w off (v ∷ s) (e, a) = (ap (λ k. admits w (role_of d k)) e ∙ ap (admits w) (sym is.role) ∙ off, by_cell w off s a)

  pub skip_unwanted : (w : Wanted) → admits w x.role ≡ false
      → (s : List Run) × (left_at d m i c ≡ s ++ left_at d m i (record { cell = c.cell + 1; row = 0; piece = 0 })) × AllByRecursion (λ v. passes d w v ≡ false) s
  skip_unwanted w off = (
    _,
    skip d.target.boards d.target.rows d.target.columns (overlay_of d) (over_joined d) m some i c.cell c.row c.piece one,
    by_cell w off _ (skipped_in d.target.boards d.target.rows d.target.columns (overlay_of d) (over_joined d) m some i c.cell c.row c.piece),
  )

  pub skip_absent : (w : Wanted) → (x.sender ≡ i → c.row < x.height → c.piece < pieces x.width m → ⊥)
      → (s : List Run) × (left_at d m i c ≡ s ++ left_at d m i (record { cell = c.cell + 1; row = 0; piece = 0 })) × AllByRecursion (λ v. passes d w v ≡ false) s
  skip_absent w none =
      let empty = skipped_none d.target.boards d.target.rows d.target.columns (overlay_of d) (over_joined d) m some i c.cell c.row c.piece
      (λ s g h. none (is.sender ∙ s) (subst (λ n. c.row < n) (sym is.height) g) (subst (λ n. c.piece < pieces n m) (sym is.width) h)) in (
        [],
        skip d.target.boards d.target.rows d.target.columns (overlay_of d) (over_joined d) m some i c.cell c.row c.piece one
            ∙ ap (λ t. t ++ runs_from (overlay_of d) m i (c.cell + 1) 0 0) empty,
        tt,
      )

-- past the last cell nothing is left
pub none_left : (d : Drawing) (m i : ℕ) → 1 ≤ m → (c : Cursor) → cells d ≤ c.cell → left_at d m i c ≡ []
none_left d m i some c h = from_past d.target.boards d.target.rows d.target.columns (overlay_of d) (over_joined d) m some i c.cell c.row c.piece h

-- what was passed over before and now
pub passed_on : (P : Run → Type 0) (l m n s t : List Run) → l ≡ s ++ m → m ≡ t ++ n → AllByRecursion P s → AllByRecursion P t → (u : List Run) × (l ≡ u ++ n) × AllByRecursion P u
passed_on P l m n s t e f a b = (s ++ t, e ∙ ap (λ v. s ++ v) f ∙ sym (append_assoc s t n), all_append P s t a b)

-- which cells there are
pub is_cell : (d : Drawing) (k : ℕ) → cell_refusal d k ≡ None → k < cells d
is_cell d k e =
    elim (cases_Bool (ltb k (cells d))) [
      | inl t ↦ ltb-true k (cells d) t
      | inr f ↦ absurd (none-some (Beyond 0) (sym e ∙ cond-false (ltb k (cells d)) None (Some (Beyond 0)) f))
    ]

pub no_cell : (d : Drawing) (k : ℕ) (v : Cause) → cell_refusal d k ≡ Some v → cells d ≤ k
no_cell d k v e =
    elim (cases_Bool (ltb k (cells d))) [
      | inl t ↦ absurd (none-some v (sym (cond-true (ltb k (cells d)) None (Some (Beyond 0)) t) ∙ e))
      | inr f ↦ ltb-false k (cells d) f
    ]

-- what stands in a cell stands on a piece of it
pub stands_on : (d : Drawing) (m : ℕ) (c : Cursor) (x : Cell) → (1 ≤ m) × (m ≤ 60) → IsCell d c.cell x → c.cell < cells d
    → true ≡ (ltb c.row x.height && ltb c.piece (pieces x.width m)) → On x m c
stands_on d m c x most is one e =
    let on = and_parts (ltb c.row x.height) (ltb c.piece (pieces x.width m)) (sym e) in
    let size = cell_size d c.cell x one is in
    record { most = most; rows = size.0; columns = size.1; row = ltb-true _ _ on.0; piece = ltb-true _ _ on.1; cell = omega (arith, one, cells_few d) }

-- the most elements of a run
pub bounded_is : (longest : ℕ) → (1 ≤ bounded longest) × (bounded longest ≤ 60)
bounded_is longest = (omega arith, omega arith)

-- from the start all runs of a sender are left
pub whole : (d : Drawing) (m i : ℕ) → 1 ≤ m → runs_from (overlay_of d) m i 0 0 0 ≡ runs_of (overlay_of d) m i
whole d m i some =
    enter d.target.boards d.target.rows d.target.columns (overlay_of d) (over_joined d) m some i 0
    ∙ ap (λ n. span 0 n (chosen (overlay_of d) m i)) (sub-zero (cells d))
