-- What it says that a layout is not refused.
use Rattle.std.proofs.Common.{◌≡◌, ℕ, ◌-◌, ◌*◌, ◌≤◌, cond, ◌&&◌, leb, List, [], ◌∷◌, length, is_some, Some, None, Option, refl, ap, ◌∙◌, inl, inr, mul-le-mul, arith, sym}
use Rattle.std.proofs.lemmas.Bool.{cases_Bool, and_parts, leb-true}
use Rattle.std.specs.Option.{option_map}
use Rattle.std.proofs.lemmas.Option.{none-some}
use Rattle.wrong_lists.specs.Lists.{Rule, Legal, first_wrong}
use Rattle.faults.specs.declared.cause.Cause.{Cause}
use Rattle.faults.specs.declared.cause.Cause.TheVariants.{Board, Size, Splits, Owners}
use Rattle.faults.specs.declared.cause.Side.TheVariants.{Rows, Columns}
use Rattle.splits.specs.declared.order.Order.{Order}
use Rattle.splits.specs.Blocks.{Sound, grid}
use Rattle.splits.specs.Owners.{owner_rule}
use Rattle.splits.specs.Splits.{Cuts, split_rule, spans}
use Rattle.splits.proofs.Cutting.{legal_cuts}
use Rattle.splits.proofs.Owning.{legal_owned}
use Rattle.layout_parts.specs.Buildable.{Buildable}
use Rattle.layout_parts.specs.Refusals.{topmost, letter_cause, boards_cause, size_cause, splits_cause, owners_cause, frame_refusal, make_refusal}
use Rattle.layout_parts.specs.Tables.{Faultless}

-- a list with no topmost cause has none at its head
topmost_none : (o : Option Cause) (rest : List (Option Cause)) → topmost (o ∷ rest) ≡ None → (o ≡ None) × (topmost rest ≡ None)
topmost_none None rest e = (refl, e)
topmost_none (Some x) rest e = absurd (none-some x (sym e))

mapped_none : (f : ℕ → Cause) (o : Option ℕ) → option_map f o ≡ None → o ≡ None
mapped_none f None e = refl
mapped_none f (Some i) e = absurd (none-some (f i) (sym e))

-- a limit that raises no cause is kept
limit : (m top : ℕ) (x : Cause) → cond (leb 1 m && leb m top) None (Some x) ≡ None → (1 ≤ m) × (m ≤ top)
limit m top x e =
    elim (cases_Bool (leb 1 m && leb m top)) [
      | inl t ↦ (let p = and_parts (leb 1 m) (leb m top) t in (leb-true 1 m p.0, leb-true m top p.1))
      | inr f ↦ absurd (none-some x (sym (rw f at e)))
    ]

module _ (letter n rows columns : ℕ) (rs cs : List ℕ) (e : frame_refusal letter n rows columns rs cs ≡ None) where
  no_letter : (letter_cause letter ≡ None) × (topmost (boards_cause n ∷ size_cause rows ∷ size_cause columns ∷ splits_cause Rows rows rs ∷ splits_cause Columns columns cs ∷ []) ≡ None)
  no_letter = topmost_none (letter_cause letter) (boards_cause n ∷ size_cause rows ∷ size_cause columns ∷ splits_cause Rows rows rs ∷ splits_cause Columns columns cs ∷ []) e

  no_boards : (boards_cause n ≡ None) × (topmost (size_cause rows ∷ size_cause columns ∷ splits_cause Rows rows rs ∷ splits_cause Columns columns cs ∷ []) ≡ None)
  no_boards = topmost_none (boards_cause n) (size_cause rows ∷ size_cause columns ∷ splits_cause Rows rows rs ∷ splits_cause Columns columns cs ∷ []) no_letter.1

  no_rows : (size_cause rows ≡ None) × (topmost (size_cause columns ∷ splits_cause Rows rows rs ∷ splits_cause Columns columns cs ∷ []) ≡ None)
  no_rows = topmost_none (size_cause rows) (size_cause columns ∷ splits_cause Rows rows rs ∷ splits_cause Columns columns cs ∷ []) no_boards.1

  no_columns : (size_cause columns ≡ None) × (topmost (splits_cause Rows rows rs ∷ splits_cause Columns columns cs ∷ []) ≡ None)
  no_columns = topmost_none (size_cause columns) (splits_cause Rows rows rs ∷ splits_cause Columns columns cs ∷ []) no_rows.1

  no_row_splits : (splits_cause Rows rows rs ≡ None) × (topmost (splits_cause Columns columns cs ∷ []) ≡ None)
  no_row_splits = topmost_none (splits_cause Rows rows rs) (splits_cause Columns columns cs ∷ []) no_columns.1

  row_limit : (1 ≤ rows) × (rows ≤ 1024)
  row_limit = limit rows 1024 (Size rows) no_rows.0

  column_limit : (1 ≤ columns) × (columns ≤ 1024)
  column_limit = limit columns 1024 (Size columns) no_columns.0

  legal_rows : Legal (split_rule rows) rs
  legal_rows = mapped_none (λ i. Splits Rows i) (first_wrong (split_rule rows) rs) no_row_splits.0

  legal_columns : Legal (split_rule columns) cs
  legal_columns = mapped_none (λ i. Splits Columns i) (first_wrong (split_rule columns) cs) (topmost_none (splits_cause Columns columns cs) [] no_row_splits.1).0

  pub row_cuts : Cuts rows rs
  row_cuts = legal_cuts rows rs row_limit.0 legal_rows

  pub column_cuts : Cuts columns cs
  column_cuts = legal_cuts columns cs column_limit.0 legal_columns

  pub few_blocks : (length rs - 1) * (length cs - 1) ≤ 1024
  few_blocks =
      let h : length rs - 1 ≤ 32 = omega (arith, row_cuts.short) in
      let k : length cs - 1 ≤ 32 = omega (arith, column_cuts.short) in
      mul-le-mul h k

module _ (letter n rows columns : ℕ) (rs cs os : List ℕ) (e : make_refusal letter n rows columns rs cs os ≡ None) where
  framed : (frame_refusal letter n rows columns rs cs ≡ None) × (topmost (owners_cause (spans rs * spans cs) n os ∷ []) ≡ None)
  framed = topmost_none (frame_refusal letter n rows columns rs cs) (owners_cause (spans rs * spans cs) n os ∷ []) e

  pub buildable : Buildable n rows columns rs cs os
  buildable =
      let f = framed.0 in
      record {
        boards = limit n 16 (Board n) (no_boards letter n rows columns rs cs f).0;
        rows = row_limit letter n rows columns rs cs f;
        columns = column_limit letter n rows columns rs cs f;
        row_splits = legal_rows letter n rows columns rs cs f;
        column_splits = legal_columns letter n rows columns rs cs f;
        owners = mapped_none (λ i. Owners i) (first_wrong (owner_rule (spans rs * spans cs) n) os) (topmost_none (owners_cause (spans rs * spans cs) n os) [] framed.1).0;
      }

pub build_sound : (n rows columns : ℕ) (rs cs os : List ℕ) (o : Order) → Buildable n rows columns rs cs os → Sound n rows columns (grid rs cs os o)
build_sound n rows columns rs cs os o b =
    record {
      row_side = legal_cuts rows rs b.rows.0 b.row_splits;
      column_side = legal_cuts columns cs b.columns.0 b.column_splits;
      owned = legal_owned (spans rs * spans cs) n os b.owners;
    }

pub faultless : (may : Rule) (xs ys : List ℕ) → xs ≡ ys → Legal may ys → Faultless may xs
faultless may xs ys e l = ap (λ zs. is_some (first_wrong may zs)) e ∙ ap is_some l
