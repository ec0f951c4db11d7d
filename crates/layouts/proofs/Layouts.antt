-- What the invariants of a layout say of its grid.
use Rattle.std.proofs.Common.{◌≡◌, ℕ, ◌+◌, ◌*◌, ◌/◌, ◌%◌, ◌<◌, ◌≤◌, false, ltb, List, length, get_or, is_some, Some, None, Option, sym, refl, ap, ◌∙◌, subst, mul-le-mul, arith}
use Rattle.std.proofs.lemmas.Nat.{div_below, mod_below}
use Rattle.std.proofs.lemmas.List.{length-take-le, get_or-take}
use Rattle.std.proofs.lemmas.Bool.{cond-true, lt-ltb}
use Rattle.faults.specs.declared.cause.Cause.TheVariants.{Beyond}
use Rattle.wrong_lists.specs.Lists.{Rule, Legal, first_wrong}
use Rattle.splits.specs.Blocks.{Sound, row_blocks, column_blocks, row_of, column_of, top, bottom, left, right}
use Rattle.splits.specs.Owners.{owner_rule, Owned}
use Rattle.splits.specs.Splits.{split_rule, covering}
use Rattle.splits.proofs.Blocks.{covered_once, block_tall, block_wide}
use Rattle.splits.proofs.Cutting.{legal_cuts}
use Rattle.splits.proofs.Owning.{legal_owned}
use Rattle.splits.proofs.Places.{in_parts, all_apart}
use Rattle.layouts.specs.declared.layout.Layout.{Layout}
use Rattle.layouts.specs.Layouts.{grid_of, row_cuts, column_cuts, blocks_of, owner_of, LawsOf}
use Rattle.layouts.specs.Asking.{block_refusal}
use Rattle.layout_parts.specs.Tables.{Faultless}

none_wrong : (o : Option ℕ) → is_some o ≡ false → o ≡ None
none_wrong None e = refl
none_wrong (Some i) e = let z : ◌≡◌ {A = ℕ} 0 1 = cc in absurd (omega arith)

legal : (may : Rule) (xs : List ℕ) → Faultless may xs → Legal may xs
legal may xs f = none_wrong (first_wrong may xs) f

module _ (l : Layout) where
  pub rows_count : length (row_cuts l) ≡ l.row_blocks + 1
  rows_count = length-take-le (l.row_blocks + 1) l.tables.row_splits (omega (arith, l.down.1, l.tabled.0))

  pub columns_count : length (column_cuts l) ≡ l.column_blocks + 1
  columns_count = length-take-le (l.column_blocks + 1) l.tables.column_splits (omega (arith, l.across.1, l.tabled.1))

  pub row_spans : row_blocks (grid_of l) ≡ l.row_blocks
  row_spans = omega (arith, rows_count)

  pub column_spans : column_blocks (grid_of l) ≡ l.column_blocks
  column_spans = omega (arith, columns_count)

  pub count : blocks_of l ≡ l.row_blocks * l.column_blocks
  count = ap (λ x. x * column_blocks (grid_of l)) row_spans ∙ ap (λ x. l.row_blocks * x) column_spans

  pub few : l.row_blocks * l.column_blocks ≤ 1024
  few = mul-le-mul l.down.1 l.across.1

  pub sound : Sound l.boards l.rows l.columns (grid_of l)
  sound =
      record {
        row_side = legal_cuts l.rows (row_cuts l) (omega (arith, l.tall.0)) (legal (split_rule l.rows) (row_cuts l) l.rowed);
        column_side = legal_cuts l.columns (column_cuts l) (omega (arith, l.wide.0)) (legal (split_rule l.columns) (column_cuts l) l.columned);
        owned =
            subst (λ n. Owned n l.boards (grid_of l).owners) (sym count)
            (legal_owned (l.row_blocks * l.column_blocks) l.boards (grid_of l).owners (legal (owner_rule (l.row_blocks * l.column_blocks) l.boards) (grid_of l).owners l.owned));
      }

  -- what the tables hold in their used parts
  pub row_cut : (k : ℕ) → k ≤ l.row_blocks → get_or l.tables.row_splits k 0 ≡ get_or (row_cuts l) k 0
  row_cut k h = sym (get_or-take (l.row_blocks + 1) l.tables.row_splits k 0 (omega arith))

  pub column_cut : (k : ℕ) → k ≤ l.column_blocks → get_or l.tables.column_splits k 0 ≡ get_or (column_cuts l) k 0
  column_cut k h = sym (get_or-take (l.column_blocks + 1) l.tables.column_splits k 0 (omega arith))

  pub owner_held : (b : ℕ) → b < blocks_of l → get_or l.tables.owners b 0 ≡ owner_of l b
  owner_held b h = sym (get_or-take (l.row_blocks * l.column_blocks) l.tables.owners b 0 (omega (arith, count)))

  -- what the code reads of block b
  module _ (b : ℕ) (h : b < l.row_blocks * l.column_blocks) where
    pub one : b < blocks_of l
    one = omega (arith, count, h)

    pub row_index : b / l.column_blocks < l.row_blocks
    row_index = div_below b l.column_blocks l.row_blocks (omega (arith, l.across.0)) h

    pub column_index : b % l.column_blocks < l.column_blocks
    column_index = mod_below b l.column_blocks (omega (arith, l.across.0))

    same_row : b / l.column_blocks ≡ row_of (grid_of l) b
    same_row = ap (λ x. b / x) (sym column_spans)

    same_column : b % l.column_blocks ≡ column_of (grid_of l) b
    same_column = ap (λ x. b % x) (sym column_spans)

    pub top_held : get_or l.tables.row_splits (b / l.column_blocks) 0 ≡ top (grid_of l) b
    top_held = row_cut (b / l.column_blocks) (omega (arith, row_index)) ∙ ap (λ x. get_or (row_cuts l) x 0) same_row

    pub bottom_held : get_or l.tables.row_splits (b / l.column_blocks + 1) 0 ≡ bottom (grid_of l) b
    bottom_held = row_cut (b / l.column_blocks + 1) (omega (arith, row_index)) ∙ ap (λ x. get_or (row_cuts l) (x + 1) 0) same_row

    pub left_held : get_or l.tables.column_splits (b % l.column_blocks) 0 ≡ left (grid_of l) b
    left_held = column_cut (b % l.column_blocks) (omega (arith, column_index)) ∙ ap (λ x. get_or (column_cuts l) x 0) same_column

    pub right_held : get_or l.tables.column_splits (b % l.column_blocks + 1) 0 ≡ right (grid_of l) b
    right_held = column_cut (b % l.column_blocks + 1) (omega (arith, column_index)) ∙ ap (λ x. get_or (column_cuts l) (x + 1) 0) same_column

    pub tall : top (grid_of l) b < bottom (grid_of l) b
    tall = block_tall l.boards l.rows l.columns (grid_of l) sound b one

    pub wide : left (grid_of l) b < right (grid_of l) b
    wide = block_wide l.boards l.rows l.columns (grid_of l) sound b one

    pub asked_block : block_refusal l b ≡ None
    asked_block = cond-true (ltb b (blocks_of l)) None (Some (Beyond 0)) (lt-ltb b (blocks_of l) one)

  -- the number of the covering block, as the code computes it
  pub cover_few : (r c : ℕ) → r < l.rows → c < l.columns → covering (row_cuts l) r * l.column_blocks + covering (column_cuts l) c < 1024
  cover_few r c h k =
      let v = (covered_once l.boards l.rows l.columns (grid_of l) sound r c h k).0.one in
      let e : covering (row_cuts l) r * l.column_blocks ≡ covering (row_cuts l) r * column_blocks (grid_of l) = ap (λ x. covering (row_cuts l) r * x) (sym column_spans) in
      omega (arith, v, e, count, few)

  pub laws : LawsOf l
  laws =
      record {
        sound = sound;
        once = covered_once l.boards l.rows l.columns (grid_of l) sound;
        placed = in_parts l.boards l.rows l.columns (grid_of l) sound;
        apart = all_apart l.boards l.rows l.columns (grid_of l) sound;
      }
