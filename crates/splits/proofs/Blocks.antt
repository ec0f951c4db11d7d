-- Each element of a sound grid is covered by exactly one block.
use Rattle.std.proofs.Common.{◌≡◌, ℕ, ◌+◌, ◌-◌, ◌*◌, ◌<◌, ◌≤◌, length, get_or, sym, ap, ◌∙◌, subst, arith}
use Rattle.std.proofs.lemmas.Nat.{mul-add-lt, div-mul-add, mod-mul-add, div_below, mod_below, div-add-mod'}
use Rattle.splits.specs.Splits.{Within, covering}
use Rattle.splits.specs.Blocks.{Grid, Sound, Covers, blocks, row_blocks, column_blocks, row_of, column_of, top, bottom, left, right, cover}
use Rattle.splits.specs.Laws.{CoveredOnce}
use Rattle.splits.proofs.Covering.{in_side, rises_to, within, within_one}

module _ (n rows columns : ℕ) (g : Grid) (s : Sound n rows columns g) where
  -- the row and the column of blocks of a block that is numbered from them
  pub row_at : (i j : ℕ) → j < column_blocks g → row_of g (i * column_blocks g + j) ≡ i
  row_at i j l = div-mul-add i (column_blocks g) j l

  pub column_at : (i j : ℕ) → j < column_blocks g → column_of g (i * column_blocks g + j) ≡ j
  column_at i j l = mod-mul-add i (column_blocks g) j l

  pub rows_within : (b r c : ℕ) → Covers g b r c → Within g.row_cuts (row_of g b) r
  rows_within b r c v =
      record {
        one = div_below b (column_blocks g) (row_blocks g) (omega (arith, s.column_side.long)) v.one;
        from = v.below_top;
        to = v.above_bottom;
      }

  pub columns_within : (b r c : ℕ) → Covers g b r c → Within g.column_cuts (column_of g b) c
  columns_within b r c v =
      record {
        one = mod_below b (column_blocks g) (omega (arith, s.column_side.long));
        from = v.past_left;
        to = v.before_right;
      }

  pub covers : (r c : ℕ) → r < rows → c < columns → Covers g (cover g r c) r c
  covers r c h k =
      let i = covering g.row_cuts r in
      let j = covering g.column_cuts c in
      let u = within rows g.row_cuts r s.row_side h in
      let v = within columns g.column_cuts c s.column_side k in
      let e = row_at i j v.one in
      let f = column_at i j v.one in
      record {
        one = omega (arith, mul-add-lt i (column_blocks g) j (row_blocks g) u.one v.one);
        below_top = subst (λ m. get_or g.row_cuts m 0 ≤ r) (sym e) u.from;
        above_bottom = subst (λ m. r < get_or g.row_cuts (m + 1) 0) (sym e) u.to;
        past_left = subst (λ m. get_or g.column_cuts m 0 ≤ c) (sym f) v.from;
        before_right = subst (λ m. c < get_or g.column_cuts (m + 1) 0) (sym f) v.to;
      }

  -- an element that a block covers is one of the matrix
  pub in_matrix : (b r c : ℕ) → Covers g b r c → (r < rows) × (c < columns)
  in_matrix b r c v = (in_side rows g.row_cuts s.row_side (row_of g b) r (rows_within b r c v), in_side columns g.column_cuts s.column_side (column_of g b) c (columns_within b r c v))

  pub only : (b r c : ℕ) → Covers g b r c → b ≡ cover g r c
  only b r c v =
      let m = in_matrix b r c v in
      let e = within_one rows g.row_cuts s.row_side (row_of g b) (covering g.row_cuts r) r (rows_within b r c v) (within rows g.row_cuts r s.row_side m.0) in
      let f = within_one columns g.column_cuts s.column_side (column_of g b) (covering g.column_cuts c) c (columns_within b r c v) (within columns g.column_cuts c s.column_side m.1) in
      sym (div-add-mod' b (column_blocks g)) ∙ (ap (λ x. x * column_blocks g + column_of g b) e ∙ ap (λ x. covering g.row_cuts r * column_blocks g + x) f)

  -- where a block's splits stand in their lists, and how they lie to each other and to the size
  module _ (b : ℕ) (l : b < blocks g) where
    pub block_row : row_of g b + 1 < length g.row_cuts
    block_row = omega (arith, div_below b (column_blocks g) (row_blocks g) (omega (arith, s.column_side.long)) l)

    pub block_column : column_of g b + 1 < length g.column_cuts
    block_column = omega (arith, mod_below b (column_blocks g) (omega (arith, s.column_side.long)))

    pub block_tall : top g b < bottom g b
    block_tall = s.row_side.rises (row_of g b) block_row

    pub block_wide : left g b < right g b
    block_wide = s.column_side.rises (column_of g b) block_column

    pub block_low : bottom g b ≤ rows
    block_low =
        let h : length g.row_cuts - 1 < length g.row_cuts = omega (arith, s.row_side.long) in
        omega (arith, rises_to rows g.row_cuts s.row_side (row_of g b + 1) (length g.row_cuts - 1) (omega (arith, block_row)) h, s.row_side.last)

    pub block_near : right g b ≤ columns
    block_near =
        let h : length g.column_cuts - 1 < length g.column_cuts = omega (arith, s.column_side.long) in
        omega (arith, rises_to columns g.column_cuts s.column_side (column_of g b + 1) (length g.column_cuts - 1) (omega (arith, block_column)) h, s.column_side.last)

pub covered_once : CoveredOnce
covered_once n rows columns g s r c h k = (covers n rows columns g s r c h k, λ b v. only n rows columns g s b r c v)
