-- What is known of the blocks of what is checked.
use Rattle.std.proofs.Common.{◌≡◌, ℕ, ◌+◌, ◌-◌, ◌<◌, ◌≤◌, List, length, get_or, take, sym, ap, ◌∙◌, mul-le-mul, arith}
use Rattle.splits.specs.Blocks.{Sound, grid, blocks, row_of, column_of, top, bottom, left, right, owner}
use Rattle.splits.specs.Places.{room, start}
use Rattle.splits.proofs.Blocks.{block_row, block_column, block_tall, block_wide}
use Rattle.splits.proofs.Places.{ends_before}
use Rattle.splits.proofs.Sums.{whole}
use Rattle.layout_parts.specs.declared.given.Checked.{Checked}
use Rattle.layout_parts.specs.Given.{checked_grid}
use Rattle.layout_parts.specs.Tables.{table_grid}
use Rattle.layout_parts.proofs.Making.{build_sound}

module _ (k : Checked) where
  pub sound : Sound k.given.boards k.given.rows k.given.columns (checked_grid k)
  sound = build_sound k.given.boards k.given.rows k.given.columns k.given.row_splits.now k.given.column_splits.now k.given.owners.now k.order k.buildable

  pub counted : length k.given.owners.now ≡ blocks (checked_grid k)
  counted = sound.owned.long

  pub few : blocks (checked_grid k) ≤ 1024
  few =
      let h : length k.given.row_splits.now - 1 ≤ 32 = omega (arith, sound.row_side.short) in
      let w : length k.given.column_splits.now - 1 ≤ 32 = omega (arith, sound.column_side.short) in
      mul-le-mul h w

  pub in_blocks : (b : ℕ) → b < length k.given.owners.now → b < blocks (checked_grid k)
  in_blocks b l = omega (arith, counted)

  pub in_tables : (b : ℕ) → b < length k.given.owners.now → b < 1024
  in_tables b l = omega (arith, counted, few)

  pub board : (b : ℕ) → b < length k.given.owners.now → get_or k.given.owners.now b 0 < 16
  board b l = omega (arith, sound.owned.below b (in_blocks b l), k.buildable.boards.1)

  pub owners_few : length k.given.owners.now ≤ 1024
  owners_few = omega (arith, counted, few)

  -- what tables that begin with the lists hold in their used parts
  module _ (tr tc to : List ℕ) (er : take (length k.given.row_splits.now) tr ≡ k.given.row_splits.now) (ec : take (length k.given.column_splits.now) tc ≡ k.given.column_splits.now) (eo : take (length k.given.owners.now) to ≡ k.given.owners.now) where
    pub rows_held : take (length k.given.row_splits.now - 1 + 1) tr ≡ k.given.row_splits.now
    rows_held = let e : length k.given.row_splits.now - 1 + 1 ≡ length k.given.row_splits.now = omega (arith, sound.row_side.long) in ap (λ n. take n tr) e ∙ er

    pub columns_held : take (length k.given.column_splits.now - 1 + 1) tc ≡ k.given.column_splits.now
    columns_held = let e : length k.given.column_splits.now - 1 + 1 ≡ length k.given.column_splits.now = omega (arith, sound.column_side.long) in ap (λ n. take n tc) e ∙ ec

    pub owners_held : take (blocks (checked_grid k)) to ≡ k.given.owners.now
    owners_held = ap (λ n. take n to) (sym counted) ∙ eo

    pub grid_held : table_grid (length k.given.row_splits.now - 1) (length k.given.column_splits.now - 1) tr tc to k.order ≡ checked_grid k
    grid_held =
        ap (λ x. grid x (take (length k.given.column_splits.now - 1 + 1) tc) (take (blocks (checked_grid k)) to) k.order) rows_held
        ∙ (ap (λ x. grid k.given.row_splits.now x (take (blocks (checked_grid k)) to) k.order) columns_held ∙ ap (λ x. grid k.given.row_splits.now k.given.column_splits.now x k.order) owners_held)

  module _ (b : ℕ) (l : b < blocks (checked_grid k)) where
    pub row_in : row_of (checked_grid k) b + 1 < length k.given.row_splits.now
    row_in = block_row k.given.boards k.given.rows k.given.columns (checked_grid k) sound b l

    pub column_in : column_of (checked_grid k) b + 1 < length k.given.column_splits.now
    column_in = block_column k.given.boards k.given.rows k.given.columns (checked_grid k) sound b l

    pub tall : top (checked_grid k) b < bottom (checked_grid k) b
    tall = block_tall k.given.boards k.given.rows k.given.columns (checked_grid k) sound b l

    pub wide : left (checked_grid k) b < right (checked_grid k) b
    wide = block_wide k.given.boards k.given.rows k.given.columns (checked_grid k) sound b l

    -- an owner's blocks up to and with this one have no more elements than the matrix
    pub little : start (checked_grid k) b + room (checked_grid k) b ≤ 1048576
    little =
        let g = checked_grid k in
        omega
        (arith, ends_before g b (blocks g) l, (whole k.given.boards k.given.rows k.given.columns g sound).2 (owner g b), mul-le-mul k.buildable.rows.1 k.buildable.columns.1)
