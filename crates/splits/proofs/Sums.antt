-- All blocks of a sound grid together have the matrix's elements.
use Rattle.std.proofs.Common.{◌≡◌, ℕ, zero, suc, ◌+◌, ◌-◌, ◌*◌, ◌<◌, ◌≤◌, Bool, true, false, cond, eqb, get_or, sym, refl, ap, ◌∙◌, add-zero, suc-mul, mul_comm, add-mul, mul-add, add-one, arith}
use Rattle.splits.specs.declared.order.Order.{Order}
use Rattle.splits.specs.declared.order.Order.TheVariants.{RowMajor, ColumnMajor}
use Rattle.splits.specs.Blocks.{Grid, Sound, blocks, row_blocks, column_blocks, height, width, owner}
use Rattle.splits.specs.Places.{lines, pitch, room, held, taken}
use Rattle.splits.specs.Laws.{Whole}
use Rattle.splits.proofs.Blocks.{row_at, column_at}

area : (o : Order) (h w : ℕ) → lines o h w * pitch o h w ≡ h * w
area RowMajor h w = refl
area ColumnMajor h w = mul_comm w h

either_below : (b : Bool) (x : ℕ) → cond b x 0 ≤ x
either_below true x = omega arith
either_below false x = omega arith

held_below : (g : Grid) (p b : ℕ) → held g p b ≤ taken g b
held_below g p zero = omega arith
held_below g p (suc b) = omega (arith, held_below g p b, either_below (eqb (owner g b) p) (room g b))

module _ (n rows columns : ℕ) (g : Grid) (s : Sound n rows columns g) where
  -- the room of the block in row i and column j of blocks
  room_at : (i j : ℕ) → j < column_blocks g
      → room g (i * column_blocks g + j) ≡ (get_or g.row_cuts (i + 1) 0 - get_or g.row_cuts i 0) * (get_or g.column_cuts (j + 1) 0 - get_or g.column_cuts j 0)
  room_at i j l =
      let b = i * column_blocks g + j in
      let e = row_at n rows columns g s i j l in
      let f = column_at n rows columns g s i j l in
      area g.order (height g b) (width g b)
      ∙ (ap (λ x. (get_or g.row_cuts (x + 1) 0 - get_or g.row_cuts x 0) * width g b) e
      ∙ ap (λ y. (get_or g.row_cuts (i + 1) 0 - get_or g.row_cuts i 0) * (get_or g.column_cuts (y + 1) 0 - get_or g.column_cuts y 0)) f)

  -- the blocks before block j of row i of blocks take all above row i, and row i up to the block's left
  module _ (i : ℕ) (above : taken g (i * column_blocks g) ≡ get_or g.row_cuts i 0 * columns) where
    along : (j : ℕ) → j ≤ column_blocks g
        → taken g (i * column_blocks g + j) ≡ get_or g.row_cuts i 0 * columns + (get_or g.row_cuts (i + 1) 0 - get_or g.row_cuts i 0) * get_or g.column_cuts j 0
    along zero l =
        let h = get_or g.row_cuts (i + 1) 0 - get_or g.row_cuts i 0 in
        let z : h * get_or g.column_cuts 0 0 ≡ 0 = ap (λ x. h * x) s.column_side.first ∙ (omega arith) in
        rw (add-zero (i * column_blocks g)) (omega (arith, above, z))
    along (suc j) l =
        let h = get_or g.row_cuts (i + 1) 0 - get_or g.row_cuts i 0 in
        let x = get_or g.column_cuts j 0 in
        let y = get_or g.column_cuts (j + 1) 0 in
        let up : x < y = s.column_side.rises j (omega arith) in
        let e : i * column_blocks g + suc j ≡ suc (i * column_blocks g + j) = omega arith in
        let m : h * (x + (y - x)) ≡ h * x + h * (y - x) = mul-add h x (y - x) in
        let same : x + (y - x) ≡ y = omega arith in
        let m' : h * y ≡ h * x + h * (y - x) = ap (λ z. h * z) (sym same) ∙ m in
        let y' : get_or g.column_cuts (suc j) 0 ≡ y = ap (λ z. get_or g.column_cuts z 0) (sym (add-one j)) in
        let m'' : h * get_or g.column_cuts (suc j) 0 ≡ h * y = ap (λ z. h * z) y' in
        ap (taken g) e ∙ omega (arith, along j (omega arith), room_at i j (omega arith), m', m'')

  down : (i : ℕ) → i ≤ row_blocks g → taken g (i * column_blocks g) ≡ get_or g.row_cuts i 0 * columns
  down zero l =
      let e : 0 * column_blocks g ≡ 0 = omega arith in
      ap (taken g) e ∙ (omega (arith, ap (λ x. x * columns) s.row_side.first))
  down (suc i) l =
      let t = get_or g.row_cuts i 0 in
      let u = get_or g.row_cuts (i + 1) 0 in
      let up : t < u = s.row_side.rises i (omega arith) in
      let r = along i (down i (omega arith)) (column_blocks g) (omega arith) in
      let e : suc i * column_blocks g ≡ i * column_blocks g + column_blocks g = suc-mul i (column_blocks g) in
      let c : (u - t) * get_or g.column_cuts (column_blocks g) 0 ≡ (u - t) * columns = ap (λ x. (u - t) * x) s.column_side.last in
      let m : (t + (u - t)) * columns ≡ t * columns + (u - t) * columns = add-mul t (u - t) columns in
      let same : t + (u - t) ≡ u = omega arith in
      let m' : u * columns ≡ t * columns + (u - t) * columns = ap (λ z. z * columns) (sym same) ∙ m in
      let u' : get_or g.row_cuts (suc i) 0 * columns ≡ u * columns = ap (λ z. get_or g.row_cuts z 0 * columns) (sym (add-one i)) in
      ap (taken g) e ∙ omega (arith, r, c, m', u')

  sums : taken g (blocks g) ≡ rows * columns
  sums = down (row_blocks g) (omega arith) ∙ ap (λ x. x * columns) s.row_side.last

pub whole : Whole
whole n rows columns g s =
    let e = sums n rows columns g s in
    (e, (λ b. area g.order (height g b) (width g b)), (λ p. omega (arith, e, held_below g p (blocks g))))
