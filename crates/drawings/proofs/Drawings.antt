-- What the invariants of a drawing say of its overlay.
use Rattle.std.proofs.Common.{◌≡◌, ℕ, ◌+◌, ◌-◌, ◌*◌, ◌/◌, ◌%◌, ◌<◌, ◌≤◌, List, map, get_or, sym, ap, ◌∙◌, subst, mul_comm, mul-le-mul, arith}
use Rattle.std.proofs.lemmas.Nat.{mul-add-lt, div-mul-add, mod-mul-add}
use Rattle.std.proofs.lemmas.List.{length-map, length-take-le, get_or-map, get_or-take}
use Rattle.drawings.specs.declared.drawing.Drawing.{Drawing}
use Rattle.drawing_parts.specs.declared.lines.Line.{Line}
use Rattle.drawing_parts.specs.declared.lines.Lines.{Lines}
use Rattle.drawing_parts.specs.Parts.{Counted, Drawable, Named, elements_of, places, used, over, source_rows, source_columns}
use Rattle.drawings.specs.Drawings.{overlay_of, package_of, LawsOf}
use Rattle.drawings.specs.Asking.{IsCover}
use Rattle.layouts.specs.declared.layout.Layout.{Layout}
use Rattle.layouts.specs.Layouts.{grid_of, row_cuts, column_cuts, blocks_of}
use Rattle.layouts.proofs.Layouts.{sound, column_spans}
use Rattle.overlays.specs.declared.operation.Operation.{Operation}
use Rattle.overlays.specs.declared.operation.Operation.TheVariants.{Identity, Transpose, ConjugateTranspose}
use Rattle.overlays.specs.Laws.{Lies}
use Rattle.overlays.specs.Overlays.{Joined, across, down, cells as CellsOver, top, bottom, left, right, target_block, source_block, role, sender, area}
use Rattle.overlays.specs.Packages.{sum_below}
use Rattle.overlays.specs.Turns.{turned, source_cover}
use Rattle.overlays.proofs.Cells.{tiles, in_matrix, lies, holds_first, tall, wide, role_below, sender_below}
use Rattle.overlays.proofs.Packages.{by_cells, adds_up, slot, slotted, slot_few, slot_all, elements_few}
use Rattle.splits.specs.Blocks.{Grid, Sound, column_blocks, cover}
use Rattle.splits.specs.Splits.{covering}

-- the lines of a table, and what it holds of them
abbrev pub line_at : Lines → ℕ → Line
line_at l k = get_or l.lines k (record { at = 0; target = 0; source = 0 })

held : (f : Line → ℕ) (l : Lines) → Counted l → (k : ℕ) → k ≤ l.spans → get_or (map f l.lines) k 0 ≡ f (line_at l k)
held f l c k h = get_or-map f l.lines k _ 0 (omega (arith, c, h))

-- the block behind a line is the one that covers the line's place
behind : (f : Line → ℕ) (xs : List ℕ) (l : Lines) → Counted l → Named xs (map f l.lines) l → (k v : ℕ) → k < l.spans → v ≡ (line_at l k).at → f (line_at l k) ≡ covering xs v
behind f xs l c n k v h e =
    let low : k ≤ l.spans = omega (arith, h) in
    sym (held f l c k low) ∙ (n k h ∙ ap (covering xs) (held (λ x. x.at) l c k low ∙ sym e))

-- the number of the block in the rows and columns of blocks that cover an element
number : (g : Grid) (x y r c : ℕ) → x ≡ covering g.row_cuts r → y ≡ covering g.column_cuts c → x * column_blocks g + y ≡ cover g r c
number g x y r c e f = ap (λ z. z * column_blocks g + y) e ∙ ap (λ z. covering g.row_cuts r * column_blocks g + z) f

source_number : (op : Operation) (g : Grid) (x y r c : ℕ) → x ≡ covering (turned op g.row_cuts g.column_cuts) r → y ≡ covering (turned op g.column_cuts g.row_cuts) c
    → turned op x y * column_blocks g + turned op y x ≡ source_cover op g r c
source_number Identity g x y r c e f = number g x y r c e f
source_number Transpose g x y r c e f = number g y x c r f e
source_number ConjugateTranspose g x y r c e f = number g y x c r f e

module _ (op : Operation) (a b : Layout) (rs cs : Lines) (p : Drawable op a b rs cs) where
  pub joined : Joined a.boards a.rows a.columns (over op a b rs cs)
  joined =
      record {
        target = sound a;
        source =
            subst (λ n. Sound n (turned op a.rows a.columns) (turned op a.columns a.rows) (grid_of b)) p.fits.2
            (subst (λ w. Sound b.boards (turned op a.rows a.columns) w (grid_of b)) p.fits.1
            (subst (λ h. Sound b.boards h b.columns (grid_of b)) p.fits.0 (sound b)));
        row_side = p.row_side.union;
        column_side = p.column_side.union;
      }

  pub down_spans : down (over op a b rs cs) ≡ rs.spans
  down_spans = omega (arith, length-take-le (rs.spans + 1) (places rs) (omega (arith, p.row_side.counted, length-map rs.lines (λ x. x.at))))

  pub across_spans : across (over op a b rs cs) ≡ cs.spans
  across_spans = omega (arith, length-take-le (cs.spans + 1) (places cs) (omega (arith, p.column_side.counted, length-map cs.lines (λ x. x.at))))

  pub count : CellsOver (over op a b rs cs) ≡ rs.spans * cs.spans
  count = ap (λ x. x * across (over op a b rs cs)) down_spans ∙ ap (λ x. rs.spans * x) across_spans

  pub few : rs.spans * cs.spans ≤ 3969
  few = mul-le-mul p.row_side.counted.1 p.column_side.counted.1

  row_line : (k : ℕ) → k ≤ rs.spans → get_or (used rs) k 0 ≡ (line_at rs k).at
  row_line k h = get_or-take (rs.spans + 1) (places rs) k 0 (omega arith) ∙ held (λ x. x.at) rs p.row_side.counted k h

  column_line : (k : ℕ) → k ≤ cs.spans → get_or (used cs) k 0 ≡ (line_at cs k).at
  column_line k h = get_or-take (cs.spans + 1) (places cs) k 0 (omega arith) ∙ held (λ x. x.at) cs p.column_side.counted k h

  pub package_all : (q : ℕ) → sum_below (rs.spans * cs.spans) (slotted (over op a b rs cs) q) ≡ elements_of op a b (q / 16) (q % 16)
  package_all q = ap (λ x. sum_below x (slotted (over op a b rs cs) q)) (sym count) ∙ slot_all a.boards a.rows a.columns (over op a b rs cs) joined a.counted.1 q

  -- what the tables hold of the cell in row i and column j of cells
  module _ (i j : ℕ) (h : i < rs.spans) (k : j < cs.spans) where
    pub one : i * cs.spans + j < CellsOver (over op a b rs cs)
    one = omega (arith, mul-add-lt i cs.spans j rs.spans h k, mul_comm cs.spans rs.spans, count)

    row_of : (i * cs.spans + j) / across (over op a b rs cs) ≡ i
    row_of = ap (λ x. (i * cs.spans + j) / x) across_spans ∙ div-mul-add i cs.spans j k

    column_of : (i * cs.spans + j) % across (over op a b rs cs) ≡ j
    column_of = ap (λ x. (i * cs.spans + j) % x) across_spans ∙ mod-mul-add i cs.spans j k

    pub top_at : top (over op a b rs cs) (i * cs.spans + j) ≡ (line_at rs i).at
    top_at = ap (λ x. get_or (used rs) x 0) row_of ∙ row_line i (omega arith)

    pub bottom_at : bottom (over op a b rs cs) (i * cs.spans + j) ≡ (line_at rs (i + 1)).at
    bottom_at = ap (λ x. get_or (used rs) (x + 1) 0) row_of ∙ row_line (i + 1) (omega arith)

    pub left_at : left (over op a b rs cs) (i * cs.spans + j) ≡ (line_at cs j).at
    left_at = ap (λ x. get_or (used cs) x 0) column_of ∙ column_line j (omega arith)

    pub right_at : right (over op a b rs cs) (i * cs.spans + j) ≡ (line_at cs (j + 1)).at
    right_at = ap (λ x. get_or (used cs) (x + 1) 0) column_of ∙ column_line (j + 1) (omega arith)

    pub tall_at : (line_at rs i).at < (line_at rs (i + 1)).at
    tall_at = omega (arith, tall a.boards a.rows a.columns (over op a b rs cs) joined (i * cs.spans + j) one, top_at, bottom_at)

    pub wide_at : (line_at cs j).at < (line_at cs (j + 1)).at
    wide_at = omega (arith, wide a.boards a.rows a.columns (over op a b rs cs) joined (i * cs.spans + j) one, left_at, right_at)

    pub area_at : ((line_at rs (i + 1)).at - (line_at rs i).at) * ((line_at cs (j + 1)).at - (line_at cs j).at) ≡ area (over op a b rs cs) (i * cs.spans + j)
    area_at =
        let w = (line_at cs (j + 1)).at - (line_at cs j).at in
        let x : (line_at rs (i + 1)).at - (line_at rs i).at ≡ bottom (over op a b rs cs) (i * cs.spans + j) - top (over op a b rs cs) (i * cs.spans + j) = omega (arith, top_at, bottom_at) in
        let y : w ≡ right (over op a b rs cs) (i * cs.spans + j) - left (over op a b rs cs) (i * cs.spans + j) = omega (arith, left_at, right_at) in
        ap (λ z. z * w) x ∙ ap (λ z. (bottom (over op a b rs cs) (i * cs.spans + j) - top (over op a b rs cs) (i * cs.spans + j)) * z) y

    -- a package with one more cell has no more elements than the matrix
    pub package_few : sum_below (i * cs.spans + j) (slotted (over op a b rs cs) (slot (over op a b rs cs) (i * cs.spans + j))) + area (over op a b rs cs) (i * cs.spans + j) ≤ 1048576
    package_few = omega (arith, slot_few a.boards a.rows a.columns (over op a b rs cs) joined (i * cs.spans + j) one, mul-le-mul a.tall.1 a.wide.1)

    pub target_at : (line_at rs i).target * a.column_blocks + (line_at cs j).target ≡ target_block (over op a b rs cs) (i * cs.spans + j)
    target_at =
        ap (λ n. (line_at rs i).target * n + (line_at cs j).target) (sym (column_spans a))
        ∙ number (grid_of a) _ _ _ _ (behind (λ x. x.target) (row_cuts a) rs p.row_side.counted p.row_side.target i _ h top_at)
        (behind (λ x. x.target) (column_cuts a) cs p.column_side.counted p.column_side.target j _ k left_at)

    pub source_at : turned op (line_at rs i).source (line_at cs j).source * b.column_blocks + turned op (line_at cs j).source (line_at rs i).source
        ≡ source_block (over op a b rs cs) (i * cs.spans + j)
    source_at =
        ap (λ n. turned op (line_at rs i).source (line_at cs j).source * n + turned op (line_at cs j).source (line_at rs i).source) (sym (column_spans b))
        ∙ source_number op (grid_of b) _ _ _ _ (behind (λ x. x.source) (source_rows op b) rs p.row_side.counted p.row_side.source i _ h top_at)
        (behind (λ x. x.source) (source_columns op b) cs p.column_side.counted p.column_side.source j _ k left_at)

    lies_at : Lies (over op a b rs cs) (i * cs.spans + j) (top (over op a b rs cs) (i * cs.spans + j)) (left (over op a b rs cs) (i * cs.spans + j))
    lies_at = lies a.boards a.rows a.columns (over op a b rs cs) joined (i * cs.spans + j) _ _ (holds_first a.boards a.rows a.columns (over op a b rs cs) joined (i * cs.spans + j) one)

    pub target_in : target_block (over op a b rs cs) (i * cs.spans + j) < blocks_of a
    target_in = lies_at.target.one

    pub source_in : source_block (over op a b rs cs) (i * cs.spans + j) < blocks_of b
    source_in = lies_at.source.one

    pub role_few : role (over op a b rs cs) (i * cs.spans + j) < 16
    role_few = omega (arith, role_below a.boards a.rows a.columns (over op a b rs cs) joined (i * cs.spans + j) one, a.counted.1)

    pub sender_few : sender (over op a b rs cs) (i * cs.spans + j) < 16
    sender_few = omega (arith, sender_below a.boards a.rows a.columns (over op a b rs cs) joined (i * cs.spans + j) one, a.counted.1)

pub laws : (d : Drawing) → LawsOf d
laws d =
    let n = d.target.boards in
    let h = d.target.rows in
    let w = d.target.columns in
    let o = overlay_of d in
    let j = joined d.operation d.target d.source d.row_lines d.column_lines d.drawable in
    record {
      joined = j;
      tiled = tiles n h w o j;
      inside = in_matrix n h w o j;
      lies = lies n h w o j;
      by_cells = by_cells n h w o j;
      adds_up = adds_up n h w o j;
    }

-- what the cell in a row and column of cells is to the cell of its number
module _ (d : Drawing) (k n : ℕ) (e : n ≡ k) where
  pub is_cover : (t s : ℕ) → t ≡ target_block (overlay_of d) n → s ≡ source_block (overlay_of d) n → IsCover d k t s
  is_cover t s f g =
      record { target = f ∙ ap (target_block (overlay_of d)) e; source = g ∙ ap (source_block (overlay_of d)) e; lies = λ r c v. (laws d).lies k r c v }

pub package_most : (d : Drawing) (i j : ℕ) → package_of d i j ≤ 1048576
package_most d i j =
    omega (
      arith,
      elements_few d.operation (grid_of d.target) (grid_of d.source) d.target.rows d.target.columns i j,
      mul-le-mul d.target.tall.1 d.target.wide.1,
    )

-- a package has few bytes
pub bytes_few : (d : Drawing) (i j n words : ℕ) → n ≡ package_of d i j → words ≤ 255 → n * words ≤ 267386880
bytes_few d i j n words e h =
    let few : n ≤ 1048576 = omega (arith, e, package_most d i j) in omega (arith, mul-le-mul few h)
