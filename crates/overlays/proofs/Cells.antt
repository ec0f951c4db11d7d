-- The cells of an overlay tile the target, and each lies in one block of either side.
use Rattle.std.proofs.Common.{◌≡◌, ℕ, ◌+◌, ◌*◌, ◌/◌, ◌%◌, ◌<◌, ◌≤◌, List, get_or, sym, ap, ◌∙◌, subst, arith}
use Rattle.std.proofs.lemmas.Nat.{mul-add-lt, div-mul-add, mod-mul-add, div_below, mod_below, div-add-mod'}
use Rattle.splits.specs.Splits.{Cuts, Within, covering}
use Rattle.splits.specs.Blocks.{Grid, Covers, cover, column_blocks}
use Rattle.splits.proofs.Blocks.{covers, only}
use Rattle.overlays.specs.declared.operation.Operation.{Operation}
use Rattle.overlays.specs.declared.operation.Operation.TheVariants.{Identity, Transpose, ConjugateTranspose}
use Rattle.overlays.specs.Turns.{turned, source_cover}
use Rattle.overlays.specs.Lines.{Lines}
use Rattle.overlays.specs.Overlays.{Overlay, Holds, Joined, down, across, cells, top, bottom, left, right, target_block, source_block, role, sender}
use Rattle.overlays.specs.Laws.{Lies, Tiled, InBlocks}
use Rattle.overlays.proofs.Rising.{span_of, span_one, in_side, same_covering, of_first, of_second}

pub turned_cuts : (op : Operation) (rows columns : ℕ) (rs cs : List ℕ) → Cuts (turned op rows columns) rs → Cuts (turned op columns rows) cs → Cuts rows (turned op rs cs)
turned_cuts Identity rows columns rs cs u v = u
turned_cuts Transpose rows columns rs cs u v = v
turned_cuts ConjugateTranspose rows columns rs cs u v = v

pub turned_below : (op : Operation) (r c rows columns : ℕ) → r < rows → c < columns → turned op r c < turned op rows columns
turned_below Identity r c rows columns h k = h
turned_below Transpose r c rows columns h k = k
turned_below ConjugateTranspose r c rows columns h k = k

-- elements in the same rows and columns of blocks are covered by the same block
target_same : (g : Grid) (r c q d : ℕ) → covering g.row_cuts r ≡ covering g.row_cuts q → covering g.column_cuts c ≡ covering g.column_cuts d → cover g r c ≡ cover g q d
target_same g r c q d e f =
    ap (λ x. x * column_blocks g + covering g.column_cuts c) e ∙ ap (λ x. covering g.row_cuts q * column_blocks g + x) f

source_same : (op : Operation) (g : Grid) (r c q d : ℕ)
    → covering (turned op g.row_cuts g.column_cuts) r ≡ covering (turned op g.row_cuts g.column_cuts) q
    → covering (turned op g.column_cuts g.row_cuts) c ≡ covering (turned op g.column_cuts g.row_cuts) d
    → source_cover op g r c ≡ source_cover op g q d
source_same Identity g r c q d e f = target_same g r c q d e f
source_same Transpose g r c q d e f = target_same g c r d q f e
source_same ConjugateTranspose g r c q d e f = target_same g c r d q f e

module _ (n rows columns : ℕ) (o : Overlay) (j : Joined n rows columns o) where
  pub row_lines : Lines rows o.row_lines
  row_lines = j.row_side.lines

  pub column_lines : Lines columns o.column_lines
  column_lines = j.column_side.lines

  pub source_rows : Cuts rows (turned o.operation o.source.row_cuts o.source.column_cuts)
  source_rows = turned_cuts o.operation rows columns o.source.row_cuts o.source.column_cuts j.source.row_side j.source.column_side

  pub source_columns : Cuts columns (turned o.operation o.source.column_cuts o.source.row_cuts)
  source_columns = turned_cuts o.operation columns rows o.source.column_cuts o.source.row_cuts j.source.column_side j.source.row_side

  -- the cell in row a and column b of cells
  pub row_at : (a b : ℕ) → b < across o → (a * across o + b) / across o ≡ a
  row_at a b h = div-mul-add a (across o) b h

  pub column_at : (a b : ℕ) → b < across o → (a * across o + b) % across o ≡ b
  column_at a b h = mod-mul-add a (across o) b h

  pub cell_at : (a b r c : ℕ) → Within o.row_lines a r → Within o.column_lines b c → Holds o (a * across o + b) r c
  cell_at a b r c u v =
      let e = row_at a b v.one in
      let f = column_at a b v.one in
      record {
        one = omega (arith, mul-add-lt a (across o) b (down o) u.one v.one);
        below_top = subst (λ m. get_or o.row_lines m 0 ≤ r) (sym e) u.from;
        above_bottom = subst (λ m. r < get_or o.row_lines (m + 1) 0) (sym e) u.to;
        past_left = subst (λ m. get_or o.column_lines m 0 ≤ c) (sym f) v.from;
        before_right = subst (λ m. c < get_or o.column_lines (m + 1) 0) (sym f) v.to;
      }

  pub some_across : 0 < across o
  some_across = omega (arith, column_lines.long)

  module _ (k : ℕ) (h : k < cells o) where
    pub cell_row : k / across o < down o
    cell_row = div_below k (across o) (down o) some_across h

    pub cell_column : k % across o < across o
    cell_column = mod_below k (across o) some_across

    pub tall : top o k < bottom o k
    tall = row_lines.rises (k / across o) (omega (arith, cell_row))

    pub wide : left o k < right o k
    wide = column_lines.rises (k % across o) (omega (arith, cell_column))

    -- a cell has its first element
    pub holds_first : Holds o k (top o k) (left o k)
    holds_first = record { one = h; below_top = omega arith; above_bottom = tall; past_left = omega arith; before_right = wide }

  module _ (k r c : ℕ) (h : Holds o k r c) where
    pub row_within : Within o.row_lines (k / across o) r
    row_within = record { one = cell_row k h.one; from = h.below_top; to = h.above_bottom }

    pub column_within : Within o.column_lines (k % across o) c
    column_within = record { one = cell_column k h.one; from = h.past_left; to = h.before_right }

    pub in_matrix : (r < rows) × (c < columns)
    in_matrix = (in_side rows o.row_lines row_lines (k / across o) r row_within, in_side columns o.column_lines column_lines (k % across o) c column_within)

    pub same_target : cover o.target r c ≡ target_block o k
    same_target =
        target_same o.target r c (top o k) (left o k)
        (same_covering rows o.target.row_cuts o.row_lines j.target.row_side row_lines (of_first rows o.target.row_cuts (turned o.operation o.source.row_cuts o.source.column_cuts) o.row_lines j.row_side) (k / across o) r row_within)
        (same_covering columns o.target.column_cuts o.column_lines j.target.column_side column_lines (of_first columns o.target.column_cuts (turned o.operation o.source.column_cuts o.source.row_cuts) o.column_lines j.column_side) (k % across o) c column_within)

    pub same_source : source_cover o.operation o.source r c ≡ source_block o k
    same_source =
        source_same o.operation o.source r c (top o k) (left o k)
        (same_covering rows (turned o.operation o.source.row_cuts o.source.column_cuts) o.row_lines source_rows row_lines (of_second rows o.target.row_cuts (turned o.operation o.source.row_cuts o.source.column_cuts) o.row_lines j.row_side) (k / across o) r row_within)
        (same_covering columns (turned o.operation o.source.column_cuts o.source.row_cuts) o.column_lines source_columns column_lines (of_second columns o.target.column_cuts (turned o.operation o.source.column_cuts o.source.row_cuts) o.column_lines j.column_side) (k % across o) c column_within)

    target_covers : Covers o.target (target_block o k) r c
    target_covers = subst (λ b. Covers o.target b r c) same_target (covers n rows columns o.target j.target r c in_matrix.0 in_matrix.1)

    source_covers : Covers o.source (source_block o k) (turned o.operation r c) (turned o.operation c r)
    source_covers =
        subst (λ b. Covers o.source b (turned o.operation r c) (turned o.operation c r)) same_source
        (covers n (turned o.operation rows columns) (turned o.operation columns rows) o.source j.source (turned o.operation r c) (turned o.operation c r)
        (turned_below o.operation r c rows columns in_matrix.0 in_matrix.1) (turned_below o.operation c r columns rows in_matrix.1 in_matrix.0))

    pub lies : Lies o k r c
    lies =
        record {
          target = target_covers;
          target_only = λ b v. only n rows columns o.target j.target b r c v ∙ same_target;
          source = source_covers;
          source_only = λ b v. only n (turned o.operation rows columns) (turned o.operation columns rows) o.source j.source b (turned o.operation r c) (turned o.operation c r) v ∙ same_source;
        }

  -- a cell's blocks are blocks, and their owners boards
  module _ (k : ℕ) (h : k < cells o) where
    pub role_below : role o k < n
    role_below = j.target.owned.below (target_block o k) (target_covers k (top o k) (left o k) (holds_first k h)).one

    pub sender_below : sender o k < n
    sender_below = j.source.owned.below (source_block o k) (source_covers k (top o k) (left o k) (holds_first k h)).one

  cell_one : (k m r c : ℕ) → Holds o k r c → Holds o m r c → m ≡ k
  cell_one k m r c h i =
      let e = span_one rows o.row_lines row_lines (m / across o) (k / across o) r (row_within m r c i) (row_within k r c h) in
      let f = span_one columns o.column_lines column_lines (m % across o) (k % across o) c (column_within m r c i) (column_within k r c h) in
      sym (div-add-mod' m (across o)) ∙ (ap (λ x. x * across o + m % across o) e ∙ (ap (λ x. k / across o * across o + x) f ∙ div-add-mod' k (across o)))

  pub tiles : (r c : ℕ) → r < rows → c < columns → (k : ℕ) × Holds o k r c × ((m : ℕ) → Holds o m r c → m ≡ k)
  tiles r c h k =
      let u = span_of rows o.row_lines row_lines r h in
      let v = span_of columns o.column_lines column_lines c k in
      let s = cell_at u.0 v.0 r c u.1 v.1 in
      (u.0 * across o + v.0, s, λ m i. cell_one (u.0 * across o + v.0) m r c s i)

pub tiled : Tiled
tiled n rows columns o j = (tiles n rows columns o j, λ k r c h. in_matrix n rows columns o j k r c h)

pub in_blocks : InBlocks
in_blocks n rows columns o j k r c h = lies n rows columns o j k r c h
