-- Where an element lies, from what is known of its block.
use Rattle.std.proofs.Common.{◌≡◌, ℕ, ◌+◌, ◌-◌, ◌*◌, ◌<◌, ◌≤◌, ◌&&◌, ltb, Some, None, sym, ap, ◌∙◌, subst, inl, inr, mul-le-mul, arith}
use Rattle.std.proofs.lemmas.Bool.{cases_Bool, and_parts, and_from, cond-true, lt-ltb, ltb-true}
use Rattle.std.proofs.lemmas.Option.{none-some}
use Rattle.faults.specs.declared.cause.Cause.TheVariants.{Beyond}
use Rattle.splits.specs.Blocks.{Covers, blocks, owner, top, left, height, width}
use Rattle.splits.specs.Laws.{Naming}
use Rattle.splits.specs.Splits.{covering}
use Rattle.splits.specs.Places.{line, pitch, spot, start, inside, step_along_row, step_down_column, row_step, column_step}
use Rattle.splits.proofs.Blocks.{covered_once, only, block_low, block_near}
use Rattle.splits.proofs.Places.{ends_before, filled, in_parts, stepped}
use Rattle.splits.proofs.Sums.{whole}
use Rattle.layout_parts.specs.declared.block.Block.{Block}
use Rattle.layout_parts.specs.declared.block.Spot.{Spot}
use Rattle.layouts.specs.declared.layout.Layout.{Layout}
use Rattle.layouts.specs.Asking.{IsBlock, IsCover, IsPlace, IsSpot, element_refusal}
use Rattle.layouts.specs.Layouts.{grid_of, row_cuts, column_cuts, owner_of, cover_of, offset_of, place_of}
use Rattle.layouts.proofs.Layouts.{sound, column_spans}

module _ (l : Layout) (b r c : ℕ) (v : Covers (grid_of l) b r c) (k : Block) (is : IsBlock l b k) where
  pub in_row : r - k.top < k.height
  in_row = omega (arith, is.top, is.height, v.below_top, v.above_bottom)

  pub in_column : c - k.left < k.width
  in_column = omega (arith, is.left, is.width, v.past_left, v.before_right)

  pub low : k.height ≤ 1024
  low = omega (arith, is.height, block_low l.boards l.rows l.columns (grid_of l) (sound l) b v.one, l.tall.1)

  pub near : k.width ≤ 1024
  near = omega (arith, is.width, block_near l.boards l.rows l.columns (grid_of l) (sound l) b v.one, l.wide.1)

  pub early : k.start ≤ 1048576
  early =
      let g = grid_of l in
      omega
      (arith, is.start, ends_before g b (blocks g) v.one, (whole l.boards l.rows l.columns g (sound l)).2 (owner g b), mul-le-mul l.tall.1 l.wide.1)

  same_block : cover_of l r c ≡ b
  same_block = sym (only l.boards l.rows l.columns (grid_of l) (sound l) b r c v)

  -- the offset, from the block's own numbers
  there : k.start + (line l.order (r - k.top) (c - k.left) * pitch l.order k.height k.width + spot l.order (r - k.top) (c - k.left)) ≡ offset_of l r c
  there =
      let o = l.order in
      let g = grid_of l in
      let F : ℕ → ℕ → ℕ → ℕ → ℕ → ℕ = λ s t f h w. s + (line o (r - t) (c - f) * pitch o h w + spot o (r - t) (c - f)) in
      ap (λ x. F x k.top k.left k.height k.width) is.start
      ∙ (ap (λ x. F (start g b) x k.left k.height k.width) is.top
      ∙ (ap (λ x. F (start g b) (top g b) x k.height k.width) is.left
      ∙ (ap (λ x. F (start g b) (top g b) (left g b) x k.width) is.height
      ∙ (ap (λ x. F (start g b) (top g b) (left g b) (height g b) x) is.width
      ∙ ap (λ y. start g y + inside g y r c) (sym same_block)))))

  same_pitch : pitch l.order k.height k.width ≡ pitch l.order (height (grid_of l) b) (width (grid_of l) b)
  same_pitch = ap (λ x. pitch l.order x k.width) is.height ∙ ap (λ x. pitch l.order (height (grid_of l) b) x) is.width

  pub spotted : (s : Spot) → s.owner ≡ k.owner
      → s.offset ≡ k.start + (line l.order (r - k.top) (c - k.left) * pitch l.order k.height k.width + spot l.order (r - k.top) (c - k.left))
      → s.row_step ≡ step_along_row l.order (pitch l.order k.height k.width)
      → s.column_step ≡ step_down_column l.order (pitch l.order k.height k.width)
      → IsSpot l b r c s
  spotted s eo ef er ec =
      let g = grid_of l in
      let offset : s.offset ≡ offset_of l r c = ef ∙ there in
      let along : s.row_step ≡ row_step g b = er ∙ ap (step_along_row l.order) same_pitch in
      let down : s.column_step ≡ column_step g b = ec ∙ ap (step_down_column l.order) same_pitch in
      record {
        block = same_block;
        owner = eo ∙ is.owner;
        offset = offset;
        row_step = along;
        column_step = down;
        along_row = λ m u. (let e : m * s.row_step ≡ m * row_step g b = ap (λ x. m * x) along in omega (arith, (stepped l.boards l.rows l.columns g (sound l) b r c m v).0 u, offset, e));
        down_column = λ m u. (let e : m * s.column_step ≡ m * column_step g b = ap (λ x. m * x) down in omega (arith, (stepped l.boards l.rows l.columns g (sound l) b r c m v).1 u, offset, e));
      }

-- an element that is not refused is one of the matrix
module _ (l : Layout) (r c : ℕ) (e : element_refusal l r c ≡ None) where
  in_matrix : (r < l.rows) × (c < l.columns)
  in_matrix =
      elim (cases_Bool (ltb r l.rows && ltb c l.columns)) [
        | inl t ↦ (let p = and_parts (ltb r l.rows) (ltb c l.columns) t in (ltb-true r l.rows p.0, ltb-true c l.columns p.1))
        | inr f ↦ absurd (none-some (Beyond 0) (sym (rw f at e)))
      ]

  pub covers_it : Covers (grid_of l) (cover_of l r c) r c
  covers_it = (covered_once l.boards l.rows l.columns (grid_of l) (sound l) r c in_matrix.0 in_matrix.1).0

  pub owner_few : owner_of l (cover_of l r c) ≤ 15
  owner_few = omega (arith, (sound l).owned.below (cover_of l r c) covers_it.one, l.counted.1)

  pub offset_few : offset_of l r c < 1048576
  offset_few =
      omega (
        arith,
        filled l.boards l.rows l.columns (grid_of l) (sound l) r c in_matrix.0 in_matrix.1,
        (whole l.boards l.rows l.columns (grid_of l) (sound l)).2 (owner_of l (cover_of l r c)),
        mul-le-mul l.tall.1 l.wide.1,
      )

module _ (l : Layout) (r c : ℕ) (h : r < l.rows) (k : c < l.columns) where
  pub asked_element : element_refusal l r c ≡ None
  asked_element =
      cond-true (ltb r l.rows && ltb c l.columns) None (Some (Beyond 0))
      (and_from (ltb r l.rows) (ltb c l.columns) (lt-ltb r l.rows h) (lt-ltb c l.columns k))

  pub is_cover : (v : ℕ) → v ≡ cover_of l r c → IsCover l r c v
  is_cover v e =
      let once = covered_once l.boards l.rows l.columns (grid_of l) (sound l) r c h k in
      record { number = e; covers = subst (λ b. Covers (grid_of l) b r c) (sym e) once.0; only = λ b w. once.1 b w ∙ sym e }

  -- the number that the code computes
  pub is_cover_of : (d a : ℕ) → d ≡ covering (row_cuts l) r → a ≡ covering (column_cuts l) c → d * l.column_blocks + a ≡ cover_of l r c
  is_cover_of d a e f =
      ap (λ x. x * l.column_blocks + a) e
      ∙ (ap (λ x. covering (row_cuts l) r * l.column_blocks + x) f ∙ ap (λ x. covering (row_cuts l) r * x + covering (column_cuts l) c) (sym (column_spans l)))

own : (n : ℕ) → Naming n (λ p. p)
own n = record { below = λ j l. l; apart = λ i j l m e. e }

pub is_place : (l : Layout) (share r c v : ℕ) → element_refusal l r c ≡ None → v ≡ place_of l share (λ p. p) r c → IsPlace l share r c v
is_place l share r c v e same =
    let m = in_matrix l r c e in
    record { number = same; placed = λ fits. in_parts l.boards l.rows l.columns (grid_of l) (sound l) share fits (λ p. p) (own l.boards) r c m.0 m.1 }
