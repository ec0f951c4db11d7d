-- Each element is in exactly one run, and each run in one row of a cell.
use Rattle.std.proofs.Common.{◌≡◌, ℕ, zero, suc, ◌+◌, ◌-◌, ◌*◌, ◌<◌, ◌≤◌, min, Bool, true, false, cond, eqb, List, [], ◌∷◌, ◌++◌, sym, refl, ap, ◌∙◌, suc-mul, le-div_iff_mul-le, arith}
use Rattle.std.proofs.lemmas.Bool.{eqb-true}
use Rattle.std.specs.List.{AllByRecursion}
use Rattle.overlays.proofs.Cells.{in_blocks, same_source, tiles}
use Rattle.overlays.specs.Overlays.{Overlay, Holds, Joined, cells, top, bottom, left, right, sender}
use Rattle.runs.specs.Laws.{CutRows, InCells, Inside, Once, hits, sender_at}
use Rattle.runs.specs.Runs.{Run, cell_runs, piece, pieces, row_runs, runs_of, span}
use Rattle.runs.proofs.Hitting.{cell_hit, cell_miss, span_one}
use Rattle.splits.specs.Blocks.{owner}

-- the runs of a cell that the sender may or may not have
chosen_hit : (b : Bool) (r c v : ℕ) (xs : List Run) → hits r c xs ≡ v → hits r c (cond b xs []) ≡ cond b v 0
chosen_hit true r c v xs e = e
chosen_hit false r c v xs e = refl

cond_zero : (b : Bool) → ◌≡◌ {A = ℕ} (cond b 0 0) 0
cond_zero true = refl
cond_zero false = refl

pub once : Once
once n rows columns o j m some i r c h g =
    let t = tiles n rows columns o j r c h g in
    let k = t.0 in
    let from : sender_at o r c ≡ sender o t.0 = ap (owner o.source) (same_source n rows columns o j t.0 r c t.1) in
    span_one r c (cells o) 0 t.0 (cond (eqb (sender o t.0) i) 1 0) (λ q. cond (eqb (sender o q) i) (cell_runs o m q) []) (omega arith)
    (let l = t.1.one in omega arith)
    (chosen_hit (eqb (sender o t.0) i) r c 1 (cell_runs o m t.0) (cell_hit o m t.0 r c some t.1))
    (λ q a b d.
    chosen_hit (eqb (sender o q) i) r c 0 (cell_runs o m q) (cell_miss o m q r c some (omega arith) (λ s. d (t.2 q s)))
    ∙ cond_zero (eqb (sender o q) i))
    ∙ ap (λ s. cond (eqb s i) 1 0) (sym from)

pub all_append : (P : Run → Type 0) (xs ys : List Run) → AllByRecursion P xs → AllByRecursion P ys → AllByRecursion P (xs ++ ys)
all_append P [] ys a b = b
all_append P (x ∷ xs) ys (p, a) b = (p, all_append P xs ys a b)

pub span_all : (P : Run → Type 0) (n a : ℕ) (f : ℕ → List Run) → ((j : ℕ) → a ≤ j → j < a + n → AllByRecursion P (f j)) → AllByRecursion P (span a n f)
span_all P zero a f each = tt
span_all P (suc n) a f each = all_append P (f a) (span (a + 1) n f) (each a (omega arith) (omega arith)) (span_all P n (a + 1) f (λ j l h. each j (omega arith) (omega arith)))

-- a piece of a row begins inside it
pub piece_inside : (w m p : ℕ) → 1 ≤ m → p < pieces w m → p * m < w
piece_inside w m p some h =
    let a : suc p * m ≤ w + (m - 1) = (le-div_iff_mul-le {k = m} {x = suc p} {y = w + (m - 1)} some).0 h in
    let e : suc p * m ≡ p * m + m = suc-mul p m in
    omega arith

module _ (n rows columns : ℕ) (o : Overlay) (j : Joined n rows columns o) (m : ℕ) (some : 1 ≤ m) (i : ℕ) where
  piece_holds : (k r p t : ℕ) → k < cells o → top o k ≤ r → r < bottom o k → t < min m (right o k - (left o k + p * m)) → Holds o k r (left o k + p * m + t)
  piece_holds k r p t one a b h = record { one = one; below_top = a; above_bottom = b; past_left = omega arith; before_right = omega arith }

  inside : (k r p : ℕ) → sender o k ≡ i → k < cells o → top o k ≤ r → r < bottom o k → p < pieces (right o k - left o k) m → Inside o m i (piece o m k r p)
  inside k r p sent one a b h =
      let s = piece_inside (right o k - left o k) m p some h in
      record {
        sent = sent;
        some = omega arith;
        most = omega arith;
        held = λ t g. piece_holds k r p t one a b g;
        lies = λ t g. in_blocks n rows columns o j k r (left o k + p * m + t) (piece_holds k r p t one a b g);
      }

  cell_inside : (k : ℕ) → sender o k ≡ i → k < cells o → AllByRecursion (Inside o m i) (cell_runs o m k)
  cell_inside k sent one =
      span_all (Inside o m i) (bottom o k - top o k) (top o k) (λ r. row_runs o m k r)
      (λ r a b. span_all (Inside o m i) (pieces (right o k - left o k) m) 0 (λ p. piece o m k r p ∷ []) (λ p l h. (inside k r p sent one a (omega arith) (omega arith), tt)))

  chosen_inside : (k : ℕ) → k < cells o → (b : Bool) → eqb (sender o k) i ≡ b → AllByRecursion (Inside o m i) (cond b (cell_runs o m k) [])
  chosen_inside k one true e = cell_inside k (eqb-true (sender o k) i e) one
  chosen_inside k one false e = tt

  runs_inside : AllByRecursion (Inside o m i) (runs_of o m i)
  runs_inside = span_all (Inside o m i) (cells o) 0 (λ k. cond (eqb (sender o k) i) (cell_runs o m k) []) (λ k l h. chosen_inside k (omega arith) (eqb (sender o k) i) refl)

pub in_cells : InCells
in_cells n rows columns o j m some i = runs_inside n rows columns o j m some i

pub cut_rows : CutRows
cut_rows o k r l h = (rw (l, h) refl, rw (l, h) refl)
