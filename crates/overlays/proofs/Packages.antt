-- The elements of packages, counted by cells, and all together.
use Rattle.std.proofs.Common.{◌≡◌, ℕ, suc, ◌+◌, ◌-◌, ◌*◌, ◌/◌, ◌%◌, ◌<◌, ◌≤◌, Bool, true, false, cond, ◌&&◌, eqb, List, length, get_or, set, sym, refl, ap, ◌∙◌, subst, inl, inr, mul_assoc, mul-zero, mul-one, add-one, arith}
use Rattle.std.proofs.lemmas.Nat.{div-mul-add, mod-mul-add, div-add-mod'}
use Rattle.std.proofs.lemmas.List.{get_or-set_same, get_or-set_other}
use Rattle.std.proofs.lemmas.Bool.{cases_eq, cond-true, cond-false, eq-eqb, ne_eqb, eqb-true, and_parts, and_from}
use Rattle.splits.specs.Splits.{Within}
use Rattle.splits.specs.Blocks.{Grid, cover, owner}
use Rattle.splits.proofs.Blocks.{covers}
use Rattle.overlays.specs.declared.operation.Operation.{Operation}
use Rattle.overlays.specs.Turns.{turned, source_cover}
use Rattle.overlays.specs.Overlays.{Overlay, Holds, Joined, down, across, cells, top, left, area, source_block, role, sender}
use Rattle.overlays.specs.Packages.{sum_below, counts, elements}
use Rattle.overlays.specs.Laws.{part, ByCells, AddsUp}
use Rattle.overlays.proofs.Cells.{row_lines, column_lines, row_at, column_at, cell_at, same_target, same_source, turned_below, role_below}
use Rattle.overlays.proofs.Rising.{span_of, same_bool}
use Rattle.overlays.proofs.Sums.{sum_same, sum_constant, sum_times, sum_swap, sum_rows, sum_point, sum_spans, sum_rises, sum_below_sum}

-- a function of an element that does not change within a cell is summed cell by cell
module _ (n rows columns : ℕ) (o : Overlay) (j : Joined n rows columns o) (f : ℕ → ℕ → ℕ) (same : (k r c : ℕ) → Holds o k r c → f r c ≡ f (top o k) (left o k)) where
  -- the value at a cell's first element
  corner : (a b r c : ℕ) → Within o.row_lines a r → Within o.column_lines b c → f r c ≡ f (get_or o.row_lines a 0) (get_or o.column_lines b 0)
  corner a b r c u v =
      same (a * across o + b) r c (cell_at n rows columns o j a b r c u v)
      ∙ (ap (λ x. f (get_or o.row_lines x 0) (left o (a * across o + b))) (row_at n rows columns o j a b v.one)
      ∙ ap (λ x. f (get_or o.row_lines a 0) (get_or o.column_lines x 0)) (column_at n rows columns o j a b v.one))

  -- the first row of a row of cells, and the first column of a column of cells
  first_row : (a : ℕ) → a < down o → Within o.row_lines a (get_or o.row_lines a 0)
  first_row a h = record { one = h; from = omega arith; to = (row_lines n rows columns o j).rises a (omega arith) }

  -- along one row of the target
  along : (a : ℕ) → a < down o
      → sum_below columns (λ c. f (get_or o.row_lines a 0) c)
      ≡ sum_below (across o) (λ b. (get_or o.column_lines (b + 1) 0 - get_or o.column_lines b 0) * f (get_or o.row_lines a 0) (get_or o.column_lines b 0))
  along a h =
      sum_spans columns o.column_lines (column_lines n rows columns o j) (λ c. f (get_or o.row_lines a 0) c)
      (λ b c w. corner a b (get_or o.row_lines a 0) c (first_row a h) w)

  -- all rows of a row of cells have the same sum
  level : (a r : ℕ) → Within o.row_lines a r → sum_below columns (λ c. f r c) ≡ sum_below columns (λ c. f (get_or o.row_lines a 0) c)
  level a r w =
      sum_same columns (λ c. f r c) (λ c. f (get_or o.row_lines a 0) c)
      (λ c h.
      (let s = span_of columns o.column_lines (column_lines n rows columns o j) c h in
      corner a s.0 r c w s.1 ∙ sym (corner a s.0 (get_or o.row_lines a 0) c (first_row a w.one) s.1)))

  in_row : (a : ℕ) → a < down o
      → (get_or o.row_lines (a + 1) 0 - get_or o.row_lines a 0) * sum_below columns (λ c. f (get_or o.row_lines a 0) c)
      ≡ sum_below (across o) (λ b. area o (a * across o + b) * f (top o (a * across o + b)) (left o (a * across o + b)))
  in_row a h =
      let t = get_or o.row_lines (a + 1) 0 - get_or o.row_lines a 0 in
      let g : ℕ → ℕ = λ b. (get_or o.column_lines (b + 1) 0 - get_or o.column_lines b 0) * f (get_or o.row_lines a 0) (get_or o.column_lines b 0) in
      ap (λ x. t * x) (along a h)
      ∙ (sum_times (across o) t g
      ∙ sum_same (across o) (λ b. t * g b) (λ b. area o (a * across o + b) * f (top o (a * across o + b)) (left o (a * across o + b)))
      (λ b l.
      (let F : ℕ → ℕ → ℕ = λ x y. (get_or o.row_lines (x + 1) 0 - get_or o.row_lines x 0) * (get_or o.column_lines (y + 1) 0 - get_or o.column_lines y 0) * f (get_or o.row_lines x 0) (get_or o.column_lines y 0) in
      sym (mul_assoc t (get_or o.column_lines (b + 1) 0 - get_or o.column_lines b 0) (f (get_or o.row_lines a 0) (get_or o.column_lines b 0)))
      ∙ (ap (λ x. F x b) (sym (row_at n rows columns o j a b l)) ∙ ap (λ y. F ((a * across o + b) / across o) y) (sym (column_at n rows columns o j a b l))))))

  pub sum_cells : sum_below rows (λ r. sum_below columns (λ c. f r c)) ≡ sum_below (cells o) (λ k. area o k * f (top o k) (left o k))
  sum_cells =
      sum_spans rows o.row_lines (row_lines n rows columns o j) (λ r. sum_below columns (λ c. f r c)) level
      ∙ (sum_same (down o) (λ a. (get_or o.row_lines (a + 1) 0 - get_or o.row_lines a 0) * sum_below columns (λ c. f (get_or o.row_lines a 0) c))
      (λ a. sum_below (across o) (λ b. area o (a * across o + b) * f (top o (a * across o + b)) (left o (a * across o + b)))) in_row
      ∙ sym (sum_rows (down o) (across o) (λ k. area o k * f (top o k) (left o k))))

all_or_none : (t : Bool) (a : ℕ) → a * cond t 1 0 ≡ cond t a 0
all_or_none true a = omega (arith, mul-one a)
all_or_none false a = mul-zero a

square : (m n : ℕ) → sum_below m (λ r. sum_below n (λ c. 1)) ≡ m * n
square m n = sum_constant m (λ r. sum_below n (λ c. 1)) n (λ r h. sum_constant n (λ c. 1) 1 (λ c k. refl) ∙ (omega (arith, mul-one n)))

pub by_cells : ByCells
by_cells n rows columns o j p q =
    let f : ℕ → ℕ → ℕ = counts o.operation o.target o.source p q in
    let same : (k r c : ℕ) → Holds o k r c → f r c ≡ f (top o k) (left o k) =
    λ k r c h.
    (ap (λ x. cond (eqb (owner o.source x) p && eqb (owner o.target (cover o.target r c)) q) 1 0) (same_source n rows columns o j k r c h)
    ∙ ap (λ x. cond (eqb (owner o.source (source_block o k)) p && eqb (owner o.target x) q) 1 0) (same_target n rows columns o j k r c h)) in
    sum_cells n rows columns o j f same
    ∙ sum_same (cells o) (λ k. area o k * f (top o k) (left o k)) (part o p q) (λ k h. all_or_none (eqb (sender o k) p && eqb (role o k) q) (area o k))

-- all cells together have the matrix's elements
pub areas : (n rows columns : ℕ) (o : Overlay) → Joined n rows columns o → sum_below (cells o) (λ k. area o k) ≡ rows * columns
areas n rows columns o j =
    sym (sum_cells n rows columns o j (λ r c. 1) (λ k r c h. refl)
    ∙ sum_same (cells o) (λ k. area o k * 1) (λ k. area o k) (λ k h. omega (arith, mul-one (area o k))))
    ∙ square rows columns

-- a sum in front of the sums over rows and columns goes behind them
inwards : (n rows columns : ℕ) (g : ℕ → ℕ → ℕ → ℕ)
    → sum_below n (λ i. sum_below rows (λ r. sum_below columns (λ c. g i r c))) ≡ sum_below rows (λ r. sum_below columns (λ c. sum_below n (λ i. g i r c)))
inwards n rows columns g =
    sum_swap n rows (λ i r. sum_below columns (λ c. g i r c))
    ∙ sum_same rows (λ r. sum_below n (λ i. sum_below columns (λ c. g i r c))) (λ r. sum_below columns (λ c. sum_below n (λ i. g i r c))) (λ r h. sum_swap n columns (λ i c. g i r c))

outer : (t : Bool) (n : ℕ) (u : ℕ → Bool) → sum_below n (λ i. cond (u i) 1 0) ≡ 1 → sum_below n (λ i. cond (t && u i) 1 0) ≡ cond t 1 0
outer true n u e = e
outer false n u e = sum_constant n (λ i. 0) 0 (λ i h. refl) ∙ mul-zero n

-- each element is in the package of its own sender and role alone
one_package : (n x y : ℕ) → x < n → y < n → sum_below n (λ i. sum_below n (λ j. cond (eqb x i && eqb y j) 1 0)) ≡ 1
one_package n x y h k =
    sum_same n (λ i. sum_below n (λ j. cond (eqb x i && eqb y j) 1 0)) (λ i. cond (eqb x i) 1 0) (λ i l. outer (eqb x i) n (λ j. eqb y j) (sum_point n y 1 k)) ∙ sum_point n x 1 h

pub adds_up : AddsUp
adds_up n rows columns o j =
    let g : ℕ → ℕ → ℕ → ℕ → ℕ = λ p q r c. counts o.operation o.target o.source p q r c in
    let owners : (r c : ℕ) → r < rows → c < columns → sum_below n (λ p. sum_below n (λ q. g p q r c)) ≡ 1 =
    λ r c h k.
    one_package n (owner o.source (source_cover o.operation o.source r c)) (owner o.target (cover o.target r c))
    (j.source.owned.below (source_cover o.operation o.source r c)
    (covers n (turned o.operation rows columns) (turned o.operation columns rows) o.source j.source (turned o.operation r c) (turned o.operation c r)
    (turned_below o.operation r c rows columns h k) (turned_below o.operation c r columns rows k h)).one)
    (j.target.owned.below (cover o.target r c) (covers n rows columns o.target j.target r c h k).one) in
    sum_same n (λ p. sum_below n (λ q. sum_below rows (λ r. sum_below columns (λ c. g p q r c)))) (λ p. sum_below rows (λ r. sum_below columns (λ c. sum_below n (λ q. g p q r c))))
    (λ p h. inwards n rows columns (λ q r c. g p q r c))
    ∙ (inwards n rows columns (λ p r c. sum_below n (λ q. g p q r c))
    ∙ (sum_same rows (λ r. sum_below columns (λ c. sum_below n (λ p. sum_below n (λ q. g p q r c)))) (λ r. sum_below columns (λ c. 1))
    (λ r h. sum_same columns (λ c. sum_below n (λ p. sum_below n (λ q. g p q r c))) (λ c. 1) (λ c k. owners r c h k))
    ∙ square rows columns))

-- a table with an entry for each sender and role, sixteen to a sender
abbrev pub slot : Overlay → ℕ → ℕ
slot o k = sender o k * 16 + role o k

abbrev pub slotted : Overlay → ℕ → ℕ → ℕ
slotted o p k = cond (eqb (slot o k) p) (area o k) 0

part_of_area : (t : Bool) (a : ℕ) → cond t a 0 ≤ a
part_of_area true a = omega arith
part_of_area false a = omega arith

-- what an entry has with one more cell is not above the matrix's elements
pub slot_few : (n rows columns : ℕ) (o : Overlay) → Joined n rows columns o → (k : ℕ) → k < cells o → sum_below k (slotted o (slot o k)) + area o k ≤ rows * columns
slot_few n rows columns o j k h =
    let f : ℕ → ℕ = λ m. area o m in
    let x : sum_below k (slotted o (slot o k)) ≤ sum_below k f = sum_below_sum k (slotted o (slot o k)) f (λ m l. part_of_area (eqb (slot o m) (slot o k)) (area o m)) in
    let y : sum_below (suc k) f ≤ sum_below (cells o) f = sum_rises f (suc k) (cells o) (omega arith) in
    omega (arith, x, y, areas n rows columns o j)

pub slot_more : (o : Overlay) (k : ℕ) (ts : List ℕ) (v : ℕ) → slot o k < length ts → v ≡ get_or ts (slot o k) 0 + area o k
    → ((p : ℕ) → p < length ts → get_or ts p 0 ≡ sum_below k (slotted o p))
    → (p : ℕ) → p < length ts → get_or (set ts (slot o k) v) p 0 ≡ sum_below (k + 1) (slotted o p)
slot_more o k ts v l e all p h =
    let s : sum_below (k + 1) (slotted o p) ≡ sum_below k (slotted o p) + slotted o p k = ap (λ x. sum_below x (slotted o p)) (add-one k) in
    elim (cases_eq p (slot o k)) [
      | inl same ↦
          (let x : get_or (set ts (slot o k) v) p 0 ≡ v = subst (λ z. get_or (set ts (slot o k) v) z 0 ≡ v) (sym same) (get_or-set_same ts (slot o k) v 0 l) in
          let y : slotted o p k ≡ area o k = cond-true (eqb (slot o k) p) (area o k) 0 (eq-eqb (slot o k) p (sym same)) in
          let z : get_or ts (slot o k) 0 ≡ sum_below k (slotted o p) = ap (λ q. get_or ts q 0) (sym same) ∙ all p h in
          omega (arith, x, y, z, s, e))
      | inr other ↦
          (let y : slotted o p k ≡ 0 = cond-false (eqb (slot o k) p) (area o k) 0 (ne_eqb (slot o k) p (λ q. other (sym q))) in
          let x = get_or-set_other ts (slot o k) p v 0 other in
          omega (arith, x, y, all p h, s))
    ]

-- with all cells, each entry is a package
pub slot_all : (n rows columns : ℕ) (o : Overlay) → Joined n rows columns o → n ≤ 16 → (p : ℕ)
    → sum_below (cells o) (slotted o p) ≡ elements o.operation o.target o.source rows columns (p / 16) (p % 16)
slot_all n rows columns o j few p =
    sum_same (cells o) (slotted o p) (part o (p / 16) (p % 16))
    (λ k h.
    (let r : role o k < 16 = omega (arith, role_below n rows columns o j k h, few) in
    ap (λ t. cond t (area o k) 0)
    (same_bool (eqb (slot o k) p) (eqb (sender o k) (p / 16) && eqb (role o k) (p % 16))
    (λ t.
    (let e : slot o k ≡ p = eqb-true (slot o k) p t in
    and_from (eqb (sender o k) (p / 16)) (eqb (role o k) (p % 16))
    (eq-eqb (sender o k) (p / 16) (sym (div-mul-add (sender o k) 16 (role o k) r) ∙ ap (λ x. x / 16) e))
    (eq-eqb (role o k) (p % 16) (sym (mod-mul-add (sender o k) 16 (role o k) r) ∙ ap (λ x. x % 16) e))))
    (λ t.
    (let q = and_parts (eqb (sender o k) (p / 16)) (eqb (role o k) (p % 16)) t in
    let x : sender o k ≡ p / 16 = eqb-true (sender o k) (p / 16) q.0 in
    let y : role o k ≡ p % 16 = eqb-true (role o k) (p % 16) q.1 in
    eq-eqb (slot o k) p (ap (λ z. z * 16 + role o k) x ∙ (ap (λ z. p / 16 * 16 + z) y ∙ div-add-mod' p 16)))))))
    ∙ sym (by_cells n rows columns o j (p / 16) (p % 16))

pub elements_few : (op : Operation) (a b : Grid) (rows columns i j : ℕ) → elements op a b rows columns i j ≤ rows * columns
elements_few op a b rows columns i j =
    let one : (r c : ℕ) → counts op a b i j r c ≤ 1 = λ r c. part_of_area (eqb (owner b (source_cover op b r c)) i && eqb (owner a (cover a r c)) j) 1 in
    omega (
      arith,
      sum_below_sum rows (λ r. sum_below columns (λ c. counts op a b i j r c)) (λ r. sum_below columns (λ c. 1))
          (λ r h. sum_below_sum columns (λ c. counts op a b i j r c) (λ c. 1) (λ c k. one r c)),
      square rows columns,
    )
