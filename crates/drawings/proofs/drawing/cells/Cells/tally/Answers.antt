use Rattle.std.proofs.Common.{◌≡◌, ◌+◌, ◌-◌, ◌*◌, length, get_or, set, refl, ap, ◌∙◌, arith}
use Rattle.std.proofs.lemmas.List.{length-set, get_or-replicate}
use Rattle.drawings.specs.Cells.{overlaid}
use Rattle.drawings.proofs.Drawings.{area_at, line_at, package_all, package_few, tall_at, wide_at}
use Rattle.drawings.proofs.drawing.cells.Cells.tally.Goals as goal
use Rattle.overlays.specs.Overlays.{area}
use Rattle.overlays.specs.Packages.{sum_below}
use Rattle.overlays.proofs.Packages.{slot, slotted, slot_more}

pub loop-i-init : goal.loop-i-init
loop-i-init c = (
  refl,
  λ p h.
      (let s = c.args.self.now in
      let z : 0 ≡ 0 * s.columns.now.spans = omega arith in
      get_or-replicate 256 p 0 0 h ∙ ap (λ x. sum_below x (slotted (overlaid s) p)) z),
)

pub overflow_sub-height : goal.overflow_sub-height
overflow_sub-height c =
    let s = c.args.self.now in
    let one = s.drawable.column_side.counted.0 in
    omega (arith, tall_at s.operation s.target.now s.source.now s.rows.now s.columns.now s.drawable c.loop-i.i 0 c.loop-i-test.true (omega (arith, one)))

pub overflow_sub-width : goal.overflow_sub-width
overflow_sub-width c =
    let s = c.args.self.now in
    omega (arith, wide_at s.operation s.target.now s.source.now s.rows.now s.columns.now s.drawable c.loop-i.i c.loop-j.j c.loop-i-test.true c.loop-j-test.true)

pub overflow_add-packages-in-loop-j : goal.overflow_add-packages-in-loop-j
overflow_add-packages-in-loop-j c =
    let s = c.args.self.now in
    let i = c.loop-i.i in
    let j = c.loop-j.j in
    let o = overlaid s in
    let k = i * s.columns.now.spans + j in
    let x = c.owners-sender.result in
    let h = c.owners-sender.ensures in
    let q : x.0 * 16 + x.1 ≡ slot o k = omega (arith, h.sender, h.role) in
    let e : get_or c.loop-j.packages (x.0 * 16 + x.1) 0 ≡ sum_below k (slotted o (slot o k)) =
    ap (λ n. get_or c.loop-j.packages n 0) q ∙ c.loop-j.invariant.1 (slot o k) (omega (arith, q, h.bound)) in
    omega (
      arith,
      e,
      area_at s.operation s.target.now s.source.now s.rows.now s.columns.now s.drawable i j c.loop-i-test.true c.loop-j-test.true,
      package_few s.operation s.target.now s.source.now s.rows.now s.columns.now s.drawable i j c.loop-i-test.true c.loop-j-test.true,
    )

pub loop-j-preserved : goal.loop-j-preserved
loop-j-preserved c =
    let s = c.args.self.now in
    let i = c.loop-i.i in
    let j = c.loop-j.j in
    let o = overlaid s in
    let k = i * s.columns.now.spans + j in
    let ts = c.loop-j.packages in
    let x = c.owners-sender.result in
    let h = c.owners-sender.ensures in
    let n : length ts ≡ 256 = c.loop-j.invariant.0 in
    let q : x.0 * 16 + x.1 ≡ slot o k = omega (arith, h.sender, h.role) in
    let size = ((line_at s.rows.now (i + 1)).at - (line_at s.rows.now i).at) * ((line_at s.columns.now (j + 1)).at - (line_at s.columns.now j).at) in
    let v = get_or ts (x.0 * 16 + x.1) 0 + size in
    let e : v ≡ get_or ts (slot o k) 0 + area o k =
    ap (λ y. get_or ts y 0 + size) q
    ∙ ap (λ y. get_or ts (slot o k) 0 + y) (area_at s.operation s.target.now s.source.now s.rows.now s.columns.now s.drawable i j c.loop-i-test.true c.loop-j-test.true) in
    let next : k + 1 ≡ i * s.columns.now.spans + (j + 1) = omega arith in (
      length-set ts (x.0 * 16 + x.1) v ∙ n,
      (λ p l.
          ap (λ y. get_or (set ts y v) p 0) q
          ∙ (slot_more o k ts v (omega (arith, q, h.bound, n)) e (λ r m. c.loop-j.invariant.1 r (omega (arith, n, m))) p (omega (arith, n, l))
          ∙ ap (λ y. sum_below y (slotted o p)) next)),
    )

pub returns-clause-items : goal.returns-clause-items
returns-clause-items c =
    let s = c.args.self.now in
    let e : c.loop-i.i ≡ s.rows.now.spans = omega arith in
    λ p h.
    c.loop-i.invariant.1 p h
    ∙ (ap (λ x. sum_below (x * s.columns.now.spans) (slotted (overlaid s) p)) e
    ∙ package_all s.operation s.target.now s.source.now s.rows.now s.columns.now s.drawable p)
