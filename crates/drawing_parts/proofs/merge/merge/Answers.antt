use Rattle.std.proofs.Common.{◌≡◌, ℕ, ◌+◌, ◌-◌, ◌<◌, ◌≤◌, cond, eqb, length, map, get_or, set, take, refl, sym, ap, ◌∙◌, subst, arith}
use Rattle.std.proofs.lemmas.List.{length-map, length-set, length-take-le, get_or-take, map-set}
use Rattle.overlays.proofs.Merging.{Merged, side_begins, side_goes_on, merge_begins, target_more, source_more, lines_more, merge_all, blocks_all}
use Rattle.drawing_parts.proofs.Making.{cond_more, side_as}
use Rattle.drawing_parts.proofs.merge.merge.Goals as goal

pub loop-line-init : goal.loop-line-init
loop-line-init c =
    let xs = c.args.target.now in
    let ys = c.args.source.now in (
      side_begins c.args.size xs c.requires.target_cuts _ _ refl refl,
      side_begins c.args.size ys c.requires.source_cuts _ _ refl refl,
      merge_begins xs ys _ refl c.requires.target_cuts.first (omega (arith, c.requires.target_cuts.long)),
      omega arith,
      refl,
    )

pub loop-line-preserved : goal.loop-line-preserved
loop-line-preserved c =
    let l = c.loop-line in
    let size = c.args.size in
    let xs = c.args.target.now in
    let ys = c.args.source.now in
    let tc = c.requires.target_cuts in
    let sc = c.requires.source_cuts in
    let zs = map (λ x. x.at) l.lines in
    let ss = map (λ x. x.target) l.lines in
    let ts = map (λ x. x.source) l.lines in
    let i = l.line.target + 1 in
    let j = l.line.source + 1 in
    let n = l.spans + 1 in
    let v = l.line.at in
    let r = c.next-line.result in
    let e = c.next-line.ensures in
    let u = r.target + 1 in
    let w = r.source + 1 in
    let a = l.invariant.0 in
    let b = l.invariant.1 in
    let m = l.invariant.2 in
    let tu : r.target ≡ u - 1 = omega arith in
    let tw : r.source ≡ w - 1 = omega arith in
    let eu : u ≡ cond (eqb (get_or xs i 0) r.at) (i + 1) i = ap (λ k. k + 1) e.target ∙ cond_more (eqb (get_or xs i 0) r.at) l.line.target in
    let ew : w ≡ cond (eqb (get_or ys j 0) r.at) (j + 1) j = ap (λ k. k + 1) e.source ∙ cond_more (eqb (get_or ys j 0) r.at) l.line.source in
    let hx : i < length xs = side_goes_on size xs tc i n v _ _ a c.loop-line-test.true in
    let hy : j < length ys = side_goes_on size ys sc j n v _ _ b c.loop-line-test.true in
    let few : n < 64 = omega (arith, m.few, hx, hy, tc.short, sc.short) in
    let lz : n < length zs = omega (arith, few, l.invariant.4, length-map l.lines (λ x. x.at)) in
    let ls : n < length ss = omega (arith, few, l.invariant.4, length-map l.lines (λ x. x.target)) in
    let lt : n < length ts = omega (arith, few, l.invariant.4, length-map l.lines (λ x. x.source)) in
    let ez : map (λ x. x.at) (set l.lines n r) ≡ set zs n r.at = map-set (λ x. x.at) l.lines n r in
    let es : map (λ x. x.target) (set l.lines n r) ≡ set ss n (u - 1) = map-set (λ x. x.target) l.lines n r ∙ ap (λ k. set ss n k) tu in
    let et : map (λ x. x.source) (set l.lines n r) ≡ set ts n (w - 1) = map-set (λ x. x.source) l.lines n r ∙ ap (λ k. set ts n k) tw in (
      side_as xs u (n + 1) r.at _ _ _ _ ez es (target_more size xs ys tc sc i j n v r.at u w zs ss ts a b m hx hy e.at eu ew lz ls lt),
      side_as ys w (n + 1) r.at _ _ _ _ ez et (source_more size xs ys tc sc i j n v r.at u w zs ss ts a b m hx hy e.at eu ew lz ls lt),
      subst (λ us. Merged xs ys u w (n + 1) r.at (λ k. get_or us k 0)) (sym ez) (lines_more size xs ys tc sc i j n v r.at u w zs ss ts a b m hx hy e.at eu ew lz ls lt),
      omega (arith, few),
      length-set l.lines n r ∙ l.invariant.4,
    )

pub returns : goal.returns
returns c =
    let l = c.loop-line in
    let size = c.args.size in
    let xs = c.args.target.now in
    let ys = c.args.source.now in
    let tc = c.requires.target_cuts in
    let sc = c.requires.source_cuts in
    let zs = map (λ x. x.at) l.lines in
    let i = l.line.target + 1 in
    let j = l.line.source + 1 in
    let n = l.spans + 1 in
    let v = l.line.at in
    let z : ℕ → ℕ = λ k. get_or zs k 0 in
    let s : ℕ → ℕ = λ k. get_or (map (λ x. x.target) l.lines) k 0 in
    let t : ℕ → ℕ = λ k. get_or (map (λ x. x.source) l.lines) k 0 in
    let a = l.invariant.0 in
    let b = l.invariant.1 in
    let m = l.invariant.2 in
    let stop : size ≤ v = omega (arith, c.loop-line-test.false) in
    let used = take n zs in
    let len : length used ≡ n = length-take-le n zs (omega (arith, l.invariant.3, l.invariant.4, length-map l.lines (λ x. x.at))) in
    let held : (k : ℕ) → k < n → get_or used k 0 ≡ get_or zs k 0 = λ k h. get_or-take n zs k 0 h in
    let all = merge_all size xs ys used tc sc i j n v z s t a b m stop len held in
    record {
      counted = (omega (arith, all.lines.long, len), l.invariant.3, l.invariant.4);
      union = all;
      target = λ k h. blocks_all size xs ys used tc sc i j n v z s t a b m stop len held xs i s tc a k (omega (arith, h));
      source = λ k h. blocks_all size xs ys used tc sc i j n v z s t a b m stop len held ys j t sc b k (omega (arith, h));
    }
