use Rattle.std.proofs.Common.{◌≡◌, ◌+◌, ◌*◌, ◌≤◌, ap, ◌∙◌, mul-le-mul, arith}
use Rattle.layouts.specs.Layouts.{owner_of, cover_of, place_of}
use Rattle.layouts.proofs.Spots.{owner_few, offset_few, is_place}
use Rattle.layouts.proofs.layout.Layout.place.Goals as goal

pub overflow_mul-result : goal.overflow_mul-result
overflow_mul-result c =
    let l = c.args.self.now in
    let h = c.in_ok-spot.ensures.cases in
    let p : c.in_ok-spot.spot.owner ≤ 15 = omega (arith, h.1.owner, owner_few l c.args.row c.args.column h.0) in
    let s : c.args.share ≤ 4294967295 = omega arith in
    omega (arith, mul-le-mul p s)

pub overflow_add-result : goal.overflow_add-result
overflow_add-result c =
    let l = c.args.self.now in
    let h = c.in_ok-spot.ensures.cases in
    let p : c.in_ok-spot.spot.owner ≤ 15 = omega (arith, h.1.owner, owner_few l c.args.row c.args.column h.0) in
    let s : c.args.share ≤ 4294967295 = omega arith in
    omega (arith, mul-le-mul p s, h.1.offset, offset_few l c.args.row c.args.column h.0)

pub returns : goal.returns
returns c =
    let l = c.args.self.now in
    let h = c.in_ok-spot.ensures.cases in
    let s = c.in_ok-spot.spot in
    let e : s.owner * c.args.share + s.offset ≡ place_of l c.args.share (λ p. p) c.args.row c.args.column =
    ap (λ x. x * c.args.share + s.offset) h.1.owner ∙ ap (λ x. owner_of l (cover_of l c.args.row c.args.column) * c.args.share + x) h.1.offset in
    record { cases = (h.0, is_place l c.args.share c.args.row c.args.column _ h.0 e) }
