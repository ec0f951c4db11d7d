use Rattle.std.proofs.Common.{◌≤◌, arith}
use Rattle.drawings.proofs.Drawings.{bytes_few}
use Rattle.drawings.proofs.drawing.Drawing.package_bytes.Goals as goal

pub overflow_mul-result : goal.overflow_mul-result
overflow_mul-result c =
    let words : c.args.words ≤ 255 = omega arith in
    omega (arith, bytes_few c.args.self.now c.args.sender c.args.role _ c.args.words c.in_ok-package_elements.ensures.cases.1 words)

pub overflow_mul-result-2 : goal.overflow_mul-result-2
overflow_mul-result-2 c =
    let words : c.args.words ≤ 255 = omega arith in
    omega (arith, bytes_few c.args.self.now c.args.sender c.args.role _ c.args.words c.in_ok-package_elements.ensures.cases.1 words)
