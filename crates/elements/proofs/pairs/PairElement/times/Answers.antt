use Rattle.std.proofs.Common.{◌+◌, ◌*◌, arith}
use Rattle.elements.specs.Equal.{pair_is}
use Rattle.elements.specs.Pairs.{negative}
use Rattle.elements.proofs.pairs.PairElement.times.Goals as goal

pub returns : goal.returns
returns c =
    let a = c.args.self in
    let b = c.args.other in
    record {
      value =
          pair_is _ (a.real.value * b.real.value + negative (a.imaginary.value * b.imaginary.value))
          (a.real.value * b.imaginary.value + a.imaginary.value * b.real.value)
          (omega arith)
          (omega arith);
    }
