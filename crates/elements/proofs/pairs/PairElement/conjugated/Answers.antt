use Rattle.std.proofs.Common.{arith}
use Rattle.elements.specs.Equal.{pair_is}
use Rattle.elements.specs.Pairs.{negative}
use Rattle.elements.proofs.pairs.PairElement.conjugated.Goals as goal

pub returns : goal.returns
returns c =
    let a = c.args.self in
    record { value = pair_is _ a.real.value (negative a.imaginary.value) (omega (arith, a.real.fits)) (omega (arith, a.imaginary.fits, c.wrapping_neg.ensures)) }
