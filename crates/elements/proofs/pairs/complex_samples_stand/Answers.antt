use Rattle.std.proofs.Common.{refl}
use Rattle.elements.specs.Equal.{pair_is}
use Rattle.elements.specs.Pairs.{pair, negative, pair_product, pair_conjugate}
use Rattle.elements.proofs.pairs.complex_samples_stand.Goals as goal

pub returns : goal.returns
returns c =
    record {
      samples = (pair_is (pair_product (pair 1 2) (pair 3 (negative 1))) 5 5 refl refl, pair_is (pair_conjugate (pair 3 5)) 3 4294967291 refl refl);
      value = refl;
    }
