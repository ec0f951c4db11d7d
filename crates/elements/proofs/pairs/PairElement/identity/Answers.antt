use Rattle.std.proofs.Common.{refl}
use Rattle.elements.specs.Equal.{pair_is}
use Rattle.elements.proofs.pairs.PairElement.identity.Goals as goal

pub returns : goal.returns
returns c = record { value = pair_is _ 1 0 refl refl }
