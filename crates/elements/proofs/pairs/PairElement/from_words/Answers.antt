use Rattle.std.proofs.Common.{get_or, take, sym, lit<}
use Rattle.std.proofs.lemmas.List.{get_or-take}
use Rattle.elements.specs.Equal.{pair_read}
use Rattle.elements.proofs.pairs.PairElement.from_words.Goals as goal

pub returns : goal.returns
returns c =
    let ws = c.args.from in
    record {
      value = pair_read _ (get_or (take 2 ws) 0 0) (get_or (take 2 ws) 1 0) (sym (get_or-take 2 ws 0 0 (lit< tt))) (sym (get_or-take 2 ws 1 0 (lit< tt)));
    }
