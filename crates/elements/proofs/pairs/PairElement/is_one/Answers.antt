use Rattle.std.proofs.Common.{◌&&◌, eqb, sym, ap, ◌∙◌}
use Rattle.std.proofs.lemmas.Bool.{and_parts, eqb-true}
use Rattle.elements.specs.Equal.{pair_equal}
use Rattle.elements.specs.Pairs.{pair_one}
use Rattle.elements.proofs.pairs.PairElement.is_one.Goals as goal

pub returns : goal.returns
returns c =
    let a = c.args.self in
    record {
      value = (
        λ e. (let p = and_parts (eqb a.real.value 1) (eqb a.imaginary.value 0) (sym c.eq.ensures ∙ e) in
            pair_equal a pair_one (eqb-true a.real.value 1 p.0) (eqb-true a.imaginary.value 0 p.1)),
        λ e. c.eq.ensures ∙ ap (λ b. eqb b.real.value 1 && eqb b.imaginary.value 0) e,
      );
    }
