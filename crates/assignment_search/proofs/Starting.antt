-- Where the search starts: nobody has a board, and all prices are 0.
use Rattle.std.proofs.Common.{◌≡◌, ℕ, ◌<◌, List, Option, None, replicate, slice_index_or, unwrap_or, ap, ◌∙◌, arith}
use Rattle.std.proofs.lemmas.List.{get_or-replicate}
use Rattle.assignment_costs.specs.declared.costs.Costs.{Costs}
use Rattle.assignment_costs.proofs.Zeros.{getD_zeros}
use Rattle.assignment_search.specs.declared.tree.Matching.{Matching}
use Rattle.assignment_search.specs.declared.tree.Prices.{Prices}
use Rattle.assignment_search.specs.Search.{mate}
use Rattle.assignment_search.specs.Trees.{Matched, Fair}

abbrev pub nothing : Prices
nothing = record { roles = replicate 16 0; discounts = replicate 16 0 }

none : (xs : List (Option ℕ)) → xs ≡ replicate 16 None → (k : ℕ) → k < 16 → mate xs k ≡ 16
none xs e k l = ap (λ v. unwrap_or v 16) (ap (λ v. slice_index_or v k None) e ∙ get_or-replicate 16 k None None l)

module _ (c : Costs) (m : Matching) (owner : m.owner ≡ replicate 16 None) (naming : m.naming ≡ replicate 16 None) where
  pub matched_first : Matched c.boards 0 m 16
  matched_first =
      record {
        named = λ x l. absurd (omega arith);
        unnamed = λ x l b. none m.naming naming x (omega (arith, c.most));
        back = λ x l b. absurd (omega (arith, b, c.most, none m.naming naming x (omega (arith, c.most))));
        forth = λ y l d h. absurd (omega (arith, h, none m.owner owner y (omega (arith, c.most))));
      }

  pub fair_first : Fair c nothing m
  fair_first =
      record {
        feasible = λ x y l b. omega (arith, getD_zeros 16 x);
        free = λ y l h. getD_zeros 16 y;
        low_roles = λ x l. omega (arith, getD_zeros 16 x);
        low_boards = λ y l. omega (arith, getD_zeros 16 y);
      }
