-- Lists of a set length whose entries have a highest value each. Assumes nothing.
--     bounded len limit      the rule of the lists of len entries, entry k being at most limit k
--     limits head high low   the highest value `high` at the first `head` indices, and `low` at the others
--     list_refusal may xs    why a list under the rule is refused, if there is a cause
--     BoundedLists          every such rule completes, so that its first wrong index is where a list is wrong
use Rattle.std.specs.Prelude.{◌≡◌, ℕ, cond, ◌&&◌, List, Some, None, Option, ◌==◌, nat_le, nat_lt}
use Rattle.std.specs.Option.{option_map}
use Rattle.faults.specs.Lists.{Rule, first_wrong, WrongAt, Completes}
use Rattle.faults.specs.declared.cause.Cause.{Cause}
use Rattle.faults.specs.declared.cause.Cause.TheVariants.{Beyond}

abbrev pub bounded : ℕ → (ℕ → ℕ) → Rule
bounded len limit k before None = k == len
bounded len limit k before (Some x) = nat_lt k len && nat_le x (limit k)

abbrev pub limits : ℕ → ℕ → ℕ → ℕ → ℕ
limits head high low k = cond (nat_lt k head) high low

abbrev pub list_refusal : Rule → List ℕ → Option Cause
list_refusal may xs = option_map Beyond (first_wrong may xs)

abbrev pub BoundedLists : Type 0
BoundedLists =
    (len : ℕ) (limit : ℕ → ℕ)
    → Completes (bounded len limit)
    × ((xs : List ℕ) (i : ℕ) → first_wrong (bounded len limit) xs ≡ Some i → WrongAt (bounded len limit) xs i)
