-- The names of a layout's parts. Assumes nothing.
--     part_name p       the name of the part p
--     NamesPart w r     r is an Ok of the part whose name is w, and an Err where w is no part's name
use Rattle.std.specs.Prelude.{◌≡◌, ℕ, List, Result, MatchResult, codes}
use Rattle.jobs.specs.declared.item.Part.{Part}
use Rattle.jobs.specs.declared.item.Part.TheVariants.{Size, Rows, Columns, Owners, Order, Share}

abbrev pub part_name : Part → List ℕ
part_name Size = codes "size"
part_name Rows = codes "rows"
part_name Columns = codes "columns"
part_name Owners = codes "owners"
part_name Order = codes "order"
part_name Share = codes "share"

abbrev pub NamesPart : {E : Type 0} → List ℕ → Result Part E → Type 0
NamesPart w r = MatchResult r (λ p. w ≡ part_name p) (λ _. (p : Part) → w ≡ part_name p → ⊥)
