-- Tables that are filled by index.
use Rattle.std.proofs.Common.{◌≡◌, ℕ, ◌+◌, ◌<◌, cond, eqb, List, length, get_or, set, replicate, sym, ap, ◌∙◌, subst, inl, inr, add-one, arith}
use Rattle.std.proofs.lemmas.List.{get_or-set_same, get_or-set_other, get_or-replicate, get_or_past, length-replicate}
use Rattle.std.proofs.lemmas.Bool.{cases_eq, cases_lt, cond-true, cond-false, eq-eqb, ne_eqb}
use Rattle.splits.specs.Blocks.{Grid, owner}
use Rattle.splits.specs.Places.{room, held}

pub zeros : (n k : ℕ) → ◌≡◌ {A = ℕ} (get_or {A = ℕ} (replicate n 0) k 0) 0
zeros n k =
    elim (cases_lt k n) [
      | inl l ↦ get_or-replicate n k 0 0 l
      | inr m ↦ get_or_past (replicate n 0) k 0 (omega (arith, length-replicate {A = ℕ} n 0))
    ]

-- one more entry of a table that is filled by index
pub entry_more : (f : ℕ → ℕ) (xs : List ℕ) (b v : ℕ) → b < length xs → v ≡ f b → ((k : ℕ) → k < b → get_or xs k 0 ≡ f k)
    → (k : ℕ) → k < b + 1 → get_or (set xs b v) k 0 ≡ f k
entry_more f xs b v l e below k h =
    elim (cases_eq k b) [
      | inl same ↦ (subst (λ z. get_or (set xs b v) z 0 ≡ f z) (sym same) (get_or-set_same xs b v 0 l ∙ e))
      | inr other ↦ get_or-set_other xs b k v 0 other ∙ below k (omega arith)
    ]

-- one more block in the tallies of the owners
pub tally_more : (g : Grid) (b : ℕ) (ts : List ℕ) (v : ℕ) → owner g b < length ts → v ≡ get_or ts (owner g b) 0 + room g b
    → ((p : ℕ) → p < length ts → get_or ts p 0 ≡ held g p b)
    → (p : ℕ) → p < length ts → get_or (set ts (owner g b) v) p 0 ≡ held g p (b + 1)
tally_more g b ts v l e all p h =
    let s : held g p (b + 1) ≡ held g p b + cond (eqb (owner g b) p) (room g b) 0 = ap (held g p) (add-one b) in
    elim (cases_eq p (owner g b)) [
      | inl same ↦
          (let x : get_or (set ts (owner g b) v) p 0 ≡ v = subst (λ z. get_or (set ts (owner g b) v) z 0 ≡ v) (sym same) (get_or-set_same ts (owner g b) v 0 l) in
          let y : cond (eqb (owner g b) p) (room g b) 0 ≡ room g b = cond-true (eqb (owner g b) p) (room g b) 0 (eq-eqb (owner g b) p (sym same)) in
          let z : get_or ts (owner g b) 0 ≡ held g p b = subst (λ q. get_or ts (owner g b) 0 ≡ held g q b) (sym same) (all (owner g b) l) in
          omega (arith, x, y, z, s, e))
      | inr other ↦
          (let y : cond (eqb (owner g b) p) (room g b) 0 ≡ 0 = cond-false (eqb (owner g b) p) (room g b) 0 (ne_eqb (owner g b) p (λ q. other (sym q))) in
          let x = get_or-set_other ts (owner g b) p v 0 other in
          omega (arith, x, y, all p h, s))
    ]
