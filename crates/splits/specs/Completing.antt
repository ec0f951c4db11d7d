-- What the rules of splits and of owners let stand can be followed to the end of a legal list. Assumes nothing.
use Rattle.std.specs.Prelude.{◌≡◌, ℕ, zero, suc, ◌+◌, ◌-◌, ◌<◌, ◌≤◌, true, ◌&&◌, ◌||◌, List, [], ◌∷◌, Some, None, Option, refl}
use Rattle.std.proofs.Common.{eqb, leb, ltb, inl, inr, arith}
use Rattle.std.proofs.lemmas.Bool.{cases_eq, cases_lt, and_parts, and_from, or_left, or_right, eqb-true, eq-eqb, leb-true, le-leb, ltb-true, lt-ltb, le-ltb}
use Rattle.splits.specs.Owners.{owner_rule}
use Rattle.splits.specs.Splits.{split_rule}
use Rattle.wrong_lists.specs.Lists.{wrong_from, Completes}

-- a number that may stand does not pass the size, and is the size where no more may follow
within_size : (size k : ℕ) (before : Option ℕ) (x : ℕ) → split_rule size k before (Some x) ≡ true → (x ≤ size) × (x < size → k < 32)
within_size size k None x t =
    let p = and_parts (eqb k 0) (eqb x 0) t in
    let q = eqb-true k 0 p.0 in
    (omega (arith, eqb-true x 0 p.1), λ _. omega (arith, q))
within_size size k (Some b) x t =
    let p = and_parts (ltb b x) (leb x size && (ltb k 32 || (eqb k 32 && eqb x size))) t in
    let q = and_parts (leb x size) (ltb k 32 || (eqb k 32 && eqb x size)) p.1 in (
      leb-true x size q.0,
      λ l. (elim (cases_lt k 32) [
        | inl h ↦ h
        | inr h ↦
            (let r = rw (le-ltb k 32 h) at q.1 in
            let e = and_parts (eqb k 32) (eqb x size) r in
            absurd (omega (arith, eqb-true x size e.1)))
      ]),
    )

may_end : (size k b : ℕ) → k < 32 → b < size → split_rule size (k + 1) (Some b) (Some size) ≡ true
may_end size k b l s =
    and_from (ltb b size) (leb size size && (ltb (k + 1) 32 || (eqb (k + 1) 32 && eqb size size))) (lt-ltb b size s)
    (and_from (leb size size) (ltb (k + 1) 32 || (eqb (k + 1) 32 && eqb size size)) (le-leb size size (omega arith))
    (elim (cases_eq (k + 1) 32) [
      | inl e ↦ or_right (ltb (k + 1) 32) (eqb (k + 1) 32 && eqb size size) (and_from (eqb (k + 1) 32) (eqb size size) (eq-eqb (k + 1) 32 e) (eq-eqb size size refl))
      | inr n ↦ or_left (ltb (k + 1) 32) (eqb (k + 1) 32 && eqb size size) (lt-ltb (k + 1) 32 (omega arith))
    ]))

pub split_completes : (size : ℕ) → Completes (split_rule size)
split_completes size k before x t =
    let w = within_size size k before x t in
    elim (cases_eq x size) [
      | inl e ↦ ([], rw (eq-eqb x size e) refl)
      | inr n ↦
          (let l : x < size = omega (arith, w.0) in
          (size ∷ [], rw (may_end size k x (w.1 l) l, eq-eqb size size refl) refl))
    ]

-- d more blocks can have the owner of the one before
filled : (blocks boards x : ℕ) → x < boards → (d k : ℕ) → k + d ≡ blocks → (ys : List ℕ) × (wrong_from (owner_rule blocks boards) k (Some x) ys ≡ None)
filled blocks boards x l zero k e = ([], rw (eq-eqb k blocks (omega arith)) refl)
filled blocks boards x l (suc d) k e =
    let r = filled blocks boards x l d (k + 1) (omega arith) in
    let t : owner_rule blocks boards k (Some x) (Some x) ≡ true = and_from (ltb k blocks) (ltb x boards) (lt-ltb k blocks (omega arith)) (lt-ltb x boards l) in
    (x ∷ r.0, rw t r.1)

pub owner_completes : (blocks boards : ℕ) → Completes (owner_rule blocks boards)
owner_completes blocks boards k before x t =
    let p = and_parts (ltb k blocks) (ltb x boards) t in
    let h = ltb-true k blocks p.0 in
    filled blocks boards x (ltb-true x boards p.1) (blocks - (k + 1)) (k + 1) (omega arith)
