-- The numbers of the worked example, by computing them.
use Rattle.std.proofs.Common.{◌≡◌, ℕ, zero, suc, ◌-◌, ◌<◌, false, cond, ◌&&◌, eqb, ltb, leb, [], ◌∷◌, pos, Some, None, Option, refl, ap, ◌∙◌, arith}
use Rattle.std.specs.Option.{option_map}
use Rattle.assignment_laws.proofs.Same.{wrong_same}
use Rattle.assignment_laws.proofs.Totals.{total_same}
use Rattle.assignment_laws.specs.Judging.{Proposal, wrong_role}
use Rattle.assignment_laws.specs.Namings.{total}
use Rattle.drawings.specs.Drawings.{package_of}
use Rattle.drawings.specs.declared.drawing.Drawing.{Drawing}
use Rattle.drawing_parts.specs.Refusals.{first_below, fit_cause, share_cause}
use Rattle.drawings.specs.Making.{make_refusal}
use Rattle.faults.specs.declared.cause.Bank.{Bank}
use Rattle.faults.specs.declared.cause.Bank.TheVariants as bank
use Rattle.faults.specs.declared.cause.Cause.{Cause}
use Rattle.faults.specs.declared.cause.Cause.TheVariants as cause
use Rattle.faults.specs.declared.cause.Cause.TheVariants.{Share}
use Rattle.layouts.specs.Layouts.{grid_of}
use Rattle.layouts.specs.Making.{topmost}
use Rattle.layouts.specs.declared.layout.Layout.{Layout}
use Rattle.overlays.specs.Laws.{example_bytes, example_source, example_target}
use Rattle.overlays.specs.Packages.{bytes, elements}
use Rattle.overlays.specs.declared.operation.Operation.TheVariants.{Identity}
use Rattle.plans.specs.Plans.{line_of}
use Rattle.sheets.specs.declared.line.Line.{Line}
use Rattle.plans.specs.declared.plan.Plan as plans
use Rattle.settling.specs.Prices.{asked, count_refusal, question}
use Rattle.settling.specs.Records.{proposed}
use Rattle.splits.specs.Blocks.{Grid, grid}
use Rattle.splits.specs.Places.{total as places}
use Rattle.splits.specs.declared.order.Order.TheVariants.{RowMajor}
use Rattle.tariffs.specs.Plains.{plain_price}
use Rattle.worked.specs.Example.{Example, Says, Source, Target, Worked, adoption, cost, line}

-- the letter R names row-major order, and N the identity
target_grid : (a : Layout) → Target a → grid_of a ≡ example_target
target_grid a t = let read : a.order ≡ RowMajor = cc t.0 in t.1.lists ∙ ap (grid (0 ∷ 1 ∷ 3 ∷ []) (0 ∷ 4 ∷ []) (0 ∷ 1 ∷ [])) read

source_grid : (b : Layout) → Source b → grid_of b ≡ example_source
source_grid b t = let read : b.order ≡ RowMajor = cc t.0 in t.1.lists ∙ ap (grid (0 ∷ 3 ∷ []) (0 ∷ 3 ∷ 4 ∷ []) (0 ∷ 1 ∷ [])) read

module _ (d : Drawing) (e : Example d) where
  two : d.target.boards ≡ 2
  two = e.target.1.boards

  pack : (i j : ℕ) → package_of d i j ≡ elements Identity example_target example_source 3 4 i j
  pack i j =
      let read : d.operation ≡ Identity = cc e.made.0 in
      ap (λ op. elements op (grid_of d.target) (grid_of d.source) d.target.rows d.target.columns i j) read
      ∙ ap (λ g. elements Identity g (grid_of d.source) d.target.rows d.target.columns i j) (target_grid d.target e.target)
      ∙ ap (λ g. elements Identity example_target g d.target.rows d.target.columns i j) (source_grid d.source e.source)
      ∙ ap (λ h. elements Identity example_target example_source h d.target.columns i j) e.target.1.rows
      ∙ ap (λ w. elements Identity example_target example_source 3 w i j) e.target.1.columns

  sized : (i j : ℕ) → bytes (package_of d i j) 1 ≡ example_bytes i j
  sized i j = ap (λ k. bytes k 1) (pack i j)

abbrev example_cost : ℕ → ℕ → ℕ
example_cost x y = total (λ i. plain_price (asked i y (example_bytes i x) false)) 2

costs_same : (d : Drawing) → Example d → (x y : ℕ) → cost d x y ≡ example_cost x y
costs_same d e x y =
    ap (total (λ i. plain_price (question d 1 false i x y))) (two d e)
    ∙ total_same (λ i. plain_price (question d 1 false i x y)) (λ i. plain_price (asked i y (example_bytes i x) false)) 2
    (λ i l. ap (λ k. plain_price (asked i y k false)) (sized d e i x))

abbrev pair : {A : Type 0} → A → A → ℕ → A
pair a b x = cond (eqb x 0) a b

abbrev paired : ℕ → Line → Line → Proposal
paired b l m =
    record { name = pair l.board m.board; role_price = pair l.u m.u; board_price = pair l.v m.v; bill = b }

-- what holds of both lines holds of each role below two
both : {A : Type 0} (f g : ℕ → A) → f 0 ≡ g 0 → f 1 ≡ g 1 → (x : ℕ) → x < 2 → f x ≡ g x
both f g p q zero l = p
both f g p q (suc zero) l = q
both f g p q (suc (suc x)) l = absurd (omega arith)

module _ (d : Drawing) (p : plans.Plan) (b : ℕ) (l m : Line) (e : Example d) (s : Says p b l m) where
  judged : wrong_role (cost d) d.target.boards (proposed p) ≡ wrong_role example_cost 2 (paired b l m)
  judged =
      ap (λ n. wrong_role (cost d) n (proposed p)) (two d e)
      ∙ wrong_same (cost d) example_cost 2 (proposed p) (paired b l m) (λ x y h k. costs_same d e x y)
      (both (λ x. (line_of p x).board) (pair l.board m.board) (ap (λ z. z.board) s.first) (ap (λ z. z.board) s.second))
      (both (λ x. (line_of p x).u) (pair l.u m.u) (ap (λ z. z.u) s.first) (ap (λ z. z.u) s.second))
      (both (λ x. (line_of p x).v) (pair l.v m.v) (ap (λ z. z.v) s.first) (ap (λ z. z.v) s.second))
      s.bill

  counts : (n : ℕ) → n ≡ 2 → count_refusal d n ≡ None
  counts n h = rw (h, two d e) refl

  proposal : adoption d p ≡ option_map cause.Plan (wrong_role example_cost 2 (paired b l m))
  proposal = rw (counts 2 refl, counts p.boards s.boards, judged) refl

-- whether n owners' blocks in a grid exceed a share
abbrev held_against : Bank → ℕ → ℕ → Grid → Option Cause
held_against which share n g =
    cond (leb 1 share && leb share 1048576) (option_map (λ p. Share which p) (first_below n (λ p. ltb share (places g p)))) (Some (Share which n))

shared : (which : Bank) (share : ℕ) (l : Layout) (g : Grid) → l.boards ≡ 2 → grid_of l ≡ g → share_cause which l share ≡ held_against which share 2 g
shared which share l g n e = ap (λ k. held_against which share k (grid_of l)) n ∙ ap (held_against which share 2) e

module _ (a b : Layout) (s : Target a) (t : Source b) where
  fitted : fit_cause Identity a b ≡ None
  fitted = rw (s.1.rows, s.1.columns, s.1.boards, t.1.rows, t.1.columns, t.1.boards) refl

  refusal : (share : ℕ) → make_refusal 78 a b 9 share ≡ topmost (held_against bank.Target share 2 example_target ∷ [])
  refusal share =
      ap (λ o. topmost (o ∷ share_cause bank.Source b 9 ∷ share_cause bank.Target a share ∷ [])) fitted
      ∙ ap (λ o. topmost (o ∷ share_cause bank.Target a share ∷ [])) (shared bank.Source 9 b example_source t.1.boards (source_grid b t))
      ∙ ap (λ o. topmost (o ∷ [])) (shared bank.Target share a example_target s.1.boards (target_grid a s))

pub worked : Worked
worked =
    record {
      layouts = (refl, refl);
      shares = λ a b s t. (refusal a b s t 8, refusal a b s t 7);
      packages = λ d e. (sized d e 0 0, sized d e 1 0, sized d e 0 1, sized d e 1 1);
      costs = λ d e. (costs_same d e 0 0, costs_same d e 0 1, costs_same d e 1 0, costs_same d e 1 1);
      bills = λ d e. (
        total_same (λ x. cost d x x) (λ x. example_cost x x) 2 (λ x l. costs_same d e x x),
        total_same (λ x. cost d x (1 - x)) (λ x. example_cost x (1 - x)) 2 (λ x l. costs_same d e x (1 - x)),
      );
      adopted = λ d p e s. proposal d p 20 (line 1 (pos 4) (pos 0)) (line 0 (pos 8) (pos 8)) e s;
      refused = λ d p e s. proposal d p 20 (line 1 (pos 5) (pos 0)) (line 0 (pos 8) (pos 7)) e s;
    }
