-- The worked example: a matrix of 3 rows and 4 columns of words on two boards. The target's rows are split at 1, and
-- its roles are 0 and 1; the source's columns are split at 3, and its owners are 0 and 1. Both are row-major, the
-- operation is the identity, the factor is one, and the tariff is the plain one. Assumes nothing.
--     Target a, Source b    a and b are the layouts of the example
--     Example d             d is a drawing of the example
--     cost d x y            what role x costs on board y
--     Says p b l m          p is a plan for two boards with bill b and the lines l and m
--     adoption d p          why the plan p is not adopted for the drawing, if there is a cause
--     Worked                what follows: both layouts are accepted; with a target share of 8 the drawing is, and with 7 it is
--                           refused; the packages' bytes; the costs; the bills of own names and of the exchange; the plan that
--                           is adopted, and the one that is refused
use Rattle.std.specs.Prelude.{◌≡◌, ℕ, ◌-◌, false, [], ◌∷◌, ℤ, pos, Some, None, Option}
use Rattle.assignment_laws.specs.Namings.{bill_of}
use Rattle.drawings.specs.Drawings.{package_of}
use Rattle.drawings.specs.Making as drawing
use Rattle.drawings.specs.declared.drawing.Drawing.{Drawing}
use Rattle.faults.specs.declared.cause.Bank.TheVariants as bank
use Rattle.faults.specs.declared.cause.Cause.{Cause}
use Rattle.faults.specs.declared.cause.Cause.TheVariants.{Plan, Share}
use Rattle.layouts.specs.Making as layout
use Rattle.layouts.specs.declared.layout.Layout.{Layout}
use Rattle.overlays.specs.Packages.{bytes}
use Rattle.plans.specs.Plans.{line_of}
use Rattle.sheets.specs.declared.line.Line.{Line}
use Rattle.plans.specs.declared.plan.Plan as plans
use Rattle.settling.specs.Prices.{cost_of}
use Rattle.settling.specs.Settling.{adopt_refusal}
use Rattle.tariffs.specs.Plains.{plain_price}

-- the letters are R, 82, and N, 78
abbrev pub Target : Layout → Type 0
Target a = layout.Made 82 2 3 4 (0 ∷ 1 ∷ 3 ∷ []) (0 ∷ 4 ∷ []) (0 ∷ 1 ∷ []) a

abbrev pub Source : Layout → Type 0
Source b = layout.Made 82 2 3 4 (0 ∷ 3 ∷ []) (0 ∷ 3 ∷ 4 ∷ []) (0 ∷ 1 ∷ []) b

pub record Example (d : Drawing) : Type 0 where
  pub target : Target d.target
  pub source : Source d.source
  pub made : drawing.Made 78 d.target d.source 9 8 d

abbrev pub cost : Drawing → ℕ → ℕ → ℕ
cost d = cost_of plain_price d 1 false

abbrev pub line : ℕ → ℤ → ℤ → Line
line board u v = record { board = board; u = u; v = v }

pub record Says (p : plans.Plan) (b : ℕ) (l m : Line) : Type 0 where
  pub boards : p.boards ≡ 2
  pub bill : p.bill ≡ b
  pub first : line_of p 0 ≡ l
  pub second : line_of p 1 ≡ m

abbrev pub adoption : Drawing → plans.Plan → Option Cause
adoption d p = adopt_refusal plain_price d 1 false 2 p

pub record Worked : Type 0 where
  pub layouts : (layout.make_refusal 82 2 3 4 (0 ∷ 1 ∷ 3 ∷ []) (0 ∷ 4 ∷ []) (0 ∷ 1 ∷ []) ≡ None)
      × (layout.make_refusal 82 2 3 4 (0 ∷ 3 ∷ []) (0 ∷ 3 ∷ 4 ∷ []) (0 ∷ 1 ∷ []) ≡ None)
  pub shares : (a b : Layout) → Target a → Source b
      → (drawing.make_refusal 78 a b 9 8 ≡ None) × (drawing.make_refusal 78 a b 9 7 ≡ Some (Share bank.Target 1))
  pub packages : (d : Drawing) → Example d
      → (bytes (package_of d 0 0) 1 ≡ 12) × (bytes (package_of d 1 0) 1 ≡ 4) × (bytes (package_of d 0 1) 1 ≡ 24) × (bytes (package_of d 1 1) 1 ≡ 8)
  pub costs : (d : Drawing) → Example d → (cost d 0 0 ≡ 4) × (cost d 0 1 ≡ 12) × (cost d 1 0 ≡ 8) × (cost d 1 1 ≡ 24)
  pub bills : (d : Drawing) → Example d → (bill_of (cost d) 2 (λ x. x) ≡ 28) × (bill_of (cost d) 2 (λ x. 1 - x) ≡ 20)
  pub adopted : (d : Drawing) (p : plans.Plan) → Example d → Says p 20 (line 1 (pos 4) (pos 0)) (line 0 (pos 8) (pos 8)) → adoption d p ≡ None
  pub refused : (d : Drawing) (p : plans.Plan) → Example d → Says p 20 (line 1 (pos 5) (pos 0)) (line 0 (pos 8) (pos 7)) → adoption d p ≡ Some (Plan 0)
