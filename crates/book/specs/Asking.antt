-- What a book answers. Assumes nothing.
--     drawing_of s               the drawing of a book at stage s, if there is one
--     cover_refusal s k          7 in an empty book, then the drawing's refusal of cell k
--     bytes_refusal s i x        7 in an empty book, then the drawing's refusal of board i or role x
--     plan_refusal s             7 unless a plan is settled
--     price_refusal s i x        7 in an empty book, then 2 for board i or role x, then 7 unless a plan is settled
--     Covered, Sized, Planned, Priced    what is answered otherwise
use Rattle.std.specs.Prelude.{◌≡◌, ℕ, Some, None, Option}
use Rattle.std.specs.Option.{option_map, option_or}
use Rattle.book.specs.Refusals.{settlement_of, state_refusal, turn_of}
use Rattle.book.specs.declared.stage.Stage.{Stage}
use Rattle.drawings.specs.Asking.{IsCover, board_refusal, cell_refusal}
use Rattle.drawings.specs.Drawings.{package_of}
use Rattle.drawings.specs.declared.drawing.Drawing.{Drawing}
use Rattle.faults.specs.declared.cause.Cause.{Cause}
use Rattle.faults.specs.declared.fault.Call.{Call}
use Rattle.faults.specs.declared.fault.Call.TheVariants.{Ask, Cover}
use Rattle.faults.specs.declared.fault.Fault.{Fault}
use Rattle.faults.specs.declared.fault.Layer.TheVariants.{Drawings}
use Rattle.overlays.specs.Packages.{bytes}
use Rattle.plans.specs.declared.plan.Plan.{Plan}
use Rattle.settling.specs.Records.{price_at}
use Rattle.settling.specs.declared.settlement.Settlement.{Settlement}

abbrev pub drawing_of : {E : Type 0} → Stage E → Option Drawing
drawing_of s = option_map (λ turn. turn.drawing) (turn_of s)

abbrev pub drawings_fault : Call → Cause → Fault
drawings_fault c why = record { layer = Drawings; call = c; cause = why }

-- the fault of a book with nothing drawn, or what the drawing refuses
abbrev pub drawn_refusal : Fault → Option Drawing → (Drawing → Option Fault) → Option Fault
drawn_refusal f None more = Some f
drawn_refusal f (Some d) more = more d

abbrev pub cover_refusal : {E : Type 0} → Stage E → ℕ → Option Fault
cover_refusal s k = drawn_refusal (state_refusal Cover s) (drawing_of s) (λ d. option_map (drawings_fault Cover) (cell_refusal d k))

abbrev pub bytes_refusal : {E : Type 0} → Stage E → ℕ → ℕ → Option Fault
bytes_refusal s i x = drawn_refusal (state_refusal Ask s) (drawing_of s) (λ d. option_map (drawings_fault Ask) (board_refusal d i x))

-- the fault of a book with nothing settled
abbrev pub unless_settled : Fault → Option Settlement → Option Fault
unless_settled f None = Some f
unless_settled f (Some s) = None

abbrev pub plan_refusal : {E : Type 0} → Stage E → Option Fault
plan_refusal s = unless_settled (state_refusal Ask s) (settlement_of s)

abbrev pub price_refusal : {E : Type 0} → Stage E → ℕ → ℕ → Option Fault
price_refusal s i x = option_or (bytes_refusal s i x) (plan_refusal s)

pub record Covered {E : Type 0} (s : Stage E) (k t b : ℕ) : Type 0 where
  pub drawing : Drawing
  pub drawn : drawing_of s ≡ Some drawing
  pub cover : IsCover drawing k t b

pub record Sized {E : Type 0} (s : Stage E) (w i x v : ℕ) : Type 0 where
  pub drawing : Drawing
  pub drawn : drawing_of s ≡ Some drawing
  pub size : v ≡ bytes (package_of drawing i x) w

abbrev pub Planned : {E : Type 0} → Stage E → Plan → Type 0
Planned s p = option_map (λ settled. settled.plan) (settlement_of s) ≡ Some p

abbrev pub Priced : {E : Type 0} → Stage E → ℕ → ℕ → ℕ → Type 0
Priced s i x price = option_map (λ settled. price_at settled.prices i x) (settlement_of s) ≡ Some price
