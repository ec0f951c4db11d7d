-- When the parts of a drawing are refused. Assumes nothing.
--     fit_cause op a b            the source's rows, columns or boards, the first of them that does not fit the target
--     first_below n p             the lowest number below n that passes
--     share_cause bank l share    the count of boards for a share outside its limits, or else the lowest owner whose blocks
--                                 exceed it
--     make_refusal ..             the cause for which a drawing is refused: letter, fit, source share, target share, in
--                                 this order
-- The operation that a letter names, `operation_of`, is passed on from the crate of overlays.
use Rattle.std.specs.Prelude.{ℕ, zero, suc, Bool, cond, ◌&&◌, [], ◌∷◌, Some, None, Option, ◌==◌, nat_le, nat_lt}
use Rattle.std.specs.Option.{option_map}
use Rattle.faults.specs.declared.cause.Bank.{Bank}
use Rattle.faults.specs.declared.cause.Bank.TheVariants.{Source, Target}
use Rattle.faults.specs.declared.cause.Cause.{Cause}
use Rattle.faults.specs.declared.cause.Cause.TheVariants.{Letter, Size, Share}
use Rattle.layouts.specs.declared.layout.Layout.{Layout}
use Rattle.layouts.specs.Layouts.{total_of}
use Rattle.layouts.specs.Making.{topmost}
use Rattle.overlays.specs.declared.operation.Operation.{Operation}
use Rattle.overlays.specs.Turns.{turned}
pub use Rattle.overlays.specs.Letters.{operation_of}

-- a number that is not the one that is due
abbrev pub size_cause : ℕ → ℕ → Option Cause
size_cause due number = cond (number == due) None (Some (Size number))

abbrev pub fit_cause : Operation → Layout → Layout → Option Cause
fit_cause op a b =
    topmost
    (size_cause (turned op a.rows a.columns) b.rows ∷ size_cause (turned op a.columns a.rows) b.columns ∷ size_cause a.boards b.boards ∷ [])

-- the earlier finding, or else the number itself if it passes
abbrev pub or_here : Option ℕ → Bool → ℕ → Option ℕ
or_here (Some i) here n = Some i
or_here None here n = cond here (Some n) None

abbrev pub first_below : ℕ → (ℕ → Bool) → Option ℕ
first_below zero p = None
first_below (suc n) p = or_here (first_below n p) (p n) n

abbrev pub exceeds : Layout → ℕ → ℕ → Bool
exceeds l share p = nat_lt share (total_of l p)

abbrev pub share_cause : Bank → Layout → ℕ → Option Cause
share_cause bank l share =
    cond (nat_le 1 share && nat_le share 1048576) (option_map (λ p. Share bank p) (first_below l.boards (exceeds l share))) (Some (Share bank l.boards))

-- everything below the letter
abbrev pub parts_refusal : Operation → Layout → Layout → ℕ → ℕ → Option Cause
parts_refusal op a b s t = topmost (fit_cause op a b ∷ share_cause Source b s ∷ share_cause Target a t ∷ [])

abbrev pub refusal_of : ℕ → Option Operation → Layout → Layout → ℕ → ℕ → Option Cause
refusal_of letter None a b s t = Some (Letter letter)
refusal_of letter (Some op) a b s t = parts_refusal op a b s t

abbrev pub make_refusal : ℕ → Layout → Layout → ℕ → ℕ → Option Cause
make_refusal letter a b s t = refusal_of letter (operation_of letter) a b s t
