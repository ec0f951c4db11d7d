-- What is made of parts that are not refused. Assumes nothing.
--     Built op a b s t d        the drawing has just these parts
--     Made letter a b s t d     the drawing has just these parts and the operation that the letter names
-- When parts are refused, `make_refusal`, is passed on from the crate of parts.
use Rattle.std.specs.Prelude.{◌≡◌, ℕ, Some}
use Rattle.drawings.specs.declared.drawing.Drawing.{Drawing}
use Rattle.layouts.specs.declared.layout.Layout.{Layout}
use Rattle.overlays.specs.declared.operation.Operation.{Operation}
pub use Rattle.drawing_parts.specs.Refusals.{operation_of, make_refusal}

pub record Built (op : Operation) (a b : Layout) (s t : ℕ) (d : Drawing) : Type 0 where
  pub operation : d.operation ≡ op
  pub target : d.target ≡ a
  pub source : d.source ≡ b
  pub source_share : d.source_share ≡ s
  pub target_share : d.target_share ≡ t

abbrev pub Made : ℕ → Layout → Layout → ℕ → ℕ → Drawing → Type 0
Made letter a b s t d = (operation_of letter ≡ Some d.operation) × Built d.operation a b s t d
