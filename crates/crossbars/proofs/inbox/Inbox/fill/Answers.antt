use Rattle.std.proofs.Common.{◌≡◌, ℕ, ◌-◌, List, [], ◌∷◌, ◌++◌, length, sym, subst, arith, length-append, length-drop}
use borrow.Rule.Slice.PartMut.{post_of}
use Rattle.crossbars.proofs.Filled.{held_front}
use Rattle.crossbars.specs.Held.{held}
use Rattle.crossbars.proofs.inbox.Inbox.fill.Goals as goal

pub invariant_of-self : goal.invariant_of-self
invariant_of-self c = record { fits = c.requires.1; sized = simp (length-append, length-drop) (omega (arith, c.copy_from_slice.ensures.len, c.args.self.now.sized, c.requires.1)) }

pub returns : goal.returns
returns c =
    let f = c.args.frame.now in
    let rest = post_of 0 (length f - 0) c.args.self.now.words in
    subst (λ (w : List ℕ). held (w ++ rest) (length f) ≡ f ∷ []) (sym c.copy_from_slice.ensures.after) (held_front f rest c.requires.0)
