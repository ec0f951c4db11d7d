-- The path switched board by board, from its end to the root.
use Rattle.std.proofs.Common.{◌≡◌, ℕ, ◌<◌, ◌≤◌, Some, None, slice_index_or, unwrap_or, sym, ap, ◌∙◌, subst, inl, inr, arith, rules}
use Rattle.std.proofs.lemmas.Bool.{cases_eq}
use Rattle.assignment_search.specs.declared.tree.Matching.{Matching}
use Rattle.assignment_search.specs.declared.tree.Tree.{Tree}
use Rattle.assignment_search.specs.Search.{val, mate, rank_of}
use Rattle.assignment_search.specs.Trees.{Matched}
use Rattle.assignment_search.specs.Paths.{Nearer, Route, Pairs, Freed, Switched, Switching, Given}

module _ (n root : ℕ) (most : n ≤ 16) (m : Matching) (t : Tree) (e : ℕ) (start : Matched n root m 16) (route : Route n m root t e) where
  module _ (k : Matching) (b : ℕ) (s : Switching n m root t k b) (j : Matching) (g : Given k (val t.way b) b j) where
    abbrev x₀ : ℕ
    x₀ = val t.way b

    pairs_given : (hole : ℕ) → Pairs n m t j hole
    pairs_given hole y l d h =
        elim (cases_eq y b) [
          | inl q ↦ inr (ap (mate j.owner) q ∙ g.owner ∙ ap (val t.way) (sym q), omega (arith, s.inside, ap (rank_of t) q))
          | inr f ↦
              elim (s.pairs y l f (omega (arith, g.owners y f))) [
                | inl o ↦ inl (g.owners y f ∙ o)
                | inr o ↦ inr (g.owners y f ∙ o.0, o.1)
              ]
        ]

    freed_given : (hole : ℕ) → x₀ < n → Freed n m j hole
    freed_given hole a y l d h =
        elim (cases_eq y b) [
          | inl q ↦ absurd (omega (arith, ap (mate j.owner) q, g.owner))
          | inr f ↦ s.freed y l f (omega (arith, g.owners y f))
        ]

    module _ (near : Nearer n m t b x₀) where
      abbrev q₀ : ℕ
      q₀ = mate k.naming x₀

      q₀_is : q₀ ≡ mate m.naming x₀
      q₀_is = s.kept x₀ near.below near.named near.earlier

      q₀_below : q₀ < n
      q₀_below = omega (arith, q₀_is, near.named)

      q₀_rank : rank_of t q₀ ≡ rank_of t (mate m.naming x₀)
      q₀_rank = ap (rank_of t) q₀_is

      apart : b ≡ q₀ → ⊥
      apart q = omega (arith, ap (rank_of t) q, q₀_rank, near.earlier)

      named_more : (x : ℕ) → x < root → mate j.naming x < n
      named_more x l =
          elim (cases_eq x x₀) [
            | inl q ↦ omega (arith, ap (mate j.naming) q, g.naming, s.board)
            | inr d ↦ omega (arith, g.names x d, s.matched.named x l)
          ]

      unnamed_more : (x : ℕ) → root ≤ x → x < n → mate j.naming x ≡ 16
      unnamed_more x l a =
          elim (cases_eq x x₀) [
            | inl q ↦ absurd (omega (arith, ap (mate k.naming) q, s.matched.unnamed x l a, q₀_below))
            | inr d ↦ g.names x d ∙ s.matched.unnamed x l a
          ]

      back_more : (x : ℕ) → x < n → mate j.naming x < n → (mate j.owner (mate j.naming x) ≡ x) × (mate j.naming x ≡ q₀ → ⊥)
      back_more x l a =
          elim (cases_eq x x₀) [
            | inl q ↦
                (let own : mate j.naming x ≡ b = ap (mate j.naming) q ∙ g.naming in
                (ap (mate j.owner) own ∙ g.owner ∙ sym q, λ z. apart (sym own ∙ z)))
            | inr d ↦
                (let own : mate j.naming x ≡ mate k.naming x = g.names x d in
                let old = s.matched.back x l (omega (arith, own, a)) in (
                  ap (mate j.owner) own ∙ g.owners (mate k.naming x) old.1 ∙ old.0,
                  λ z.
                      let same : mate k.owner (mate k.naming x) ≡ mate k.owner q₀ = ap (mate k.owner) (sym own ∙ z) in
                      d (sym old.0 ∙ same ∙ (s.matched.back x₀ near.below q₀_below).0),
                ))
          ]

      forth_more : (y : ℕ) → y < n → (y ≡ q₀ → ⊥) → mate j.owner y < 16 → (mate j.owner y < n) × (mate j.naming (mate j.owner y) ≡ y)
      forth_more y l d h =
          elim (cases_eq y b) [
            | inl q ↦
                (let own : mate j.owner y ≡ x₀ = ap (mate j.owner) q ∙ g.owner in
                (omega (arith, own, near.below), ap (mate j.naming) own ∙ g.naming ∙ sym q))
            | inr f ↦
                (let own : mate j.owner y ≡ mate k.owner y = g.owners y f in
                let old = s.matched.forth y l f (omega (arith, own, h)) in
                let other : mate k.owner y ≡ x₀ → ⊥ = λ z. d (sym old.1 ∙ ap (mate k.naming) z) in
                (omega (arith, own, old.0), ap (mate j.naming) own ∙ g.names (mate k.owner y) other ∙ old.1))
          ]

      kept_more : (x : ℕ) → x < n → mate m.naming x < n → rank_of t (mate m.naming x) < rank_of t q₀ → mate j.naming x ≡ mate m.naming x
      kept_more x l a r =
          elim (cases_eq x x₀) [
            | inl q ↦ absurd (omega (arith, ap (λ z. rank_of t (mate m.naming z)) q, q₀_rank, r))
            | inr d ↦ g.names x d ∙ s.kept x l a (omega (arith, r, q₀_rank, near.earlier))
          ]

      pub switching_more : Switching n m root t j q₀
      switching_more =
          record {
            board = q₀_below;
            inside = omega (arith, q₀_rank, near.inside);
            matched = record { named = named_more; unnamed = unnamed_more; back = back_more; forth = forth_more };
            pairs = pairs_given q₀;
            freed = freed_given q₀ near.below;
            kept = kept_more;
          }

    module _ (last : x₀ ≡ root) (low : root < n) where
      forth_last : (y : ℕ) → y < n → (y ≡ 16 → ⊥) → mate j.owner y < 16 → (mate j.owner y < n) × (mate j.naming (mate j.owner y) ≡ y)
      forth_last y l d h =
          elim (cases_eq y b) [
            | inl q ↦ search rules
            | inr f ↦
                (let old = s.matched.forth y l f (omega (arith, g.owners y f, h)) in
                let other : mate k.owner y ≡ x₀ → ⊥ = λ z. omega (arith, old.1, ap (mate k.naming) (z ∙ last), s.matched.unnamed root (omega arith) low) in
                (omega (arith, g.owners y f, old.0), ap (mate j.naming) (g.owners y f) ∙ g.names (mate k.owner y) other ∙ old.1))
          ]

      pub switched_last : Switched n m root t j
      switched_last =
          record { matched = record { named = search rules; unnamed = search rules; back = search rules; forth = forth_last }; pairs = pairs_given 16; freed = search rules }

  -- the same, for a role that is known to be the way
  pub switching_step : (k : Matching) (b x y : ℕ) → Switching n m root t k b → x ≡ val t.way b → (x ≡ root → ⊥) → slice_index_or k.naming x None ≡ Some y → (j : Matching) → Given k x b j
      → Switching n m root t j y × (rank_of t y < rank_of t b)
  switching_step k b x y s e d is j g =
      let g' : Given k (val t.way b) b j = subst (λ z. Given k z b j) e g in
      elim (route.steps b s.board s.inside) [
        | inl q ↦ absurd (d (e ∙ q))
        | inr near ↦
            subst (λ z. Switching n m root t j z × (rank_of t z < rank_of t b)) (ap (mate k.naming) (sym e) ∙ ap (λ o. unwrap_or o 16) is)
            (switching_more k b s j g' near, omega (arith, q₀_rank k b s j g' near, near.earlier))
      ]
