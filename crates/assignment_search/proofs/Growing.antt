-- One step of the tree's growth: its next board joins it, and the board's role offers ways to the others.
use Rattle.std.proofs.Common.{◌≡◌, ℕ, zero, suc, ◌+◌, ◌*◌, ◌^◌, ◌<◌, ◌≤◌, cond, eqb, ◌⊎◌, slice_index_or, Some, None, unwrap_or, sym, refl, ap, ◌∙◌, subst, inl, inr, arith}
use Rattle.std.proofs.lemmas.Bool.{cases_eq, cases_lt, eq-eqb, ne_eqb, cond-true, cond-false}
use Rattle.assignment_laws.specs.Namings.{total, Permutation}
use Rattle.assignment_laws.proofs.Totals.{total_same, total_put, put, put_same, put_other, no_gap}
use Rattle.assignment_costs.specs.declared.costs.Costs.{Costs}
use Rattle.assignment_search.specs.declared.tree.Matching.{Matching}
use Rattle.assignment_search.specs.declared.tree.Prices.{Prices}
use Rattle.assignment_search.specs.declared.tree.Tree.{Tree}
use Rattle.assignment_costs.specs.Costs.{cost_at}
use Rattle.assignment_search.specs.Search.{val, mate, IsBelow, count_of, rank_of, Relaxed, IsPartial, Nearest, Planted}
use Rattle.assignment_search.specs.Trees.{Matched, Fair, From, Rooted, unused, Grown, Joined}

-- one board fewer is outside the tree
unused_joined : (t s : Tree) (n b step : ℕ) → Joined t b step s → b < n → rank_of t b ≡ 0 → 0 < step → unused s n + 1 ≡ unused t n
unused_joined t s n b step j l z p =
    let f : ℕ → ℕ = λ y. cond (eqb (rank_of t y) 0) 1 0 in
    let g : ℕ → ℕ = λ y. cond (eqb (rank_of s y) 0) 1 0 in
    let here : g b ≡ 0 = cond-false (eqb (rank_of s b) 0) 1 0 (ne_eqb (rank_of s b) 0 (λ e. omega (arith, j.here))) in
    let was : f b ≡ 1 = cond-true (eqb (rank_of t b) 0) 1 0 (eq-eqb (rank_of t b) 0 z) in
    let each : (y : ℕ) → y < n → g y ≡ put f b 0 y =
    λ y m. elim (cases_eq y b) [ inl e ↦ ap g e ∙ here ∙ sym (put_same f b 0 y e) | inr d ↦ ap (λ v. cond (eqb v 0) 1 0) (j.others y d) ∙ sym (put_other f b 0 y d) ] in
    omega (arith, total_same g (put f b 0) n each, total_put f b 0 n l, was)

module _ (c : Costs) (p : Prices) (m : Matching) (root : ℕ) (known : Matched c.boards root m 16) where
  no_hole : (y : ℕ) → y < c.boards → y ≡ 16 → ⊥
  no_hole y l e = omega (arith, c.most)

  -- while a role has no board, not every board is held
  pub some_free : root < c.boards → ((y : ℕ) → y < c.boards → mate m.owner y < 16) → ⊥
  some_free l h =
      let below : (y : ℕ) → y < c.boards → mate m.owner y < c.boards = λ y b. (known.forth y b (no_hole y b) (h y b)).0 in
      let named : (y : ℕ) → y < c.boards → mate m.naming (mate m.owner y) ≡ y = λ y b. (known.forth y b (no_hole y b) (h y b)).1 in
      let perm : Permutation c.boards (mate m.owner) =
      record { below = below; apart = λ y z a b e. sym (named y a) ∙ ap (mate m.naming) e ∙ named z b } in
      no_gap c.boards root (mate m.owner) perm l
      (λ y b e. omega (arith, c.most, known.unnamed root (omega arith) l, ap (mate m.naming) e, named y b))

  module _ (fair : Fair c p m) (t : Tree) (e step : ℕ) (g : Grown c p m root t e step) (s : Tree) (j : Joined t e step s) where
    abbrev n : ℕ
    n = c.boards

    positive : 0 < step
    positive = omega (arith, g.ranks e g.end)

    joined_distance : (y : ℕ) → val s.distance y ≡ val t.distance y
    joined_distance y = ap (λ l. val l y) j.distance

    joined_way : (y : ℕ) → val s.way y ≡ val t.way y
    joined_way y = ap (λ l. val l y) j.way

    -- a board of the tree was there before, or is the one that joined
    was : (y : ℕ) → 0 < rank_of s y → (y ≡ e) ⊎ (0 < rank_of t y)
    was y h = elim (cases_eq y e) [ inl q ↦ inl q | inr d ↦ inr (omega (arith, j.others y d)) ]

    stays_inside : (y : ℕ) → 0 < rank_of t y → rank_of s y ≡ rank_of t y
    stays_inside y h = j.others y (λ q. omega (arith, g.end_outside, ap (rank_of t) q))

    -- the way to a board, once the next board has joined
    from_joined : (y : ℕ) → y < n → (x : ℕ) → From c p m t y x → From c p m s y x
    from_joined y l x f =
        let own = stays_inside (mate m.naming x) f.inside in
        record {
          below = f.below;
          named = f.named;
          inside = omega (arith, own, f.inside);
          earlier =
              elim (cases_eq y e) [
                | inl q ↦ inr (omega (arith, own, g.ranks (mate m.naming x) f.named, j.here, ap (rank_of s) q))
                | inr d ↦
                    elim f.earlier [
                      | inl z ↦ inl (j.others y d ∙ z)
                      | inr k ↦ inr (omega (arith, own, k, j.others y d))
                    ]
              ];
          length = omega (arith, f.length, joined_distance y, joined_distance (mate m.naming x));
        }

    abbrev Way : Tree → ℕ → Type 0
    Way r y =
        ((val r.way y ≡ root) × (val r.distance y + val p.roles root ≡ cost_at c root y + val p.discounts y))
        ⊎ From c p m r y (val r.way y)

    way_joined : (y : ℕ) → y < n → Way s y
    way_joined y l =
        elim (g.rooted.from y l) [
          | inl q ↦ inl (joined_way y ∙ q.0, omega (arith, q.1, joined_distance y))
          | inr f ↦ inr (subst (From c p m s y) (sym (joined_way y)) (from_joined y l (val t.way y) f))
        ]

    -- the last board of the path, which nobody holds, joins
    module _ (free : 16 ≤ mate m.owner e) where
      pub rooted_last : Rooted c p m root s e
      rooted_last =
          record {
            short_root = λ y l. omega (arith, g.rooted.short_root y l, joined_distance y);
            short = λ x y a b k h.
                elim (was (mate m.naming x) h) [
                  | inl q ↦ absurd (omega (arith, c.most, ap (mate m.owner) q, (known.back x a k).0))
                  | inr i ↦ omega (arith, g.rooted.short x y a b k i, joined_distance y, joined_distance (mate m.naming x))
                ];
            from = way_joined;
            inside = λ y l h.
                elim (was y h) [
                  | inl q ↦ omega (arith, ap (val s.distance) q)
                  | inr i ↦ omega (arith, g.rooted.inside y l i, joined_distance y, joined_distance e)
                ];
            outside = λ y l z.
                elim (cases_eq y e) [
                  | inl q ↦ absurd (omega (arith, j.here, positive, ap (rank_of s) q))
                  | inr d ↦ omega (arith, g.rooted.outside y l (sym (j.others y d) ∙ z), joined_distance y, joined_distance e)
                ];
          }

      pub held_last : (y : ℕ) → y < n → 0 < rank_of s y → (y ≡ e) ⊎ (mate m.owner y < 16)
      held_last y l h = elim (was y h) [ inl q ↦ inl q | inr i ↦ inr (g.held y l i) ]

    -- the role x₀ that holds the board offers its ways
    module _ (x₀ : ℕ) (is : slice_index_or m.owner e None ≡ Some x₀) (below : IsBelow m.owner) (r : Tree) (w : Relaxed c p x₀ (val s.distance e) s r) where
      x₀_own : mate m.owner e ≡ x₀
      x₀_own = ap (λ o. unwrap_or o 16) is

      e_held : mate m.owner e < 16
      e_held = omega (arith, x₀_own, below e x₀ is)

      x₀_below : x₀ < n
      x₀_below = omega (arith, x₀_own, (known.forth e g.end (no_hole e g.end) e_held).0)

      x₀_named : mate m.naming x₀ ≡ e
      x₀_named = ap (mate m.naming) (sym x₀_own) ∙ (known.forth e g.end (no_hole e g.end) e_held).1

      same_rank : (y : ℕ) → rank_of r y ≡ rank_of s y
      same_rank y = ap (λ l. count_of (slice_index_or l y None)) w.joined

      inside_same : (y : ℕ) → y < n → 0 < rank_of s y → val r.distance y ≡ val t.distance y
      inside_same y l i = ((w.boards y l).inside i).0 ∙ joined_distance y

      shrinks : (y : ℕ) → y < n → val r.distance y ≤ val t.distance y
      shrinks y l =
          elim (cases_lt 0 (rank_of s y)) [
            | inl i ↦ omega (arith, inside_same y l i)
            | inr z ↦
                elim ((w.boards y l).outside (omega arith)) [
                  | inl q ↦ omega (arith, q.2, joined_distance y)
                  | inr q ↦ omega (arith, q.1, joined_distance y)
                ]
          ]

      pub low_more : (y : ℕ) → y < n → val r.distance y ≤ 2 ^ 45
      low_more y l = omega (arith, shrinks y l, g.rooted.short_root y l, c.capped (root * 16 + y), fair.low_boards y l)

      e_joined : 0 < rank_of s e
      e_joined = omega (arith, j.here, positive)

      e_same : val r.distance e ≡ val t.distance e
      e_same = inside_same e g.end e_joined

      -- every board is at least as far as the one that joined, if it is outside the tree
      beyond : (y : ℕ) → y < n → rank_of s y ≡ 0 → val t.distance e ≤ val r.distance y
      beyond y l z =
          elim (cases_eq y e) [
            | inl q ↦ absurd (omega (arith, e_joined, ap (rank_of s) q))
            | inr d ↦
                elim ((w.boards y l).outside z) [
                  | inl q ↦ omega (arith, q.1, fair.feasible x₀ y x₀_below l, joined_distance e)
                  | inr q ↦ omega (arith, q.1, joined_distance y, g.rooted.outside y l (sym (j.others y d) ∙ z))
                ]
          ]

      -- no board is farther than a way through the role of the board that joined
      short_here : (y : ℕ) → y < n → val r.distance y + val p.roles x₀ ≤ val r.distance e + cost_at c x₀ y + val p.discounts y
      short_here y l =
          elim (cases_lt 0 (rank_of s y)) [
            | inl i ↦
                elim (was y i) [
                  | inl q ↦ omega (arith, ap (val r.distance) q, fair.feasible x₀ y x₀_below l)
                  | inr k ↦ omega (arith, inside_same y l i, g.rooted.inside y l k, e_same, fair.feasible x₀ y x₀_below l)
                ]
            | inr z ↦
                elim ((w.boards y l).outside (omega arith)) [
                  | inl q ↦ omega (arith, q.1, e_same, joined_distance e)
                  | inr q ↦ omega (arith, q.1, q.2, e_same, joined_distance e)
                ]
          ]

      short_more : (x y : ℕ) → x < n → y < n → mate m.naming x < n → 0 < rank_of r (mate m.naming x)
          → val r.distance y + val p.roles x ≤ val r.distance (mate m.naming x) + cost_at c x y + val p.discounts y
      short_more x y a b k i =
          let i' : 0 < rank_of s (mate m.naming x) = omega (arith, same_rank (mate m.naming x), i) in
          elim (was (mate m.naming x) i') [
            | inl q ↦
                (let own : x ≡ x₀ = sym (known.back x a k).0 ∙ ap (mate m.owner) q ∙ x₀_own in
                subst (λ z. val r.distance y + val p.roles z ≤ val r.distance (mate m.naming x) + cost_at c z y + val p.discounts y) (sym own)
                (omega (arith, short_here y b, ap (val r.distance) q)))
            | inr o ↦ omega (arith, g.rooted.short x y a b k o, shrinks y b, inside_same (mate m.naming x) k i')
          ]

      -- a way that stays
      from_kept : (y x : ℕ) → y < n → val r.distance y ≡ val s.distance y → From c p m s y x → From c p m r y x
      from_kept y x l d f =
          let own = same_rank (mate m.naming x) in
          record {
            below = f.below;
            named = f.named;
            inside = omega (arith, own, f.inside);
            earlier = elim f.earlier [ inl z ↦ inl (same_rank y ∙ z) | inr k ↦ inr (omega (arith, own, k, same_rank y)) ];
            length = omega (arith, f.length, d, inside_same (mate m.naming x) f.named f.inside, joined_distance (mate m.naming x));
          }

      way_kept : (y : ℕ) → y < n → val r.distance y ≡ val s.distance y → val r.way y ≡ val s.way y → Way r y
      way_kept y l d k =
          elim (way_joined y l) [
            | inl q ↦ inl (k ∙ q.0, omega (arith, q.1, d))
            | inr f ↦ inr (subst (From c p m r y) (sym k) (from_kept y (val s.way y) l d f))
          ]

      from_new : (y : ℕ) → rank_of s y ≡ 0 → val r.distance y + val p.roles x₀ ≡ val s.distance e + cost_at c x₀ y + val p.discounts y
          → From c p m r y x₀
      from_new y z q =
          record {
            below = x₀_below;
            named = omega (arith, x₀_named, g.end);
            inside = omega (arith, ap (rank_of r) x₀_named, same_rank e, e_joined);
            earlier = inl (same_rank y ∙ z);
            length = omega (arith, q, ap (val r.distance) x₀_named, e_same, joined_distance e);
          }

      way_more : (y : ℕ) → y < n → Way r y
      way_more y l =
          elim (cases_lt 0 (rank_of s y)) [
            | inl i ↦ way_kept y l ((w.boards y l).inside i).0 ((w.boards y l).inside i).1
            | inr z ↦
                elim ((w.boards y l).outside (omega arith)) [
                  | inl q ↦ inr (subst (From c p m r y) (sym q.0) (from_new y (omega arith) q.1))
                  | inr q ↦ way_kept y l q.1 q.0
                ]
          ]

      held_more : (y : ℕ) → y < n → 0 < rank_of r y → mate m.owner y < 16
      held_more y l i =
          elim (was y (omega (arith, same_rank y, i))) [
            | inl q ↦ omega (arith, ap (mate m.owner) q, e_held)
            | inr k ↦ g.held y l k
          ]

      ranks_more : (y : ℕ) → y < n → rank_of r y < step + 1
      ranks_more y l =
          elim (cases_eq y e) [
            | inl q ↦ omega (arith, same_rank y, j.here, ap (rank_of s) q)
            | inr d ↦ omega (arith, same_rank y, j.others y d, g.ranks y l)
          ]

      count_more : unused r n + (step + 1) ≡ n + 1
      count_more =
          let same : unused r n ≡ unused s n = ap (λ l. total (λ y. cond (eqb (count_of (slice_index_or l y None)) 0) 1 0) n) w.joined in
          omega (arith, same, unused_joined t s n e step j g.end g.end_outside positive, g.count)

      pub partial_more : root < n → IsPartial n r
      partial_more l h = some_free l (λ y b. held_more y b (h y b))

      -- the tree has its next board
      pub grown_more : (e' : ℕ) → Nearest n r e' → Grown c p m root r e' (step + 1)
      grown_more e' near =
          record {
            end = near.below;
            end_outside = near.outside;
            rooted =
                record {
                  short_root = λ y b. omega (arith, g.rooted.short_root y b, shrinks y b);
                  short = short_more;
                  from = way_more;
                  inside = λ y b i.
                      let far : val t.distance e ≤ val r.distance e' = beyond e' near.below (sym (same_rank e') ∙ near.outside) in
                      let i' : 0 < rank_of s y = omega (arith, same_rank y, i) in
                      elim (was y i') [
                        | inl o ↦ omega (arith, far, e_same, ap (val r.distance) o)
                        | inr k ↦ omega (arith, far, inside_same y b i', g.rooted.inside y b k)
                      ];
                  outside = near.least;
                };
            ranks = ranks_more;
            held = held_more;
            count = count_more;
            beyond = λ y l. same_rank y ∙ j.others y (λ q. omega (arith, g.end)) ∙ g.beyond y l;
          }

-- the tree of the root alone
ones : (t : Tree) (n : ℕ) → ((y : ℕ) → rank_of t y ≡ 0) → unused t n ≡ n
ones t zero z = refl
ones t (suc n) z =
    let one : ◌≡◌ {A = ℕ} (cond (eqb (rank_of t n) 0) 1 0) 1 = cond-true (eqb (rank_of t n) 0) 1 0 (eq-eqb (rank_of t n) 0 (z n)) in
    omega (arith, ones t n z, one)

pub grown_first : (c : Costs) (p : Prices) (m : Matching) (root : ℕ) (t : Tree) → Planted c p root t → (e : ℕ) → Nearest c.boards t e → Grown c p m root t e 1
grown_first c p m root t a e near =
    record {
      end = near.below;
      end_outside = near.outside;
      rooted =
          record {
            short_root = λ y l. omega (arith, a.distance y l);
            short = λ x y k l b i. absurd (omega (arith, i, a.rank (mate m.naming x)));
            from = λ y l. inl (a.way y (omega (arith, c.most)), a.distance y l);
            inside = λ y l i. absurd (omega (arith, i, a.rank y));
            outside = near.least;
          };
      ranks = λ y l. omega (arith, a.rank y);
      held = λ y l i. absurd (omega (arith, i, a.rank y));
      count = omega (arith, ones t c.boards a.rank);
      beyond = λ y l. a.rank y;
    }
