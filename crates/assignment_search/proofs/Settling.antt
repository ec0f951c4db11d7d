-- The prices after a path: still feasible and low, tight where a role holds a board, and tight along the tree's ways.
use Rattle.std.proofs.Common.{◌≡◌, ℕ, ◌+◌, ◌-◌, ◌*◌, ◌^◌, ◌<◌, ◌≤◌, eqb, ltb, sym, ap, ◌∙◌, subst, inl, inr, arith}
use Rattle.std.proofs.lemmas.Bool.{cases_eq, cases_lt, eq-eqb, ne_eqb, lt-ltb, le-ltb, cond-true, cond-false}
use Rattle.assignment_costs.specs.declared.costs.Costs.{Costs}
use Rattle.assignment_search.specs.declared.tree.Matching.{Matching}
use Rattle.assignment_search.specs.declared.tree.Prices.{Prices}
use Rattle.assignment_search.specs.declared.tree.Tree.{Tree}
use Rattle.assignment_costs.specs.Costs.{cost_at}
use Rattle.assignment_search.specs.Search.{val, mate, rank_of}
use Rattle.assignment_search.specs.Trees.{Matched, Fair, Held, Found}
use Rattle.assignment_search.specs.Paths.{gap_of, rise_of, Settled, Route, Switched}

-- the gap of a board outside the tree, and of one inside it
gap_outside : (t : Tree) (far y : ℕ) → rank_of t y ≡ 0 → gap_of t far y ≡ 0
gap_outside t far y z = cond-true (eqb (rank_of t y) 0) 0 (far - val t.distance y) (eq-eqb (rank_of t y) 0 z)

gap_inside : (t : Tree) (far y : ℕ) → 0 < rank_of t y → gap_of t far y ≡ far - val t.distance y
gap_inside t far y i = cond-false (eqb (rank_of t y) 0) 0 (far - val t.distance y) (ne_eqb (rank_of t y) 0 (λ z. omega arith))

rise_named : (m : Matching) (t : Tree) (far x : ℕ) → mate m.naming x < 16 → rise_of m t far x ≡ gap_of t far (mate m.naming x)
rise_named m t far x l = cond-true (ltb (mate m.naming x) 16) (gap_of t far (mate m.naming x)) 0 (lt-ltb (mate m.naming x) 16 l)

rise_unnamed : (m : Matching) (t : Tree) (far x : ℕ) → mate m.naming x ≡ 16 → rise_of m t far x ≡ 0
rise_unnamed m t far x e = cond-false (ltb (mate m.naming x) 16) (gap_of t far (mate m.naming x)) 0 (le-ltb (mate m.naming x) 16 (omega arith))

module _
    (c : Costs) (p q : Prices) (m : Matching) (root : ℕ) (t : Tree) (e : ℕ)
    (low : root < c.boards) (known : Matched c.boards root m 16) (fair : Fair c p m) (held : Held c p m 16)
    (f : Found c p m root t e) (s : Settled c.boards m root t (val t.distance e) p q) where
  abbrev far : ℕ
  far = val t.distance e

  root_rise : val q.roles root ≡ val p.roles root + far
  root_rise = omega (arith, s.root_role, rise_unnamed m t far root (known.unnamed root (omega arith) low))

  -- what a way of length d, from a role that rises to far, leaves at board y
  leaves : (u d x y : ℕ) → y < c.boards → d ≤ far → val t.distance y + u ≤ d + cost_at c x y + val p.discounts y → u + (far - d) ≤ cost_at c x y + val q.discounts y
  leaves u d x y l k h =
      elim (cases_lt 0 (rank_of t y)) [
        | inl i ↦ omega (arith, s.boards y l, gap_inside t far y i, f.rooted.inside y l i)
        | inr z ↦ omega (arith, s.boards y l, f.rooted.outside y l (omega arith))
      ]

  feasible_more : (x y : ℕ) → x < c.boards → y < c.boards → val q.roles x ≤ cost_at c x y + val q.discounts y
  feasible_more x y a b =
      elim (cases_eq x root) [
        | inl o ↦
            subst (λ z. val q.roles z ≤ cost_at c z y + val q.discounts y) (sym o)
            (omega (arith, root_rise, leaves (val p.roles root) 0 root y b (omega arith) (omega (arith, f.rooted.short_root y b))))
        | inr d ↦
            (let up = s.roles x a d in
            elim (cases_lt x root) [
              | inl l ↦
                  (let named : mate m.naming x < c.boards = known.named x l in
                  let rise : rise_of m t far x ≡ gap_of t far (mate m.naming x) = rise_named m t far x (omega (arith, c.most)) in
                  elim (cases_lt 0 (rank_of t (mate m.naming x))) [
                    | inl i ↦
                        omega (
                          arith,
                          up,
                          rise,
                          gap_inside t far (mate m.naming x) i,
                          leaves (val p.roles x) (val t.distance (mate m.naming x)) x y b (f.rooted.inside (mate m.naming x) named i)
                              (f.rooted.short x y a b named i),
                        )
                    | inr z ↦ omega (arith, up, rise, gap_outside t far (mate m.naming x) (omega arith), fair.feasible x y a b, s.boards y b)
                  ])
              | inr l ↦ omega (arith, up, rise_unnamed m t far x (known.unnamed x l a), fair.feasible x y a b, s.boards y b)
            ])
      ]

  free_more : (y : ℕ) → y < c.boards → 16 ≤ mate m.owner y → val q.discounts y ≡ 0
  free_more y l h =
      elim (cases_lt 0 (rank_of t y)) [
        | inl i ↦
            elim (f.held y l i) [
              | inl o ↦ omega (arith, s.boards y l, gap_inside t far y i, ap (val t.distance) o, fair.free y l h)
              | inr k ↦ absurd (omega arith)
            ]
        | inr z ↦ omega (arith, s.boards y l, gap_outside t far y (omega arith), fair.free y l h)
      ]

  held_more : Held c q m 16
  held_more y l d h =
      let own = known.forth y l d h in
      let other : mate m.owner y ≡ root → ⊥ = λ z. omega (arith, c.most, own.1, ap (mate m.naming) z, known.unnamed root (omega arith) low) in
      let rise : rise_of m t far (mate m.owner y) ≡ gap_of t far y = rise_named m t far (mate m.owner y) (omega (arith, c.most, own.1)) ∙ ap (gap_of t far) own.1 in
      omega (arith, s.roles (mate m.owner y) own.0 other, s.boards y l, rise, held y l d h)

  low_roles_more : (x : ℕ) → x < c.boards → val q.roles x ≤ 2 ^ 44
  low_roles_more x l = omega (arith, feasible_more x e l f.end, free_more e f.end f.free, c.capped (x * 16 + e))

  low_boards_more : (y : ℕ) → y < c.boards → val q.discounts y ≤ 2 ^ 44
  low_boards_more y l =
      elim (cases_lt (mate m.owner y) 16) [
        | inl h ↦
            (let in_table : y ≡ 16 → ⊥ = λ z. omega (arith, c.most) in
            omega (arith, held_more y l in_table h, low_roles_more (mate m.owner y) (known.forth y l in_table h).0))
        | inr h ↦ omega (arith, free_more y l h)
      ]

  -- the prices are tight along the tree's ways
  tight_way : (y : ℕ) → y < c.boards → 0 < rank_of t y → val q.roles (val t.way y) ≡ cost_at c (val t.way y) y + val q.discounts y
  tight_way y l i =
      let fall = f.rooted.inside y l i in
      elim (f.rooted.from y l) [
        | inl o ↦
            subst (λ z. val q.roles z ≡ cost_at c z y + val q.discounts y) (sym o.0)
            (omega (arith, root_rise, s.boards y l, gap_inside t far y i, o.1, fall))
        | inr w ↦
            (let other : val t.way y ≡ root → ⊥ = λ z. omega (arith, c.most, w.named, ap (mate m.naming) z, known.unnamed root (omega arith) low) in
            omega (
              arith,
              s.roles (val t.way y) w.below other,
              rise_named m t far (val t.way y) (omega (arith, c.most, w.named)),
              gap_inside t far (mate m.naming (val t.way y)) w.inside,
              f.rooted.inside (mate m.naming (val t.way y)) w.named w.inside,
              s.boards y l,
              gap_inside t far y i,
              w.length,
              fall,
            ))
      ]

  -- what the next role starts from
  module _ (k : Matching) (w : Switched c.boards m root t k) where
    pub fair_next : Fair c q k
    fair_next =
        record {
          feasible = feasible_more;
          free = λ y l h. free_more y l (w.freed y l (λ z. omega (arith, c.most)) h);
          low_roles = low_roles_more;
          low_boards = low_boards_more;
        }

    pub held_next : Held c q k 16
    held_next y l d h =
        elim (w.pairs y l d h) [
          | inl o ↦ subst (λ z. val q.roles z ≡ cost_at c z y + val q.discounts y) (sym o) (held_more y l d (omega (arith, o)))
          | inr o ↦ subst (λ z. val q.roles z ≡ cost_at c z y + val q.discounts y) (sym o.0) (tight_way y l o.1)
        ]

-- the path of a tree whose end nobody holds
pub route : (c : Costs) (p : Prices) (m : Matching) (root : ℕ) (t : Tree) (e : ℕ) → Found c p m root t e → Route c.boards m root t e
route c p m root t e f =
    record {
      end = f.end;
      free = f.free;
      inside = f.end_inside;
      steps = λ y l i.
          elim (f.rooted.from y l) [
            | inl o ↦ inl o.0
            | inr w ↦
                inr (record {
                  below = w.below;
                  named = w.named;
                  inside = w.inside;
                  earlier = elim w.earlier [ inl z ↦ absurd (omega arith) | inr k ↦ k ];
                })
          ];
    }
