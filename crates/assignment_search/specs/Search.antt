-- What the search for a least naming keeps true. Assumes nothing.
--     val xs k        the entry of a table at k
--     mate xs k       the number in a table of Options at k, 16 for None
--     IsBelow xs      the numbers in a table of Options are below 16
--     rank_of t y     the step at which board y joined the tree, counted from 1, and 0 for a board outside it
--     IsPartial       some board is outside the tree
--     Nearest         a board outside the tree that no other one there is nearer than
--     Offered         a board of the tree after it may be reached from one more role
--     Relaxed         the tree after every board outside it may be reached from one more role
use Rattle.std.specs.Prelude.{◌≡◌, ℕ, ◌+◌, ◌<◌, ◌≤◌, ◌⊎◌, List, Some, None, Option, ◌≢◌, slice_index, slice_index_or, unwrap_or}
use Rattle.assignment_costs.specs.declared.costs.Costs.{Costs}
use Rattle.assignment_search.specs.declared.tree.Prices.{Prices}
use Rattle.assignment_search.specs.declared.tree.Tree.{Tree}
use Rattle.assignment_costs.specs.Costs.{cost_at}

abbrev pub val : List ℕ → ℕ → ℕ
val xs k = slice_index xs k

abbrev pub mate : List (Option ℕ) → ℕ → ℕ
mate xs k = unwrap_or (slice_index_or xs k None) 16

abbrev pub IsBelow : List (Option ℕ) → Type 0
IsBelow xs = (k x : ℕ) → slice_index_or xs k None ≡ Some x → x < 16

abbrev pub count_of : Option ℕ → ℕ
count_of None = 0
count_of (Some k) = k + 1

abbrev pub rank_of : Tree → ℕ → ℕ
rank_of t y = count_of (slice_index_or t.joined y None)

-- board y is offered a way of length r from role x
pub record Offered (t : Tree) (y x r : ℕ) (s : Tree) : Type 0 where
  pub joined : s.joined ≡ t.joined
  pub here :
      ((val s.way y ≡ x) × (val s.distance y ≡ r) × (r ≤ val t.distance y))
      ⊎ ((val s.way y ≡ val t.way y) × (val s.distance y ≡ val t.distance y) × (val t.distance y ≤ r))
  pub others : (k : ℕ) → (k ≢ y) → (val s.distance k ≡ val t.distance k) × (val s.way k ≡ val t.way k)

-- board y after an offer from role x at distance d, if it is outside the tree
pub record Better (c : Costs) (p : Prices) (x d : ℕ) (t s : Tree) (y : ℕ) : Type 0 where
  pub inside : 0 < rank_of t y → (val s.distance y ≡ val t.distance y) × (val s.way y ≡ val t.way y)
  pub outside : rank_of t y ≡ 0
      → ((val s.way y ≡ x) × (val s.distance y + val p.roles x ≡ d + cost_at c x y + val p.discounts y) × (val s.distance y ≤ val t.distance y))
      ⊎ ((val s.way y ≡ val t.way y) × (val s.distance y ≡ val t.distance y) × (val t.distance y + val p.roles x ≤ d + cost_at c x y + val p.discounts y))

pub record Relaxed (c : Costs) (p : Prices) (x d : ℕ) (t s : Tree) : Type 0 where
  pub joined : s.joined ≡ t.joined
  pub boards : (y : ℕ) → y < c.boards → Better c p x d t s y

-- the first boards of a table have been seen, and the others are as they were
pub record Relaxing (c : Costs) (p : Prices) (x d : ℕ) (t s : Tree) (k : ℕ) : Type 0 where
  pub joined : s.joined ≡ t.joined
  pub seen : (y : ℕ) → y < k → Better c p x d t s y
  pub unseen : (y : ℕ) → k ≤ y → (val s.distance y ≡ val t.distance y) × (val s.way y ≡ val t.way y)

abbrev pub IsPartial : ℕ → Tree → Type 0
IsPartial n t = ((y : ℕ) → y < n → 0 < rank_of t y) → ⊥

pub record Nearest (n : ℕ) (t : Tree) (e : ℕ) : Type 0 where
  pub below : e < n
  pub outside : rank_of t e ≡ 0
  pub least : (y : ℕ) → y < n → rank_of t y ≡ 0 → val t.distance e ≤ val t.distance y

-- the tree of one root alone
pub record Planted (c : Costs) (p : Prices) (x : ℕ) (t : Tree) : Type 0 where
  pub rank : (y : ℕ) → rank_of t y ≡ 0
  pub way : (y : ℕ) → y < 16 → val t.way y ≡ x
  pub distance : (y : ℕ) → y < c.boards → val t.distance y + val p.roles x ≡ cost_at c x y + val p.discounts y
