-- What the search for a least naming keeps true from role to role and from step to step. Assumes nothing.
--     Matched n root m hole    roles below root have boards, each held by its role alone; others have none.
--                              Board hole is left out: no role has it, whoever its table entry names (16: no board is left out)
--     Fair c p m               the prices are feasible and low, and a free board has no discount
--     Held c p m hole          prices are tight where a role holds a board, board hole left out
--     Rooted c p m root t e    the distances of tree t are those of shortest paths from root, and e is none of its nearer boards
--     Full c p m               the search is done: every role has a board
--     Found                    a tree whose path is at its end
--     Grown                    a tree in growth, with its next board and its next step
use Rattle.std.specs.Prelude.{◌≡◌, ℕ, ◌+◌, ◌^◌, ◌<◌, ◌≤◌, cond, ◌⊎◌, ◌==◌, ◌≢◌}
use Rattle.assignment_laws.specs.Namings.{total}
use Rattle.assignment_costs.specs.declared.costs.Costs.{Costs}
use Rattle.assignment_search.specs.declared.tree.Matching.{Matching}
use Rattle.assignment_search.specs.declared.tree.Prices.{Prices}
use Rattle.assignment_search.specs.declared.tree.Tree.{Tree}
use Rattle.assignment_costs.specs.Costs.{cost_at}
use Rattle.assignment_search.specs.Search.{val, mate, rank_of}

pub record Matched (n root : ℕ) (m : Matching) (hole : ℕ) : Type 0 where
  pub named : (x : ℕ) → x < root → mate m.naming x < n
  pub unnamed : (x : ℕ) → root ≤ x → x < n → mate m.naming x ≡ 16
  pub back : (x : ℕ) → x < n → mate m.naming x < n → (mate m.owner (mate m.naming x) ≡ x) × (mate m.naming x ≢ hole)
  pub forth : (y : ℕ) → y < n → (y ≢ hole) → mate m.owner y < 16 → (mate m.owner y < n) × (mate m.naming (mate m.owner y) ≡ y)

pub record Fair (c : Costs) (p : Prices) (m : Matching) : Type 0 where
  pub feasible : (x y : ℕ) → x < c.boards → y < c.boards → val p.roles x ≤ cost_at c x y + val p.discounts y
  pub free : (y : ℕ) → y < c.boards → 16 ≤ mate m.owner y → val p.discounts y ≡ 0
  pub low_roles : (x : ℕ) → x < c.boards → val p.roles x ≤ 2 ^ 44
  pub low_boards : (y : ℕ) → y < c.boards → val p.discounts y ≤ 2 ^ 44

abbrev pub Held : Costs → Prices → Matching → ℕ → Type 0
Held c p m hole =
    (y : ℕ) → y < c.boards → (y ≢ hole) → mate m.owner y < 16
    → val p.roles (mate m.owner y) ≡ cost_at c (mate m.owner y) y + val p.discounts y

-- role x reaches board y, the role's own board being at a lower rank and the path as long as the distance says
pub record From (c : Costs) (p : Prices) (m : Matching) (t : Tree) (y x : ℕ) : Type 0 where
  pub below : x < c.boards
  pub named : mate m.naming x < c.boards
  pub inside : 0 < rank_of t (mate m.naming x)
  pub earlier : (rank_of t y ≡ 0) ⊎ (rank_of t (mate m.naming x) < rank_of t y)
  pub length : val t.distance y + val p.roles x ≡ val t.distance (mate m.naming x) + cost_at c x y + val p.discounts y

pub record Rooted (c : Costs) (p : Prices) (m : Matching) (root : ℕ) (t : Tree) (e : ℕ) : Type 0 where
  pub short_root : (y : ℕ) → y < c.boards → val t.distance y + val p.roles root ≤ cost_at c root y + val p.discounts y
  pub short : (x y : ℕ) → x < c.boards → y < c.boards → mate m.naming x < c.boards → 0 < rank_of t (mate m.naming x)
      → val t.distance y + val p.roles x ≤ val t.distance (mate m.naming x) + cost_at c x y + val p.discounts y
  pub from : (y : ℕ) → y < c.boards
      → ((val t.way y ≡ root) × (val t.distance y + val p.roles root ≡ cost_at c root y + val p.discounts y))
      ⊎ From c p m t y (val t.way y)
  pub inside : (y : ℕ) → y < c.boards → 0 < rank_of t y → val t.distance y ≤ val t.distance e
  pub outside : (y : ℕ) → y < c.boards → rank_of t y ≡ 0 → val t.distance e ≤ val t.distance y

-- how many of n boards are outside the tree
abbrev pub unused : Tree → ℕ → ℕ
unused t n = total (λ y. cond (rank_of t y == 0) 1 0) n

pub record Grown (c : Costs) (p : Prices) (m : Matching) (root : ℕ) (t : Tree) (e step : ℕ) : Type 0 where
  pub end : e < c.boards
  pub end_outside : rank_of t e ≡ 0
  pub rooted : Rooted c p m root t e
  pub ranks : (y : ℕ) → y < c.boards → rank_of t y < step
  pub held : (y : ℕ) → y < c.boards → 0 < rank_of t y → mate m.owner y < 16
  pub count : unused t c.boards + step ≡ c.boards + 1
  pub beyond : (y : ℕ) → c.boards ≤ y → rank_of t y ≡ 0

-- board b has joined the tree at a step
pub record Joined (t : Tree) (b step : ℕ) (s : Tree) : Type 0 where
  pub here : rank_of s b ≡ step
  pub others : (k : ℕ) → (k ≢ b) → rank_of s k ≡ rank_of t k
  pub distance : s.distance ≡ t.distance
  pub way : s.way ≡ t.way

-- board e, which nobody holds, is the last to have joined the tree
pub record Found (c : Costs) (p : Prices) (m : Matching) (root : ℕ) (t : Tree) (e : ℕ) : Type 0 where
  pub end : e < c.boards
  pub free : 16 ≤ mate m.owner e
  pub end_inside : 0 < rank_of t e
  pub rooted : Rooted c p m root t e
  pub held : (y : ℕ) → y < c.boards → 0 < rank_of t y → (y ≡ e) ⊎ (mate m.owner y < 16)

-- every role has a board, and the prices are fair and tight
pub record Full (c : Costs) (p : Prices) (m : Matching) : Type 0 where
  pub matched : Matched c.boards c.boards m 16
  pub fair : Fair c p m
  pub held : Held c p m 16
