-- What is done with a shortest path once it is found. Assumes nothing.
--     gap t far b          how much nearer than far a board of the tree is
--     Settled              prices after the path: the tree's roles and boards rise by their gaps, the root by all of far
--     Route n m root t e   the path leads from board e back to the root, each board at a lower rank
--     Switched             every board on the path is held by the role from which it was reached
use Rattle.std.specs.Prelude.{◌≡◌, ℕ, ◌+◌, ◌-◌, ◌<◌, ◌≤◌, cond, ◌⊎◌, ◌==◌, ◌≢◌, nat_lt}
use Rattle.assignment_search.specs.declared.tree.Matching.{Matching}
use Rattle.assignment_search.specs.declared.tree.Prices.{Prices}
use Rattle.assignment_search.specs.declared.tree.Tree.{Tree}
use Rattle.assignment_search.specs.Search.{val, mate, rank_of}
use Rattle.assignment_search.specs.Trees.{Matched}

abbrev pub gap_of : Tree → ℕ → ℕ → ℕ
gap_of t far b = cond (rank_of t b == 0) 0 (far - val t.distance b)

-- a role rises as its board does
abbrev pub rise_of : Matching → Tree → ℕ → ℕ → ℕ
rise_of m t far x = cond (nat_lt (mate m.naming x) 16) (gap_of t far (mate m.naming x)) 0

pub record Settled (n : ℕ) (m : Matching) (root : ℕ) (t : Tree) (far : ℕ) (p q : Prices) : Type 0 where
  pub root_role : val q.roles root ≡ val p.roles root + rise_of m t far root + far
  pub roles : (x : ℕ) → x < n → (x ≢ root) → val q.roles x ≡ val p.roles x + rise_of m t far x
  pub boards : (y : ℕ) → y < n → val q.discounts y ≡ val p.discounts y + gap_of t far y

-- role x is one board nearer to the root than board y
pub record Nearer (n : ℕ) (m : Matching) (t : Tree) (y x : ℕ) : Type 0 where
  pub below : x < n
  pub named : mate m.naming x < n
  pub inside : 0 < rank_of t (mate m.naming x)
  pub earlier : rank_of t (mate m.naming x) < rank_of t y

pub record Route (n : ℕ) (m : Matching) (root : ℕ) (t : Tree) (e : ℕ) : Type 0 where
  pub end : e < n
  pub free : 16 ≤ mate m.owner e
  pub inside : 0 < rank_of t e
  pub steps : (y : ℕ) → y < n → 0 < rank_of t y → (val t.way y ≡ root) ⊎ Nearer n m t y (val t.way y)

-- whoever holds a board held it before, or is the role from which the tree reaches it
abbrev pub Pairs : ℕ → Matching → Tree → Matching → ℕ → Type 0
Pairs n m t k hole =
    (y : ℕ) → y < n → (y ≢ hole) → mate k.owner y < 16
    → (mate k.owner y ≡ mate m.owner y) ⊎ ((mate k.owner y ≡ val t.way y) × (0 < rank_of t y))

-- a board that is free was free before
abbrev pub Freed : ℕ → Matching → Matching → ℕ → Type 0
Freed n m k hole = (y : ℕ) → y < n → (y ≢ hole) → 16 ≤ mate k.owner y → 16 ≤ mate m.owner y

pub record Switched (n : ℕ) (m : Matching) (root : ℕ) (t : Tree) (k : Matching) : Type 0 where
  pub matched : Matched n (root + 1) k 16
  pub pairs : Pairs n m t k 16
  pub freed : Freed n m k 16

-- the path is switched from its end up to board b, which waits for its new role
pub record Switching (n : ℕ) (m : Matching) (root : ℕ) (t : Tree) (k : Matching) (b : ℕ) : Type 0 where
  pub board : b < n
  pub inside : 0 < rank_of t b
  pub matched : Matched n root k b
  pub pairs : Pairs n m t k b
  pub freed : Freed n m k b
  pub kept : (x : ℕ) → x < n → mate m.naming x < n → rank_of t (mate m.naming x) < rank_of t b → mate k.naming x ≡ mate m.naming x

-- role x has taken board b
pub record Given (m : Matching) (x b : ℕ) (k : Matching) : Type 0 where
  pub owner : mate k.owner b ≡ x
  pub naming : mate k.naming x ≡ b
  pub owners : (y : ℕ) → (y ≢ b) → mate k.owner y ≡ mate m.owner y
  pub names : (z : ℕ) → (z ≢ x) → mate k.naming z ≡ mate m.naming z
