-- Where a list is wrong, its entries being of any one type. Assumes nothing.
--     RuleOf A           may k before here: whether `here` may stand at index k right after the entry `before`;
--                        the end of a list counts as its last entry, None, and None stands before the first
--     Rule               a rule of lists of numbers
--     first_wrong may xs the first index whose entry the rule forbids, if any
--     Legal may xs       no entry of xs is forbidden
--     Agree xs ys i      xs and ys have the same entries up to index i, ends included
--     WrongAt may xs i   no legal list agrees with xs up to i, and up to each earlier index some legal list does
--     Completes may      whatever may stand can be followed to the end of a legal list
--     WrongListsOf A    of a rule that completes, first_wrong gives exactly the index at which a list is wrong
--     WrongLists        the same of lists of numbers
use Rattle.std.specs.Prelude.{◌≡◌, ℕ, ◌+◌, ◌<◌, ◌≤◌, Bool, true, cond, List, [], ◌∷◌, Some, None, Option}
use Rattle.std.specs.List.{slice_get}

abbrev pub RuleOf : Type 0 → Type 0
RuleOf A = ℕ → Option A → Option A → Bool

abbrev pub Rule : Type 0
Rule = RuleOf ℕ

-- the first forbidden index of what follows the entry `before`, k being the next index
abbrev pub wrong_from : {A : Type 0} → RuleOf A → ℕ → Option A → List A → Option ℕ
wrong_from may k before [] = cond (may k before None) None (Some k)
wrong_from may k before (x ∷ xs) = cond (may k before (Some x)) (wrong_from may (k + 1) (Some x) xs) (Some k)

abbrev pub first_wrong : {A : Type 0} → RuleOf A → List A → Option ℕ
first_wrong may xs = wrong_from may 0 None xs

abbrev pub Legal : {A : Type 0} → RuleOf A → List A → Type 0
Legal may xs = first_wrong may xs ≡ None

abbrev pub Agree : {A : Type 0} → List A → List A → ℕ → Type 0
Agree xs ys i = (k : ℕ) → k ≤ i → slice_get xs k ≡ slice_get ys k

pub record WrongAt {A : Type 0} (may : RuleOf A) (xs : List A) (i : ℕ) : Type 0 where
  pub none : (ys : List A) → Legal may ys → Agree xs ys i → ⊥
  pub earlier : (j : ℕ) → j < i → (ys : List A) × Legal may ys × Agree xs ys j

abbrev pub Completes : {A : Type 0} → RuleOf A → Type 0
Completes {A} may =
    (k : ℕ) (before : Option A) (x : A) → may k before (Some x) ≡ true → (ys : List A) × (wrong_from may (k + 1) (Some x) ys ≡ None)

abbrev pub WrongListsOf : Type 0 → Type 0
WrongListsOf A = (may : RuleOf A) → Completes may → (xs : List A) (i : ℕ) → first_wrong may xs ≡ Some i → WrongAt may xs i

abbrev pub WrongLists : Type 0
WrongLists = WrongListsOf ℕ
