-- Index notation without derivatives by variables and by functions
use Rattle.std.specs.Prelude.{◌≡◌, ℕ, suc, ◌≤◌, ◌==◌, List, [], ◌∷◌, if◌then◌else◌}
use Rattle.ufl_tree.specs.declared.function.Ix.{Ix}
use Rattle.ufl_tree.specs.declared.function.Ix.TheVariants.{Named}
use Rattle.ufl_tree.specs.declared.function.Role.{Role}
use Rattle.lower.specs.Keeping.{IsBelow}
use Rattle.ufl_tree.specs.Indices.{Names, index_value}
use Rattle.lower.specs.Renaming.{zero_term, unit_term, Renaming, with_index, renamed, all_renamed}
use Rattle.ufl_tree.specs.Term.{Term, num, fun, mark, neg, sum, prod, over, dx, delta, pick, raise, turn, Terms, no_terms, term}
use Rattle.ufl_meaning.specs.Environment.{same_role}

-- 1 where both components are the same
abbrev pub deltas : List Ix → List Ix → Term
deltas [] [] = unit_term
deltas (i ∷ is) (j ∷ js) = prod (delta i j) (deltas is js)
deltas _ _ = zero_term

-- ---- derivatives of trees that have none: by component `at` of the variable l; by the function of role w in the direction d
abbrev mutual
  pub by_variable : ℕ → List Ix → Term → Term
  by_variable l at (num c) = zero_term
  by_variable l at (fun f b) = zero_term
  by_variable l at (mark m b e) = sum (by_variable l at e) (if m == l then deltas b at else zero_term)
  by_variable l at (neg a) = neg (by_variable l at a)
  by_variable l at (sum a b) = sum (by_variable l at a) (by_variable l at b)
  by_variable l at (prod a b) = sum (prod (by_variable l at a) b) (prod a (by_variable l at b))
  by_variable l at (over i n b) = over i n (by_variable l at b)
  by_variable l at (dx i b) = dx i (by_variable l at b)
  by_variable l at (delta i j) = zero_term
  by_variable l at (pick i ts) = pick i (all_by_variable l at ts)
  by_variable l at (raise m b e) = zero_term
  by_variable l at (turn f g e) = zero_term

  pub all_by_variable : ℕ → List Ix → Terms → Terms
  all_by_variable l at no_terms = no_terms
  all_by_variable l at (term t ts) = term (by_variable l at t) (all_by_variable l at ts)

abbrev mutual
  pub linear : Role → Role → Term → Term
  linear w d (num c) = zero_term
  linear w d (fun f b) = if same_role f.role w then fun (record { role = d; element = f.element }) b else zero_term
  linear w d (mark m b e) = linear w d e
  linear w d (neg a) = neg (linear w d a)
  linear w d (sum a b) = sum (linear w d a) (linear w d b)
  linear w d (prod a b) = sum (prod (linear w d a) b) (prod a (linear w d b))
  linear w d (over i n b) = over i n (linear w d b)
  linear w d (dx i b) = dx i (linear w d b)
  linear w d (delta i j) = zero_term
  linear w d (pick i ts) = pick i (all_linear w d ts)
  linear w d (raise m b e) = zero_term
  linear w d (turn f g e) = zero_term

  pub all_linear : Role → Role → Terms → Terms
  all_linear w d no_terms = no_terms
  all_linear w d (term t ts) = term (linear w d t) (all_linear w d ts)

-- ---- a tree
-- each sum takes the next name: n is the least that isn't in use
abbrev mutual
  pub expand : Term → Renaming → ℕ → Term
  expand (num c) r n = num c
  expand (fun f b) r n = fun f (all_renamed r b)
  expand (mark m b e) r n = mark m (all_renamed r b) (expand e r n)
  expand (neg a) r n = neg (expand a r n)
  expand (sum a b) r n = sum (expand a r n) (expand b r n)
  expand (prod a b) r n = prod (expand a r n) (expand b r n)
  expand (over i d b) r n = over n d (expand b (with_index i (Named n) r) (suc n))
  expand (dx i b) r n = dx (renamed r i) (expand b r n)
  expand (delta i j) r n = delta (renamed r i) (renamed r j)
  expand (pick i ts) r n = pick (renamed r i) (expand_all ts r n)
  expand (raise l at e) r n = by_variable l (all_renamed r at) (expand e r n)
  expand (turn f g e) r n = linear f.role g.role (expand e r n)

  pub expand_all : Terms → Renaming → ℕ → Terms
  expand_all no_terms r n = no_terms
  expand_all (term t ts) r n = term (expand t r n) (expand_all ts r n)

-- ---- what it gives
abbrev mutual
  -- without derivatives, and its sums have names at or above n
  pub IsReady : ℕ → Term → Type 0
  IsReady n (num c) = Unit {0}
  IsReady n (fun f b) = Unit {0}
  IsReady n (mark m b e) = IsReady n e
  IsReady n (neg a) = IsReady n a
  IsReady n (sum a b) = IsReady n a × IsReady n b
  IsReady n (prod a b) = IsReady n a × IsReady n b
  IsReady n (over i d b) = (n ≤ i) × IsReady n b
  IsReady n (dx i b) = IsReady n b
  IsReady n (delta i j) = Unit {0}
  IsReady n (pick i ts) = AreReady n ts
  IsReady n (raise l at e) = ⊥
  IsReady n (turn f g e) = ⊥

  pub AreReady : ℕ → Terms → Type 0
  AreReady n no_terms = Unit {0}
  AreReady n (term t ts) = IsReady n t × AreReady n ts

-- ---- names of a tree and what stands for them
-- the names of w have in v the values of what stands for them, and that is below n
pub record Stands (n : ℕ) (w v : Names) (r : Renaming) : Type 0 where
  pub agrees : (i : ℕ) → w i ≡ index_value v (r i)
  pub below : (i : ℕ) → IsBelow n (r i)
