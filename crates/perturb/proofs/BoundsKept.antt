-- What bounds a plain tree bounds the tree that `expand` makes of it
use Rattle.std.proofs.Common.{◌≡◌, ℕ, suc, ◌+◌, ◌≤◌, ◌==◌, max, Bool, true, false, List, [], ◌∷◌, length, if◌then◌else◌, refl, ap, arith}
use native.Mathlib.Nat as N
use Rattle.ufl_tree.specs.declared.function.Function.{Function}
use Rattle.ufl_tree.specs.declared.function.Role.{Role}
use Rattle.ufl_tree.specs.declared.function.Ix.{Ix}
use Rattle.ufl_tree.specs.declared.function.Ix.TheVariants.{Named}
use Rattle.ufl_tree.specs.Places.{Table}
use Rattle.ufl_meaning.specs.Environment.{same_role}
use Rattle.ufl_tree.specs.Term.{Term, num, fun, mark, neg, sum, prod, over, dx, delta, pick, raise, turn, Terms, no_terms, term}
use Rattle.monos.specs.declared.weight.Weight.{Weight}
use Rattle.weigh.specs.Bounds.{Bounds, IsSound}
use Rattle.weigh.specs.Steps.{one_step, times_step, join_step, plus_step, index_step, space_step, linear_step, label_step}
use Rattle.weigh.specs.Terms.{function_directions, term_directions, items_directions, term_weight, items_weight}
use Rattle.perturb.specs.Expanding.{deltas, by_variable, all_by_variable, linear, all_linear, expand, expand_all}
use Rattle.lower.specs.Renaming.{zero_term, Renaming, with_index, all_renamed}
use Rattle.weigh.proofs.SoundLaws.{leaf_sound, times_sound, plus_sound, join_sound, index_sound, space_sound, linear_sound}
use Rattle.weigh.proofs.BoundsLaws.{bounds_refl, bounds_trans, times_bounds, plus_bounds, join_bounds, index_bounds, space_bounds, linear_bounds, label_bounds, max_even, sum_even}
use Rattle.perturb.proofs.LinearLaws.{units, units_bounds, linear_one_bounds, linear_both, linear_times, linear_label, linear_index, linear_space, label_more, linear_more}
use Rattle.weigh.proofs.TermLaws.{directions_positive, term_sound, items_sound}

-- ---- one step of a derivative: the operands' bounds give the node's
module _ (a x : Weight) (p : IsSound a) (q : IsSound x) (h : Bounds (linear_step a) x) where
  index_through : (n : ℕ) → Bounds (linear_step (index_step n a)) (index_step n x)
  index_through n =
      bounds_trans _ (index_step n (linear_step a)) _ (index_sound n (linear_step a) (linear_sound a p)).den
      (linear_index n a) (index_bounds n n (N.le_refl n) (linear_step a) x h)

  space_through : (d m : ℕ) → 1 ≤ m → m ≤ d → Bounds (linear_step (space_step d a)) (space_step m x)
  space_through d m k j =
      bounds_trans _ (space_step d (linear_step a)) _ (space_sound d (N.le_trans k j) (linear_step a) (linear_sound a p)).den
      (linear_space d a) (space_bounds d m j (linear_step a) x h)

  label_through : (n : ℕ) (u : Weight) → Bounds (units (n + 1)) u → Bounds (linear_step (label_step n a)) (plus_step x u)
  label_through n u k =
      bounds_trans _ (plus_step (linear_step a) (units (n + 1))) _ (plus_sound (linear_step a) (units (n + 1)) (linear_sound a p) (leaf_sound 0 (n + 1) 1 1 (omega arith) (omega arith) (omega arith) (omega arith))).den
      (linear_label n a p) (plus_bounds (linear_step a) x (units (n + 1)) u q h k)

  -- the label is another one, or gone
  label_drops : (n : ℕ) → Bounds (linear_step (label_step n a)) x
  label_drops n = bounds_trans _ (linear_step a) _ p.den (linear_bounds (label_step n a) a (label_more n a)) h

module _ (a x b y : Weight) (p : IsSound a) (q : IsSound x) (r : IsSound b) (s : IsSound y) (h : Bounds (linear_step a) x) (k : Bounds (linear_step b) y) where
  plus_through : Bounds (linear_step (plus_step a b)) (plus_step x y)
  plus_through =
      bounds_trans _ (plus_step (linear_step a) (linear_step b)) _ (plus_sound (linear_step a) (linear_step b) (linear_sound a p) (linear_sound b r)).den
      (linear_both (λ m n. m + n) sum_even a b) (plus_bounds (linear_step a) x (linear_step b) y q h k)

  join_through : Bounds (linear_step (join_step a b)) (join_step x y)
  join_through =
      bounds_trans _ (join_step (linear_step a) (linear_step b)) _ (join_sound (linear_step a) (linear_step b) (linear_sound a p) (linear_sound b r)).den
      (linear_both max max_even a b) (join_bounds (linear_step a) x (linear_step b) y q h k)

  times_through : Bounds (linear_step (times_step a b)) (plus_step (times_step x b) (times_step a y))
  times_through =
      bounds_trans _ (plus_step (times_step (linear_step a) b) (times_step a (linear_step b))) _
      (plus_sound (times_step (linear_step a) b) (times_step a (linear_step b)) (times_sound (linear_step a) b (linear_sound a p) r) (times_sound a (linear_step b) p (linear_sound b r))).den
      (linear_times a b p r)
      (plus_bounds (times_step (linear_step a) b) (times_step x b) (times_step a (linear_step b)) (times_step a y) (times_sound x b q r)
      (times_bounds (linear_step a) x b b h (bounds_refl b)) (times_bounds a a (linear_step b) y (bounds_refl a) k))

-- ---- how many directions
most : (a b x y : ℕ) → x ≤ a → y ≤ b → max x y ≤ max a b
most a b x y h k = omega (arith, h, k)

both_most : (a b x y : ℕ) → x ≤ a → y ≤ b → max (max x b) (max a y) ≤ max a b
both_most a b x y h k = omega (arith, h, k)

module _ (elements : Table) where
  deltas_directions : (b at : List Ix) → term_directions elements (deltas b at) ≤ 1
  deltas_directions [] [] = N.le_refl 1
  deltas_directions (i ∷ is) (j ∷ js) = let h = deltas_directions is js in omega (arith, h)
  deltas_directions [] (j ∷ js) = N.le_refl 1
  deltas_directions (i ∷ is) [] = N.le_refl 1

  -- a product of symbols has as many factors as indices, and one more
  deltas_bounds : (b at : List Ix) → Bounds (units (length b + 1)) (term_weight elements (deltas b at))
  deltas_bounds [] [] = units_bounds (length {A = Ix} [] + 1) 1 (omega arith)
  deltas_bounds (i ∷ is) (j ∷ js) =
      bounds_trans _ (times_step one_step (units (length is + 1))) _ (omega arith) again
      (times_bounds one_step one_step (units (length is + 1)) (term_weight elements (deltas is js)) (bounds_refl one_step) (deltas_bounds is js))
    where
      again : Bounds (units (length (i ∷ is) + 1)) (times_step one_step (units (length is + 1)))
      again = units_bounds (length (i ∷ is) + 1) (1 + (length is + 1)) (omega arith)
  deltas_bounds [] (j ∷ js) = units_bounds (length {A = Ix} [] + 1) 1 (omega arith)
  deltas_bounds (i ∷ is) [] = units_bounds (length (i ∷ is) + 1) 1 (omega arith)

  chosen_bounds : (c : Bool) (b at : List Ix) → Bounds (units (length b + 1)) (term_weight elements (if c then deltas b at else zero_term))
  chosen_bounds true b at = deltas_bounds b at
  chosen_bounds false b at = units_bounds (length b + 1) 1 (omega arith)

  chosen_directions : (c : Bool) (b at : List Ix) → term_directions elements (if c then deltas b at else zero_term) ≤ 1
  chosen_directions true b at = deltas_directions b at
  chosen_directions false b at = N.le_refl 1

  -- ---- by a component of a variable
  module _ (l : ℕ) (at : List Ix) where
    mutual
      variable_directions : (e : Term) → term_directions elements (by_variable l at e) ≤ term_directions elements e
      variable_directions (num c) = N.le_refl 1
      variable_directions (fun f b) = directions_positive elements (fun f b)
      variable_directions (mark m b e) =
          N.max-le (variable_directions e) (N.le_trans (chosen_directions (m == l) b at) (directions_positive elements e))
      variable_directions (neg a) = variable_directions a
      variable_directions (sum a b) = most _ _ _ _ (variable_directions a) (variable_directions b)
      variable_directions (prod a b) = both_most _ _ _ _ (variable_directions a) (variable_directions b)
      variable_directions (over i n b) = variable_directions b
      variable_directions (dx i b) = variable_directions b
      variable_directions (delta i j) = N.le_refl 1
      variable_directions (pick i ts) = all_variable_directions ts
      variable_directions (raise m b e) = directions_positive elements e
      variable_directions (turn f g e) = directions_positive elements e

      all_variable_directions : (ts : Terms) → items_directions elements (all_by_variable l at ts) ≤ items_directions elements ts
      all_variable_directions no_terms = N.le_refl 1
      all_variable_directions (term t ts) = most _ _ _ _ (variable_directions t) (all_variable_directions ts)

    mutual
      pub variable_bounds : (e : Term) → Bounds (linear_step (term_weight elements e)) (term_weight elements (by_variable l at e))
      variable_bounds (num c) = linear_one_bounds _ (term_sound elements (num c))
      variable_bounds (fun f b) = linear_one_bounds _ (term_sound elements (fun f b))
      variable_bounds (mark m b e) =
          label_through _ _ (term_sound elements e) (term_sound elements (by_variable l at e)) (variable_bounds e) (length b) _ (chosen_bounds (m == l) b at)
      variable_bounds (neg a) = variable_bounds a
      variable_bounds (sum a b) =
          plus_through _ _ _ _ (term_sound elements a) (term_sound elements (by_variable l at a)) (term_sound elements b) (term_sound elements (by_variable l at b))
          (variable_bounds a) (variable_bounds b)
      variable_bounds (prod a b) =
          times_through _ _ _ _ (term_sound elements a) (term_sound elements (by_variable l at a)) (term_sound elements b) (term_sound elements (by_variable l at b))
          (variable_bounds a) (variable_bounds b)
      variable_bounds (over i n b) = index_through _ _ (term_sound elements b) (term_sound elements (by_variable l at b)) (variable_bounds b) n
      variable_bounds (dx i b) =
          space_through _ _ (term_sound elements b) (term_sound elements (by_variable l at b)) (variable_bounds b)
          _ _ (directions_positive elements (by_variable l at b)) (variable_directions b)
      variable_bounds (delta i j) = linear_one_bounds _ (term_sound elements (delta i j))
      variable_bounds (pick i ts) = all_variable_bounds ts
      variable_bounds (raise m b e) = linear_one_bounds _ (term_sound elements (raise m b e))
      variable_bounds (turn f g e) = linear_one_bounds _ (term_sound elements (turn f g e))

      all_variable_bounds : (ts : Terms) → Bounds (linear_step (items_weight elements ts)) (items_weight elements (all_by_variable l at ts))
      all_variable_bounds no_terms = linear_one_bounds _ (items_sound elements no_terms)
      all_variable_bounds (term t no_terms) = variable_bounds t
      all_variable_bounds (term t (term u ts)) =
          join_through _ _ _ _ (term_sound elements t) (term_sound elements (by_variable l at t)) (items_sound elements (term u ts)) (items_sound elements (all_by_variable l at (term u ts)))
          (variable_bounds t) (all_variable_bounds (term u ts))

  -- ---- by a function
  module _ (w d : Role) where
    moved_directions : (c : Bool) (f : Function) (b : List Ix)
        → term_directions elements (if c then fun (record { role = d; element = f.element }) b else zero_term) ≤ function_directions elements f
    moved_directions true f b = N.le_refl _
    moved_directions false f b = directions_positive elements (fun f b)

    moved_bounds : (c : Bool) (f : Function) (b : List Ix)
        → Bounds (linear_step (term_weight elements (fun f b))) (term_weight elements (if c then fun (record { role = d; element = f.element }) b else zero_term))
    moved_bounds true f b = linear_more _ (term_sound elements (fun f b))
    moved_bounds false f b = linear_one_bounds _ (term_sound elements (fun f b))

    mutual
      linear_directions : (e : Term) → term_directions elements (linear w d e) ≤ term_directions elements e
      linear_directions (num c) = N.le_refl 1
      linear_directions (fun f b) = moved_directions (same_role f.role w) f b
      linear_directions (mark m b e) = linear_directions e
      linear_directions (neg a) = linear_directions a
      linear_directions (sum a b) = most _ _ _ _ (linear_directions a) (linear_directions b)
      linear_directions (prod a b) = both_most _ _ _ _ (linear_directions a) (linear_directions b)
      linear_directions (over i n b) = linear_directions b
      linear_directions (dx i b) = linear_directions b
      linear_directions (delta i j) = N.le_refl 1
      linear_directions (pick i ts) = all_linear_directions ts
      linear_directions (raise m b e) = directions_positive elements e
      linear_directions (turn f g e) = directions_positive elements e

      all_linear_directions : (ts : Terms) → items_directions elements (all_linear w d ts) ≤ items_directions elements ts
      all_linear_directions no_terms = N.le_refl 1
      all_linear_directions (term t ts) = most _ _ _ _ (linear_directions t) (all_linear_directions ts)

    mutual
      pub linear_keeps : (e : Term) → Bounds (linear_step (term_weight elements e)) (term_weight elements (linear w d e))
      linear_keeps (num c) = linear_one_bounds _ (term_sound elements (num c))
      linear_keeps (fun f b) = moved_bounds (same_role f.role w) f b
      linear_keeps (mark m b e) = label_drops _ _ (term_sound elements e) (term_sound elements (linear w d e)) (linear_keeps e) (length b)
      linear_keeps (neg a) = linear_keeps a
      linear_keeps (sum a b) =
          plus_through _ _ _ _ (term_sound elements a) (term_sound elements (linear w d a)) (term_sound elements b) (term_sound elements (linear w d b))
          (linear_keeps a) (linear_keeps b)
      linear_keeps (prod a b) =
          times_through _ _ _ _ (term_sound elements a) (term_sound elements (linear w d a)) (term_sound elements b) (term_sound elements (linear w d b))
          (linear_keeps a) (linear_keeps b)
      linear_keeps (over i n b) = index_through _ _ (term_sound elements b) (term_sound elements (linear w d b)) (linear_keeps b) n
      linear_keeps (dx i b) =
          space_through _ _ (term_sound elements b) (term_sound elements (linear w d b)) (linear_keeps b)
          _ _ (directions_positive elements (linear w d b)) (linear_directions b)
      linear_keeps (delta i j) = linear_one_bounds _ (term_sound elements (delta i j))
      linear_keeps (pick i ts) = all_linear_keeps ts
      linear_keeps (raise m b e) = linear_one_bounds _ (term_sound elements (raise m b e))
      linear_keeps (turn f g e) = linear_one_bounds _ (term_sound elements (turn f g e))

      all_linear_keeps : (ts : Terms) → Bounds (linear_step (items_weight elements ts)) (items_weight elements (all_linear w d ts))
      all_linear_keeps no_terms = linear_one_bounds _ (items_sound elements no_terms)
      all_linear_keeps (term t no_terms) = linear_keeps t
      all_linear_keeps (term t (term u ts)) =
          join_through _ _ _ _ (term_sound elements t) (term_sound elements (linear w d t)) (items_sound elements (term u ts)) (items_sound elements (all_linear w d (term u ts)))
          (linear_keeps t) (all_linear_keeps (term u ts))

  -- ---- expand
  renamed_length : (r : Renaming) (b : List Ix) → length (all_renamed r b) ≡ length b
  renamed_length r [] = refl
  renamed_length r (i ∷ is) = ap suc (renamed_length r is)

  mutual
    expand_directions : (e : Term) (r : Renaming) (n : ℕ) → term_directions elements (expand e r n) ≤ term_directions elements e
    expand_directions (num c) r n = N.le_refl 1
    expand_directions (fun f b) r n = N.le_refl _
    expand_directions (mark m b e) r n = expand_directions e r n
    expand_directions (neg a) r n = expand_directions a r n
    expand_directions (sum a b) r n = most _ _ _ _ (expand_directions a r n) (expand_directions b r n)
    expand_directions (prod a b) r n = most _ _ _ _ (expand_directions a r n) (expand_directions b r n)
    expand_directions (over i d b) r n = expand_directions b (with_index i (Named n) r) (suc n)
    expand_directions (dx i b) r n = expand_directions b r n
    expand_directions (delta i j) r n = N.le_refl 1
    expand_directions (pick i ts) r n = all_expand_directions ts r n
    expand_directions (raise l at e) r n = N.le_trans (variable_directions l (all_renamed r at) (expand e r n)) (expand_directions e r n)
    expand_directions (turn f g e) r n = N.le_trans (linear_directions f.role g.role (expand e r n)) (expand_directions e r n)

    all_expand_directions : (ts : Terms) (r : Renaming) (n : ℕ) → items_directions elements (expand_all ts r n) ≤ items_directions elements ts
    all_expand_directions no_terms r n = N.le_refl 1
    all_expand_directions (term t ts) r n = most _ _ _ _ (expand_directions t r n) (all_expand_directions ts r n)

  mutual
    pub expand_bounds : (e : Term) (r : Renaming) (n : ℕ) → Bounds (term_weight elements e) (term_weight elements (expand e r n))
    expand_bounds (num c) r n = bounds_refl _
    expand_bounds (fun f b) r n = bounds_refl _
    expand_bounds (mark m b e) r n = label_bounds (length b) (length (all_renamed r b)) (N.le_of_eq (renamed_length r b)) _ _ (expand_bounds e r n)
    expand_bounds (neg a) r n = expand_bounds a r n
    expand_bounds (sum a b) r n = plus_bounds _ _ _ _ (term_sound elements (expand a r n)) (expand_bounds a r n) (expand_bounds b r n)
    expand_bounds (prod a b) r n = times_bounds _ _ _ _ (expand_bounds a r n) (expand_bounds b r n)
    expand_bounds (over i d b) r n = index_bounds d d (N.le_refl d) _ _ (expand_bounds b (with_index i (Named n) r) (suc n))
    expand_bounds (dx i b) r n = space_bounds _ _ (expand_directions b r n) _ _ (expand_bounds b r n)
    expand_bounds (delta i j) r n = bounds_refl _
    expand_bounds (pick i ts) r n = all_expand_bounds ts r n
    expand_bounds (raise l at e) r n =
        bounds_trans _ (linear_step (term_weight elements (expand e r n))) _ (term_sound elements (expand e r n)).den
        (linear_bounds _ _ (expand_bounds e r n)) (variable_bounds l (all_renamed r at) (expand e r n))
    expand_bounds (turn f g e) r n =
        bounds_trans _ (linear_step (term_weight elements (expand e r n))) _ (term_sound elements (expand e r n)).den
        (linear_bounds _ _ (expand_bounds e r n)) (linear_keeps f.role g.role (expand e r n))

    all_expand_bounds : (ts : Terms) (r : Renaming) (n : ℕ) → Bounds (items_weight elements ts) (items_weight elements (expand_all ts r n))
    all_expand_bounds no_terms r n = bounds_refl _
    all_expand_bounds (term t no_terms) r n = expand_bounds t r n
    all_expand_bounds (term t (term u ts)) r n =
        join_bounds _ _ _ _ (term_sound elements (expand t r n)) (expand_bounds t r n) (all_expand_bounds (term u ts) r n)

  pub whatever_bounds : (w : Weight) (e : Term) (r : Renaming) (n : ℕ) → Bounds w (term_weight elements e) → Bounds w (term_weight elements (expand e r n))
  whatever_bounds w e r n h = bounds_trans w (term_weight elements e) (term_weight elements (expand e r n)) (term_sound elements e).den h (expand_bounds e r n)
